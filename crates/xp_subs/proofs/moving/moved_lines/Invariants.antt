use Rattle.std.proofs.Common.{◌≡◌, ◌++◌, drop, length, map}
use Rattle.xp_subs.specs.steps.Places.{number_at}
use Rattle.xp_subs.proofs.moving.moved_lines.Given as goal

abbrev pub invariant-loop-line : goal.invariant-loop-line
invariant-loop-line l =
    (l.moved.items ++ map (number_at l.places) (drop l.line-index l.line-items) ≡ map (number_at l.places) l.line-items)
    × (length l.moved.items ≡ l.line-index)
