use Rattle.std.proofs.Common.{◌≡◌, ℕ, ◌<◌, get_or, length}
use Rattle.xp_subs.specs.Tables.{no_line}
use Rattle.xp_subs.specs.steps.Places.{held_line, number_at}
use Rattle.xp_subs.proofs.subs.Subs.lines_at.Given as goal

abbrev pub invariant-loop-at : goal.invariant-loop-at
invariant-loop-at l =
    (length l.lines.items ≡ l.at)
    × ((k : ℕ) → k < l.at → get_or l.lines.items k no_line ≡ held_line l.next (number_at l.holders k) (get_or l.place-items k no_line).modulus)
