use Rattle.xp_subs.specs.steps.Places.{Fills, Goes}
use Rattle.xp_subs.proofs.subs.Subs.fill.Given as goal

abbrev pub invariant-loop-line : goal.invariant-loop-line
invariant-loop-line l =
    Fills l.self l.next l.modulus l.line l.from l.places.of_lines.items l.places.holders.items
    × Goes l.self l.next l.modulus l.initial.places.of_lines.items l.initial.places.holders.items l.places.of_lines.items l.places.holders.items
