use Rattle.std.proofs.Common.{◌≡◌, ◌+◌, ◌-◌, ◌≤◌, ◌++◌}
use Rattle.std.specs.Prelude.{vec_capacity, vec_len}
use Rattle.xp_door.specs.Marks.{ones}
use Rattle.xp_door.proofs.marks.push_ones.Given as goal

abbrev pub invariant-loop-digit : goal.invariant-loop-digit
invariant-loop-digit l =
    (l.places.items ++ ones (64 - l.digit) (l.first + l.digit) l.rest ≡ l.initial.places.items ++ ones 64 l.first l.word)
    × (vec_len l.places + (64 - l.digit) ≤ vec_capacity l.places)
