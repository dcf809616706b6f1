use Rattle.std.proofs.Common.{◌≡◌, ◌++◌, replicate}
use Rattle.xp_subs.specs.Tables.{spare_place}
use Rattle.xp_subs.proofs.build.push_spare_places.Given as goal

abbrev pub invariant-loop-place : goal.invariant-loop-place
invariant-loop-place l = l.places.items ≡ l.initial.places.items ++ replicate l._place (spare_place l.modulus)
