use Rattle.std.proofs.Common.{◌≡◌}
use Rattle.xp_transcript.specs.Places.{renewed_places}
use Rattle.xp_transcript.proofs.places.Places.renew.Given as goal

abbrev pub invariant-loop-number : goal.invariant-loop-number
invariant-loop-number l = l.self ≡ renewed_places l.old l.next l.fn.self l.number
