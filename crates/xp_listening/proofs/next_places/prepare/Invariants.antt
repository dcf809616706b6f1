use Rattle.xp_listening.specs.NextPlaces.{AreFirstPlaces}
use Rattle.xp_listening.proofs.next_places.prepare.Given as goal

abbrev pub invariant-loop-line : goal.invariant-loop-line
invariant-loop-line g l = AreFirstPlaces l.in_force l.next l.line l.ports
