use Rattle.std.proofs.Common.{◌+◌, subst, sym}
use Rattle.xp_listening.specs.NextPlaces.{AreFirstPlaces}
use Rattle.xp_listening.proofs.Places.{places_more}
use Rattle.xp_listening.proofs.next_places.prepare.Goals as goal

pub loop-line-preserved : goal.loop-line-preserved
loop-line-preserved g c =
    let force = c.args.in_force.now in
    let next = c.args.next.now in
    let line = c.loop-line.line in
    let one = c.in_ok-add_place.ensures.one in
    subst (AreFirstPlaces force next (line + 1)) (sym one.1)
    (places_more force next line c.loop-line.ports one.0 c.loop-line.invariant one.2)
