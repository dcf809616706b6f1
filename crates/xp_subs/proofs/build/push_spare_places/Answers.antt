use Rattle.xp_subs.specs.Tables.{spare_place}
use Rattle.xp_subs.proofs.StepLemmas.{one_copy}
use Rattle.xp_subs.proofs.build.push_spare_places.Goals as goal

pub loop-place-preserved : goal.loop-place-preserved
loop-place-preserved c =
    rw c.in_ok-push.ensures.items
    (one_copy _ c.loop-place.places.items c.loop-place._place (spare_place c.args.modulus) c.spare_place.result c.spare_place.ensures c.loop-place.invariant)
