use Rattle.std.proofs.Common.{refl, take}
use Rattle.xp_facilities.specs.Indicated.{table}
use Rattle.xp_facilities.proofs.Telling.{rows-more}
use Rattle.xp_facilities.proofs.writer.push_class_d.Goals as goal

pub returns-clause-value : goal.returns-clause-value
returns-clause-value g c =
    let t = table c.args.told.now in
    let s1 = rows-more (take 9 t) 0xc1 _ _ _ _ (c.duration.ensures) c.requires c.in_ok-push.ensures in
    let s2 = rows-more (take 10 t) 0xc2 _ _ _ _ (c.counts.ensures) s1 c.in_ok-push-2.ensures in
    rows-more (take 11 t) 0xc3 _ _ _ _ refl s2 c.in_ok-push_redirection.ensures.value
