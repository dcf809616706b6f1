use Rattle.std.proofs.Common.{◌∙◌, ap, take}
use Rattle.xp_facilities.specs.Indicated.{table, four_digit_index}
use Rattle.xp_facilities.proofs.Telling.{rows-more}
use Rattle.xp_facilities.proofs.writer.push_class_b.Goals as goal

pub returns : goal.returns
returns g c =
    let t = table c.args.told.now in
    let s1 = rows-more (take 5 t) 0x42 _ _ _ _ (c.pair.ensures) c.requires c.in_ok-push.ensures in
    let s2 = rows-more (take 6 t) 0x43 _ _ _ _ (c.pair-2.ensures) s1 c.in_ok-push-2.ensures in
    let s3 = rows-more (take 7 t) 0x47 _ _ _ _ (c.four_digit_index.ensures ∙ ap four_digit_index c.closed_index-closed.ensures) s2 c.in_ok-push-3.ensures in
    rows-more (take 8 t) 0x48 _ _ _ _ (c.four_digit_index-2.ensures ∙ ap four_digit_index c.open_index-open.ensures) s3 c.in_ok-push-4.ensures
