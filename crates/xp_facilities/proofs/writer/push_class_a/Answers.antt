use Rattle.std.proofs.Common.{◌∙◌, ap, take}
use Rattle.xp_facilities.specs.Indicated.{table, two_digit_index}
use Rattle.xp_facilities.proofs.Telling.{rows-more}
use Rattle.xp_facilities.proofs.writer.push_class_a.Goals as goal

pub returns : goal.returns
returns g c =
    let t = table c.args.told.now in
    let s1 = rows-more (take 0 t) 0x01 _ _ _ _ (c.options.ensures) c.requires c.in_ok-push.ensures in
    let s2 = rows-more (take 1 t) 0x02 _ _ _ _ (c.throughput.ensures) s1 c.in_ok-push-2.ensures in
    let s3 = rows-more (take 2 t) 0x03 _ _ _ _ (c.two_digit_index.ensures ∙ ap two_digit_index c.closed_index-closed.ensures) s2 c.in_ok-push-3.ensures in
    let s4 = rows-more (take 3 t) 0x08 _ _ _ _ (c.modified.ensures) s3 c.in_ok-push-4.ensures in
    rows-more (take 4 t) 0x09 _ _ _ _ (c.two_digit_index-2.ensures ∙ ap two_digit_index c.open_index-open.ensures) s4 c.in_ok-push-5.ensures
