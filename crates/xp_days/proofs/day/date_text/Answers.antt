use Rattle.std.proofs.Common.{arith, w64, ◌∙◌}
use Rattle.std.proofs.lemmas.Int.{to_z_pos}
use Rattle.jiff_core.proofs.DateLemmas.{civil}
use Rattle.xp_cdr.proofs.MomentLemmas.{date_is}
use Rattle.xp_days.proofs.day.date_text.Goals as goal

pub returns : goal.returns
returns c =
    let date = c.unwrap-date.result in
    let day = rw c.unwrap-date.ensures at c.from_unix_epoch_day.ensures.value in
    c.date_text.ensures
    ∙ date_is date.year date.month date.day c.args.day (civil date) (day ∙ to_z_pos w64 c.args.day (omega (arith, c.requires)))
