use Rattle.xp_console.proofs.Floats.{totals_has_no_float, seen_without_float}
use Rattle.xp_console.proofs.json.TotalsItem.value.Goals as goal

pub returns-clause-shown : goal.returns-clause-shown
returns-clause-shown c =
    c.value.ensures _ (c.with_count-10.ensures _ (c.with_count-9.ensures _ (c.with_count-8.ensures _ (c.with-2.ensures _ _ (c.with_count-7.ensures _
    (c.with.ensures _ _ (c.with_count-6.ensures _ (c.with_count-5.ensures _ (c.with_count-4.ensures _ (c.with_count-3.ensures _ (c.with_count-2.ensures _
    (c.with_count.ensures _ c.new.ensures)))))) c.causes_value.ensures)) c.causes_value-2.ensures))))

pub returns-clause-no_float : goal.returns-clause-no_float
returns-clause-no_float c = seen_without_float c.value.result _ (returns-clause-shown c) (totals_has_no_float c.args.self.now)
