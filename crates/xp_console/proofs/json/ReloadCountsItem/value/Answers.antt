use Rattle.xp_console.proofs.Floats.{reloads_has_no_float, seen_without_float}
use Rattle.xp_console.proofs.json.ReloadCountsItem.value.Goals as goal

pub returns-clause-shown : goal.returns-clause-shown
returns-clause-shown c =
    c.value.ensures _ (c.with_count-2.ensures _ (c.with_optional.ensures _ (c.with_count.ensures _ c.new.ensures)))

pub returns-clause-no_float : goal.returns-clause-no_float
returns-clause-no_float c = seen_without_float c.value.result _ (returns-clause-shown c) (reloads_has_no_float c.args.self.now)
