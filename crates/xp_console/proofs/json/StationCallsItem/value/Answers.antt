use Rattle.std.proofs.Common.{sym}
use Rattle.xp_console.proofs.Floats.{station_has_no_float, seen_without_float}
use Rattle.xp_console.proofs.json.StationCallsItem.value.Goals as goal

pub returns-clause-shown : goal.returns-clause-shown
returns-clause-shown c =
    rw (sym c.as_str.ensures.value)
    (c.value.ensures _ (c.with_count-3.ensures _ (c.with_count-2.ensures _ (c.with_count.ensures _ (c.with_text.ensures _ c.new.ensures)))))

pub returns-clause-no_float : goal.returns-clause-no_float
returns-clause-no_float c = seen_without_float c.value.result _ (returns-clause-shown c) (station_has_no_float c.args.self.now)
