use Rattle.std.proofs.Common.{sym}
use Rattle.xp_console.proofs.Floats.{line_has_no_float, seen_without_float}
use Rattle.xp_console.proofs.json.LineStatusItem.value.Goals as goal

pub returns-clause-shown : goal.returns-clause-shown
returns-clause-shown c =
    rw (sym c.as_str.ensures.value, sym c.as_str-2.ensures.value, sym c.as_str-3.ensures.value, sym c.state_text.ensures)
    (c.value.ensures _ (c.with_text-4.ensures _ (c.with_text-3.ensures _ (c.with_count.ensures _ (c.with_optional-2.ensures _ (c.with.ensures _ _
    (c.with_text-2.ensures _ (c.with_optional.ensures _ (c.with_text.ensures _ c.new.ensures))) c.peer_value.ensures))))))

pub returns-clause-no_float : goal.returns-clause-no_float
returns-clause-no_float c = seen_without_float c.value.result _ (returns-clause-shown c) (line_has_no_float c.args.self.now)
