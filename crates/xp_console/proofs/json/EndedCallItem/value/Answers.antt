use Rattle.std.proofs.Common.{sym}
use Rattle.xp_console.proofs.Floats.{ended_has_no_float, seen_without_float}
use Rattle.xp_console.proofs.json.EndedCallItem.value.Goals as goal

pub returns-clause-shown : goal.returns-clause-shown
returns-clause-shown c =
    rw (sym c.as_str.ensures.value, sym c.payer_text.ensures)
    (c.value.ensures _ (c.with-4.ensures _ _ (c.with_count-4.ensures _ (c.with_count-3.ensures _ (c.with_text-2.ensures _ (c.with_count-2.ensures _
    (c.with_count.ensures _ (c.with_text.ensures _ (c.with_optional.ensures _ (c.with-3.ensures _ _ (c.with-2.ensures _ _
    (c.with.ensures _ _ c.new.ensures c.optional_party_value.ensures) c.party_value.ensures) c.cleared_value.ensures)))))))) c.segments_value.ensures))

pub returns-clause-no_float : goal.returns-clause-no_float
returns-clause-no_float c = seen_without_float c.value.result _ (returns-clause-shown c) (ended_has_no_float c.args.self.now)
