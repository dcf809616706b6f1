use Rattle.std.proofs.Common.{append_assoc, rules}
use Rattle.xp_charge.proofs.AppendLemmas.{keeps_on}
use Rattle.xp_charge.proofs.record.Record.push_call.Goals as goal

pub returns-in_err-push_field-clause-kept : goal.returns-in_err-push_field-clause-kept
returns-in_err-push_field-clause-kept g c = keeps_on _ _ _ c.push_number.ensures.kept c.in_err-push_field.ensures.kept

pub returns-in_err-push_field-2-clause-kept : goal.returns-in_err-push_field-2-clause-kept
returns-in_err-push_field-2-clause-kept g c =
    let first = keeps_on _ _ _ c.push_number.ensures.kept c.push_field.ensures.kept in
    keeps_on _ _ _ first c.in_err-push_field-2.ensures.kept

pub returns-clause-ok : goal.returns-clause-ok
returns-clause-ok g c = search (rules, append_assoc)

pub returns-clause-kept : goal.returns-clause-kept
returns-clause-kept g c =
    let first = keeps_on _ _ _ c.push_number.ensures.kept c.push_field.ensures.kept in
    let second = keeps_on _ _ _ first c.push_field-2.ensures.kept in
    keeps_on _ _ _ second c.push_digits.ensures.kept
