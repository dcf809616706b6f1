use Rattle.std.proofs.Common.{append_assoc, rules}
use Rattle.xp_charge.proofs.AppendLemmas.{keeps_on}
use Rattle.xp_charge.proofs.record.Record.push_charge.Goals as goal

pub returns-in_err-push_number-clause-kept : goal.returns-in_err-push_number-clause-kept
returns-in_err-push_number-clause-kept g c = keeps_on _ _ _ c.push_field.ensures.kept c.in_err-push_number.ensures.kept

pub returns-in_err-push_number-2-clause-kept : goal.returns-in_err-push_number-2-clause-kept
returns-in_err-push_number-2-clause-kept g c =
    let first = keeps_on _ _ _ c.push_field.ensures.kept c.push_number.ensures.kept in
    keeps_on _ _ _ first c.in_err-push_number-2.ensures.kept

pub returns-in_err-push_octet-clause-kept : goal.returns-in_err-push_octet-clause-kept
returns-in_err-push_octet-clause-kept g c =
    let first = keeps_on _ _ _ c.push_field.ensures.kept c.push_number.ensures.kept in
    let second = keeps_on _ _ _ first c.push_number-2.ensures.kept in
    keeps_on _ _ _ second c.in_err-push_octet.ensures.kept

pub returns-in_err-push_number-3-clause-kept : goal.returns-in_err-push_number-3-clause-kept
returns-in_err-push_number-3-clause-kept g c =
    let first = keeps_on _ _ _ c.push_field.ensures.kept c.push_number.ensures.kept in
    let second = keeps_on _ _ _ first c.push_number-2.ensures.kept in
    let third = keeps_on _ _ _ second c.push_octet.ensures.kept in
    keeps_on _ _ _ third c.in_err-push_number-3.ensures.kept

pub returns-clause-ok : goal.returns-clause-ok
returns-clause-ok g c = search (rules, append_assoc)

pub returns-clause-kept : goal.returns-clause-kept
returns-clause-kept g c =
    let first = keeps_on _ _ _ c.push_field.ensures.kept c.push_number.ensures.kept in
    let second = keeps_on _ _ _ first c.push_number-2.ensures.kept in
    let third = keeps_on _ _ _ second c.push_octet.ensures.kept in
    let fourth = keeps_on _ _ _ third c.push_number-3.ensures.kept in
    keeps_on _ _ _ fourth c.push_number-4.ensures.kept
