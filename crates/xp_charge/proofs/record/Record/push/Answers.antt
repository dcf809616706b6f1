use Rattle.std.proofs.Common.{append_assoc, rules}
use Rattle.xp_charge.proofs.AppendLemmas.{keeps_appended, keeps_on}
use Rattle.xp_charge.proofs.record.Record.push.Goals as goal

pub returns-in_err-push_call-clause-kept : goal.returns-in_err-push_call-clause-kept
returns-in_err-push_call-clause-kept g c =
    let begun = keeps_appended _ _ _ c.in_ok-extend_from_slice.ensures.items in
    keeps_on _ _ _ begun c.in_err-push_call.ensures.kept

pub returns-in_err-push_charge-clause-kept : goal.returns-in_err-push_charge-clause-kept
returns-in_err-push_charge-clause-kept g c =
    let begun = keeps_appended _ _ _ c.in_ok-extend_from_slice.ensures.items in
    keeps_on _ _ _ begun (keeps_on _ _ _ c.push_call.ensures.kept c.in_err-push_charge.ensures.kept)

pub returns-in_err-push-clause-kept : goal.returns-in_err-push-clause-kept
returns-in_err-push-clause-kept g c =
    let begun = keeps_appended _ _ _ c.in_ok-extend_from_slice.ensures.items in
    rw c.in_err-push.ensures.items (keeps_on _ _ _ begun (keeps_on _ _ _ c.push_call.ensures.kept c.push_charge.ensures.kept))

pub returns-clause-ok : goal.returns-clause-ok
returns-clause-ok g c = search (rules, append_assoc)

pub returns-clause-kept : goal.returns-clause-kept
returns-clause-kept g c =
    let begun = keeps_appended _ _ _ c.in_ok-extend_from_slice.ensures.items in
    let charged = keeps_on _ _ _ c.push_call.ensures.kept c.push_charge.ensures.kept in
    keeps_on _ _ _ begun (keeps_on _ _ _ charged (keeps_appended _ _ _ c.in_ok-push.ensures.items))
