use Rattle.std.proofs.Common.{Err, subst}
use Rattle.xp_decide.proofs.Joined.{taken_may_join, taken_is_free}
use Rattle.xp_decide.proofs.Refused.{refusal_known}
use Rattle.xp_decide.proofs.Written.{told_sizes, told_can_be_written}
use Rattle.xp_decide.specs.steps.Decided.{PutsThrough}
use Rattle.xp_decide.specs.declared.fault.CallFault.{CallFault}
use Rattle.xp_decide.proofs.decision.decide.Goals as goal

pub returns-in-Ok-clause-free : goal.returns-in-Ok-clause-free
returns-in-Ok-clause-free g c = taken_is_free _ _ _ _ _ c.counts.ensures.sound c.in-Ok.ensures

pub returns-in-Ok-clause-joined : goal.returns-in-Ok-clause-joined
returns-in-Ok-clause-joined g c = taken_may_join _ _ _ _ _ c.counts.ensures.sound c.in-Ok.ensures

pub returns-in-Ok-clause-indicated : goal.returns-in-Ok-clause-indicated
returns-in-Ok-clause-indicated g c = told_sizes _ _ _ _ _ c.in-Ok.ensures

pub returns-in-Ok-clause-written : goal.returns-in-Ok-clause-written
returns-in-Ok-clause-written g c = told_can_be_written _ _ _ _ c.counts.ensures.sound c.len.ensures.most _ c.in-Ok.ensures

pub returns-in-Err-Refused-clause-decided : goal.returns-in-Err-Refused-clause-decided
returns-in-Err-Refused-clause-decided g c =
    let P : CallFault → Type 0 = λ fault. PutsThrough c.args.subs.now (g.L.Lines.states c.args.lines.now) c.args.from c.args.block.now (Err fault) in
    subst P c.in-Err-Refused.field-0-is c.in-Err-Refused.ensures

pub returns-in-Err-Refused-clause-refused : goal.returns-in-Err-Refused-clause-refused
returns-in-Err-Refused-clause-refused g c =
    let P : CallFault → Type 0 = λ fault. PutsThrough c.args.subs.now (g.L.Lines.states c.args.lines.now) c.args.from c.args.block.now (Err fault) in
    refusal_known _ _ _ _ _ (subst P c.in-Err-Refused.field-0-is c.in-Err-Refused.ensures)
