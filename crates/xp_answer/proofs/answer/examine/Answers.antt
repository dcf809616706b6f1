use Rattle.std.proofs.Common.{Err, sym, subst}
use Rattle.xp_answer.proofs.Sent.{connected_sent}
use Rattle.xp_answer.proofs.Settled.{connection_settled}
use Rattle.xp_answer.specs.Answered.{Declines}
use Rattle.xp_answer.specs.steps.Examined.{Examines}
use Rattle.xp_answer.specs.declared.fault.AnswerFault.{AnswerFault}
use Rattle.xp_answer.proofs.answer.examine.Goals as goal

pub returns-in-Err-Refused-clause-answered : goal.returns-in-Err-Refused-clause-answered
returns-in-Err-Refused-clause-answered g c =
    let P : AnswerFault → Type 0 = λ fault. Examines c.args.setup.now c.args.accepted.now.block.now (Err fault) in
    let declines = subst P c.in-Err-Refused.field-0-is c.in-Err-Refused.ensures in
    subst (λ diagnostic. Declines c.args.setup.now c.args.accepted.now.block.now diagnostic) (sym c.in-Err-Refused.diagnostic-is) declines

pub returns-in_ok-connection-in-Ok-clause-settled : goal.returns-in_ok-connection-in-Ok-clause-settled
returns-in_ok-connection-in-Ok-clause-settled g c modulus terms =
    connection_settled modulus c.args.setup.now _ _ _ c.args.accepted.now.block.now c.in-Ok.asked _ terms c.in-Ok.ensures c.in_ok-connection-in-Ok.ensures

pub returns-in_ok-connection-in-Ok-clause-sent : goal.returns-in_ok-connection-in-Ok-clause-sent
returns-in_ok-connection-in-Ok-clause-sent g c few =
    connected_sent c.args.setup.now _ _ _ c.args.accepted.now.block.now c.in-Ok.asked _ few c.in_ok-connection-in-Ok.ensures
