use Rattle.std.proofs.Common.{Some, sym, subst}
use Rattle.xp_packets.specs.declared.packet.Packet.TheVariants.{Clear}
use Rattle.xp_answer.specs.Fields.{CanBeSent}
use Rattle.xp_answer.proofs.Informing.{cleared_information}
use Rattle.xp_answer.proofs.information.clear_indication.Goals as goal

pub returns-clause-sent : goal.returns-clause-sent
returns-clause-sent g c =
    subst (λ block. CanBeSent (Clear c.args.cause (Some c.args.diagnostic) block)) (sym c.information.ensures)
    (cleared_information _ c.args.cause c.args.diagnostic c.args.charging)
