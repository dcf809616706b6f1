use Rattle.std.proofs.Common.{sym, subst}
use Rattle.xp_packets.specs.declared.packet.Packet.TheVariants.{ClearConfirm}
use Rattle.xp_answer.specs.Fields.{CanBeSent}
use Rattle.xp_answer.proofs.Informing.{confirmed_information}
use Rattle.xp_answer.proofs.information.clear_confirmation.Goals as goal

pub returns-clause-sent : goal.returns-clause-sent
returns-clause-sent g c =
    subst (λ block. CanBeSent (ClearConfirm block)) (sym c.information.ensures) (confirmed_information _ c.args.charging)
