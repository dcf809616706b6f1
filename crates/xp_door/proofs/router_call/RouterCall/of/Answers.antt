use Rattle.std.proofs.Common.{subst}
use Rattle.xp_door.proofs.RouterCalls.{by_either}
use Rattle.xp_door.specs.steps.RouterCalls.{IsCallBy}
use Rattle.xp_packets.specs.declared.modulus.Modulus.TheVariants.{Eight}
use Rattle.xp_door.proofs.router_call.RouterCall.of.Goals as goal

pub returns-in-None : goal.returns-in-None
returns-in-None c =
    let peer = c.args.peer in
    let octets = c.args.packet.now in
    by_either peer octets c.by-in-None.result (subst (IsCallBy Eight peer octets) c.in-None.is c.in_ok-call.ensures) c.by-in-None.ensures
