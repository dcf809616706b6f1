use Rattle.std.proofs.Common.{subst}
use Rattle.xp_door.specs.Openings.{IsOpening}
use Rattle.xp_door.specs.RouterCalls.{IsCallOf}
use Rattle.xp_door.proofs.callers.Caller.standing_by.Goals as goal

pub returns-in-Ok : goal.returns-in-Ok
returns-in-Ok c =
    let packet = c.in-Ok-Packet.packet in
    let opened = subst (IsOpening c.args.octets.now) c.in-Ok-Packet.field-0-is c.in-Ok-Packet.ensures in
    let spelled = subst (λ octets. IsCallOf c.ip.result octets c.in-Ok.call) c.deref.ensures.value c.in-Ok.ensures in
    (packet, opened, subst (λ peer. IsCallOf peer packet.items c.in-Ok.call) c.ip.ensures spelled)

pub returns-in-Ok-Packet : goal.returns-in-Ok-Packet
returns-in-Ok-Packet c = c.standing_in_time.ensures c.args.octets.now

pub returns : goal.returns
returns c = c.standing_in_time-in-Ok-Partial.ensures c.args.octets.now
