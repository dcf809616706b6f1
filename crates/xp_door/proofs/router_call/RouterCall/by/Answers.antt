use Rattle.std.proofs.Common.{Err, arith, subst, sym}
use Rattle.std.specs.declared.alloc.Global.{Global as Alloc}
use Rattle.xp_door.proofs.RouterCalls.{call_by, none_malformed}
use Rattle.xp_door.specs.steps.RouterCalls.{IsCallBy}
use Rattle.xp_packets.specs.Decoding.{Decodes}
use Rattle.xp_door.proofs.router_call.RouterCall.by.Goals as goal

pub returns-in-Ok : goal.returns-in-Ok
returns-in-Ok c =
    let octets = c.args.packet.now in
    subst (IsCallBy c.args.modulus c.args.peer octets) (sym c.in_packet.ensures)
    (call_by c.either_spelled_or_malformed.ensures c.args.modulus octets (λ i. omega (arith, c.type_inv.packet i)) c.args.peer c.in-Ok.identifier c.in-Ok.packet c.in-Ok.ensures.decoded)

pub returns-in-Err-Malformed : goal.returns-in-Err-Malformed
returns-in-Err-Malformed c =
    let octets = c.args.packet.now in
    let wrong = subst (λ fault. Decodes {A = Alloc} c.args.modulus octets (Err fault)) c.in-Err-Malformed.field-0-is c.in-Err-Malformed.ensures.decoded in
    none_malformed c.either_spelled_or_malformed.ensures c.args.modulus octets (λ i. omega (arith, c.type_inv.packet i)) c.in-Err-Malformed.field-0-0 wrong
