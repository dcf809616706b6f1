use Rattle.std.proofs.Common.{◌<◌, arith, subst}
use Rattle.std.proofs.NetLemmas.Theorems.{IsSocketText_unique}
use Rattle.std.specs.Net.Socket.{socket_port}
use Rattle.xp_arguments.proofs.addresses.written_address.Goals as goal

-- a text writes one address at most, and the port of the one that was read is 0
pub returns-in_default-clause-none : goal.returns-in_default-clause-none
returns-in_default-clause-none c =
    λ address writes.
    let same = IsSocketText_unique _ _ _ writes.0 c.in-Ok.ensures in
    let above = subst (λ address. 0 < socket_port address) same writes.1 in
    omega (arith, above, c.port.ensures, c.if-port-gt0.false)
