-- A text is that of one address at most.
use Rattle.std.proofs.Common.{subst}
use Rattle.std.proofs.NetLemmas.Theorems.{IsIpText_unique}
use Rattle.xp_summary.specs.OpenPorts.{IsLoopback}
use Rattle.xp_summary.proofs.open_ports.has_loopback_address.Goals as goal

pub returns-in-Ok : goal.returns-in-Ok
returns-in-Ok c = (
  λ is. (c.in-Ok.address, c.in-Ok.ensures.value, c.is_loopback.ensures.0 is),
  λ has. c.is_loopback.ensures.1 (subst IsLoopback (IsIpText_unique c.args.host.now has.0 c.in-Ok.address has.1 c.in-Ok.ensures.value) has.2),
)
