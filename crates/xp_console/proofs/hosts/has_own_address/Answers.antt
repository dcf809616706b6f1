-- A text is that of one address at most.
use Rattle.std.proofs.Common.{subst}
use Rattle.std.proofs.NetLemmas.Theorems.{IsIpText_unique}
use Rattle.xp_console.specs.Hosts.{IsOwnAddress}
use Rattle.xp_console.proofs.hosts.has_own_address.Goals as goal

pub returns-in-Ok : goal.returns-in-Ok
returns-in-Ok c = (
  λ is_own. (c.in-Ok.address, c.in-Ok.ensures, c.is_own_address.ensures.0 is_own),
  λ has. c.is_own_address.ensures.1 (subst (IsOwnAddress c.args.own) (IsIpText_unique c.args.text.now has.0 c.in-Ok.address has.1 c.in-Ok.ensures) has.2),
)
