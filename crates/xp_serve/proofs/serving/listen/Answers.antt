use Rattle.std.proofs.Common.{refl, subst}
use Rattle.xp_listening.specs.Hosts.{IsHost, IsNoHost}
use Rattle.xp_serve.proofs.serving.listen.Goals as goal

pub returns-in_default-clause-host : goal.returns-in_default-clause-host
returns-in_default-clause-host g c = λ none. refl

pub returns-in_default-clause-wanting : goal.returns-in_default-clause-wanting
returns-in_default-clause-wanting g c = subst IsNoHost c.host.ensures c.in_default.ensures.none

pub returns-clause-host : goal.returns-clause-host
returns-clause-host g c = λ none. absurd (none c.in-Some.host (subst (λ host. IsHost host c.in-Some.host) c.host.ensures c.in-Some.ensures.some))
