use Rattle.std.proofs.Common.{refl}
use Rattle.xp_relay.proofs.Endings.{seen, otherwise, along}
use Rattle.xp_relay.specs.Turns.{flow_as}
use Rattle.xp_relay.proofs.turns.flow_control.flow.Goals as goal

pub returns-in-Some : goal.returns-in-Some
returns-in-Some g c = λ s r hs hr.
    otherwise _ (seen (λ k. k.owes) hr refl c.requires.ready)
    (along (λ o. flow_as c.args.here c.args.ready o s r) (c.in-Some.ensures.told r hr) (c.acknowledge.ensures s r hs hr))

pub returns-in-None : goal.returns-in-None
returns-in-None g c = λ s r hs hr.
    otherwise _ (seen (λ k. k.owes) hr refl c.requires.ready)
    (along (λ o. flow_as c.args.here c.args.ready o s r) (c.in-None.ensures.told r hr) (c.fail.ensures s r hs hr))
