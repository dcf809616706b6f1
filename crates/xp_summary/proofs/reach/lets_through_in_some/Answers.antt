use Rattle.std.proofs.Common.{◌<◌, length, List, subst}
use Rattle.std.proofs.lemmas.Bool.{iff_false}
use Rattle.std.proofs.lemmas.List.{get_or_default}
use Rattle.std.proofs.lemmas.List.Elements.{AllWithin-more}
use Rattle.xp_subs.specs.declared.station.Membership.{Membership}
use Rattle.xp_summary.specs.steps.Ways.{LetsThroughIn}
use Rattle.xp_summary.proofs.reach.lets_through_in_some.Goals as goal

pub loop-held-preserved : goal.loop-held-preserved
loop-held-preserved c =
    let held : List Membership = c.args.caller.now.memberships.items in
    let L : Membership → Type 0 = λ one. LetsThroughIn c.args.caller.now c.args.called.now one in
    let N : List Membership → Type 0 = λ all. c.loop-held.held-index < length all in
    let below = subst N c.as_slice-held-items.ensures.value c.loop-held-test.true in
    let this = rw c.as_slice-held-items.ensures.value at c.lets_through_in.ensures in
    AllWithin-more (λ one. L one → ⊥) held 0 c.loop-held.held-index c.loop-held.invariant
    (λ d lets. iff_false this c.if-lets_through_in.false (subst L (get_or_default held c.loop-held.held-index d _ below) lets))
