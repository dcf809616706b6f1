use Rattle.std.proofs.Common.{List, map, Ok, sym, subst, arith}
use Rattle.std.proofs.lemmas.Grind.{common_steps}
use Rattle.xp_decide.specs.Routes.{Follows, Visits}
use Rattle.xp_decide.specs.declared.visit.AddressOutcome.{AddressOutcome}
use Rattle.xp_explain.proofs.WayLemmas.{told_on}
use Rattle.xp_explain.specs.Way.{hop_of}
use Rattle.xp_explain.specs.declared.way.Hop.{Hop as ToldHop}
use Rattle.xp_explain.proofs.way.Way.of.Goals as goal

pub loop-hop-preserved : goal.loop-hop-preserved
loop-hop-preserved g c =
    let hop : ToldHop = record { address = c.loop-hop.last; reason = c.in-Ok-RedirectedTo.reason } in
    let P : List ToldHop → Type 0 = λ hops. Follows c.args.subs.now (g.L.Lines.states c.args.lines.now) c.args.wanted.now c.args.dialled.now (map hop_of hops) c.in-Ok-RedirectedTo.to.now in
    let V : AddressOutcome → Type 0 = λ visit. Visits c.args.subs.now (g.L.Lines.states c.args.lines.now) c.args.wanted.now c.loop-hop.last.now (Ok visit) in
    let leaves = subst V c.in-Ok-RedirectedTo.field-0-is c.in-Ok-RedirectedTo.ensures in (
      subst P (sym c.in_ok-push-in-Ok-RedirectedTo.ensures.items)
          (told_on c.args.subs.now (g.L.Lines.states c.args.lines.now) c.args.wanted.now c.args.dialled.now c.loop-hop.hops.items hop c.in-Ok-RedirectedTo.to.now c.loop-hop.invariant.0 leaves),
      grind (arith, common_steps, c.loop-hop.invariant.1, c.in_ok-push-in-Ok-RedirectedTo.ensures.items),
    )
