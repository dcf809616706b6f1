use Rattle.std.proofs.Common.{Ok, refl, subst, arith}
use Rattle.std.proofs.lemmas.Result.{err_from_is_err_and}
use Rattle.xp_decide.proofs.Hops.{earlier_is}
use Rattle.xp_decide.specs.Routes.{Visits}
use Rattle.xp_decide.specs.Routes as routes
use Rattle.xp_decide.specs.declared.visit.AddressOutcome.{AddressOutcome}
use Rattle.xp_decide.proofs.route.reach.Goals as goal

pub returns-in_err-why : goal.returns-in_err-why
returns-in_err-why g c =
    let way = c.loop-hops.invariant in
    let p = err_from_is_err_and c.from_residual.result c.from_residual.ensures.1 in
    rw (p.1, p.2) (routes.refused way.hops c.loop-hops.address.now c.in_err-why.field-0.0 way.follows (omega (arith, way.counted))
    c.in_err-why.ensures.0 c.in_err-why.ensures.1 refl)

pub returns-in-Taken : goal.returns-in-Taken
returns-in-Taken g c =
    let way = c.loop-hops.invariant in
    let P : AddressOutcome → Type 0 = λ visit. Visits c.args.subs.now (g.L.Lines.states c.args.lines.now) c.args.wanted.now c.loop-hops.address.now (Ok visit) in
    let takes = subst P c.in-Taken.is c.in_ok-why.ensures in
    routes.taken way.hops c.loop-hops.address.now c.in-Taken.line c.in-Taken.admission way.follows (omega (arith, way.counted))
    takes.0 takes.1 (cc (way.first))

pub loop-hops-preserved : goal.loop-hops-preserved
loop-hops-preserved g c =
    let P : AddressOutcome → Type 0 = λ visit. Visits c.args.subs.now (g.L.Lines.states c.args.lines.now) c.args.wanted.now c.loop-hops.address.now (Ok visit) in
    earlier_is _ _ _ _ _ _ _ _ _ _ c.or-reason.ensures c.loop-hops.invariant (subst P c.in-RedirectedTo.is c.in_ok-why.ensures)

pub returns : goal.returns
returns g c =
    let way = c.loop-hops.invariant in
    routes.too_many way.hops c.loop-hops.address.now way.follows (omega (arith, way.counted)) refl
