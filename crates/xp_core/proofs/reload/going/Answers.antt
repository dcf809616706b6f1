use Rattle.std.proofs.Common.{rules, ◌≡◌, ◌∷◌, ◌++◌, [], ◌+◌, sym, subst}
use Rattle.xp_core.specs.Reload.{MustGo}
use Rattle.xp_core.specs.steps.Reload.{AreGoingBelow}
use Rattle.xp_core.proofs.Going.{goes_below, stays_below}
use Rattle.xp_core.proofs.reload.going.Goals.{then-must_go+in_ok-push, else-must_go}
use Rattle.xp_core.proofs.reload.going.Goals as goal

pub loop-number-preserved : goal.loop-number-preserved
loop-number-preserved g c =
    let force = c.args.force.now in
    let machine = c.args.machine.now in
    let next = c.args.next.now in
    let number = c.loop-number.number in
    let lines = c.loop-number.lines.items in
    elim c.if-must_go.branch [
      | then-must_go+in_ok-push w ↦
          let is : c.if-must_go.lines.items ≡ lines ++ number ∷ [] = search rules in
          let must : MustGo force machine next number = search rules in
          subst (AreGoingBelow force machine next (number + 1)) (sym is) (goes_below force machine next number lines c.loop-number.invariant must)
      | else-must_go w ↦
          let is : c.if-must_go.lines.items ≡ lines = search rules in
          let stays : MustGo force machine next number → ⊥ = search rules in
          subst (AreGoingBelow force machine next (number + 1)) (sym is) (stays_below force machine next number lines c.loop-number.invariant stays)
    ]
