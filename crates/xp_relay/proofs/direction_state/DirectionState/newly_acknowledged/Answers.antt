use Rattle.std.proofs.Common.{◌∙◌, sym, subst, ap, arith, ◌+◌}
use Rattle.std.specs.Option.{option_map}
use Rattle.xp_relay.specs.StoredDirection.{Represents}
use Rattle.xp_relay.proofs.Pictures.{told_none, told_ahead}
use Rattle.xp_relay.proofs.direction_state.DirectionState.newly_acknowledged.Goals as goal

pub returns-then-number-numbers-clause-told : goal.returns-then-number-numbers-clause-told
returns-then-number-numbers-clause-told g c = λ d h.
    let s = subst (λ k. Represents k d) (sym c.self.view_is) h in
    told_none c.args.number _ d s (omega (arith, c.numbers-numbers.ensures.numbers))

pub returns-clause-told : goal.returns-clause-told
returns-clause-told g c = λ d h.
    let s = subst (λ k. Represents k d) (sym c.self.view_is) h in
    told_ahead c.args.number _ d s (omega (arith, c.numbers-numbers.ensures.numbers))
    ∙ ap (option_map (λ more. d.acknowledged + more)) (rw (← c.numbers-numbers.ensures.numbers) (sym c.then_some.ensures))
