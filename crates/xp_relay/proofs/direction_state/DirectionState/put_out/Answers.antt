use Rattle.std.proofs.Common.{◌∙◌, ◌++◌, ◌+◌, ◌%◌, sym, subst, ap, arith}
use Rattle.xp_relay.specs.StoredDirection.{Represents}
use Rattle.xp_relay.proofs.Pictures.{put_all_shown, waiting_moves}
use Rattle.xp_relay.proofs.direction_state.DirectionState.put_out.Goals as goal

pub returns-clause-shown : goal.returns-clause-shown
returns-clause-shown g c = λ d h.
    let s = subst (λ k. Represents k d) (sym c.self.view_is) h in
    put_all_shown _ d _ _ s (omega (arith, c.len.ensures, c.self.inside.held.ok)) c.drained.ensures.empty

pub returns-clause-moves : goal.returns-clause-moves
returns-clause-moves g c = λ d h.
    let s = subst (λ k. Represents k d) (sym c.self.view_is) h in
    c.drained.ensures.moves ∙ ap (λ others. c.args.room.moves ++ others) (waiting_moves _ d c.args.side c.args.pr _ s (ap (λ n. (c.self.inside.oldest + c.self.inside.out) % n) c.numbers-numbers.ensures.numbers))
