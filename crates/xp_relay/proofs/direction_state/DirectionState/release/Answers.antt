use Rattle.std.proofs.Common.{◌∙◌, ◌++◌, sym, subst, ap}
use Rattle.xp_relay.specs.StoredDirection.{Represents}
use Rattle.xp_relay.proofs.Pictures.{open_shown, release_open, released_open}
use Rattle.xp_relay.proofs.direction_state.DirectionState.release.Goals as goal

pub returns-then-is_open-clause-shown : goal.returns-then-is_open-clause-shown
returns-then-is_open-clause-shown g c = λ d h.
    let opened = sym (open_shown _ d h) ∙ sym c.is_open.ensures ∙ c.if-is_open.true in
    subst (λ x. Represents c.put_out.new.self x) (sym (release_open d opened)) (c.put_out.ensures.shown d h)

pub returns-then-is_open-clause-moves : goal.returns-then-is_open-clause-moves
returns-then-is_open-clause-moves g c = λ d h.
    let opened = sym (open_shown _ d h) ∙ sym c.is_open.ensures ∙ c.if-is_open.true in
    c.put_out.ensures.moves d h ∙ ap (λ others. c.args.room.moves ++ others) (sym (released_open c.args.side c.args.pr d opened))
