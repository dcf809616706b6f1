use Rattle.std.proofs.Common.{inl, inr, refl, subst, sym}
use Rattle.xp_relay.proofs.Endings.{dropped, seen, still, when}
use Rattle.xp_relay.specs.steps.StoredDirection.{RepresentsTurn}
use Rattle.xp_relay.proofs.turns.turn_after_reset.Goals as goal

pub returns-in-Reset : goal.returns-in-Reset
returns-in-Reset g c = λ s r hs hr.
    let owed = seen (λ k. k.owes) hr refl c.requires.owes in
    elim c.in-Reset.is [
      | inl is ↦ rw is.2 (when _ owed (c.settle.ensures s r hs hr))
      | inr is ↦ rw is (when _ owed (c.settle.ensures s r hs hr))
    ]

pub returns-in_default : goal.returns-in_default
returns-in_default g c = λ s r hs hr.
    let still_so = dropped c.args.here c.args.packet.now s r (seen (λ k. k.owes) hr refl c.requires.owes) c.in_default.not-Reset c.in_default.not-ResetConfirm in
    subst (λ turn. RepresentsTurn c.args.sent.now c.args.received.now c.args.room.moves turn) (sym still_so) (still hs hr c.requires.empty)
