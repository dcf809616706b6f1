use Rattle.std.proofs.Common.{◌≡◌, ap, inl, inr, refl, subst, sym}
use Rattle.xp_relay.proofs.Endings.{along, otherwise, seen, still}
use Rattle.xp_relay.specs.steps.StoredDirection.{RepresentsTurn}
use Rattle.xp_relay.specs.Turns.{resetting, turn_of, unchanged}
use Rattle.xp_relay.proofs.turns.turn_when_ready.Goals as goal

pub returns-in-Ready-clause-ok : goal.returns-in-Ready-clause-ok
returns-in-Ready-clause-ok g c = rw (c.in-Ready.is) (c.flow.ensures)

pub returns-in-NotReady-clause-ok : goal.returns-in-NotReady-clause-ok
returns-in-NotReady-clause-ok g c = rw (c.in-NotReady.is) (c.flow-in-NotReady.ensures)

pub returns-in-Reject-clause-ok : goal.returns-in-Reject-clause-ok
returns-in-Reject-clause-ok g c = λ s r hs hr.
    rw (c.in-Reject.is) (otherwise _ (seen (λ k. k.owes) hr refl c.requires.ready) (c.fail.ensures s r hs hr))

pub returns-in-InterruptConfirm-clause-ok : goal.returns-in-InterruptConfirm-clause-ok
returns-in-InterruptConfirm-clause-ok g c = rw (c.in-InterruptConfirm.is) (c.interrupt_confirm.ensures)

pub returns-in-Reset-clause-ok : goal.returns-in-Reset-clause-ok
returns-in-Reset-clause-ok g c = λ s r hs hr.
    rw (c.in-Reset.is)
    (otherwise _ (seen (λ k. k.owes) hr refl c.requires.ready)
    (along (λ n. resetting c.args.here c.in-Reset.cause n s r) (sym c.indicated_diagnostic-diagnostic.ensures) (c.request.ensures s r hs hr)))

pub returns-in-ResetConfirm-clause-ok : goal.returns-in-ResetConfirm-clause-ok
returns-in-ResetConfirm-clause-ok g c = λ s r hs hr.
    rw (c.in-ResetConfirm.is) (otherwise _ (seen (λ k. k.owes) hr refl c.requires.ready) (c.fail-in-ResetConfirm.ensures s r hs hr))

pub returns-in_ok-copy-in-DataPacket-clause-ok : goal.returns-in_ok-copy-in-DataPacket-clause-ok
returns-in_ok-copy-in-DataPacket-clause-ok g c = rw (c.in-DataPacket.is, sym c.in_ok-copy-in-DataPacket.ensures) (c.carry.ensures)

pub returns-in_ok-copy-in-Interrupt-clause-ok : goal.returns-in_ok-copy-in-Interrupt-clause-ok
returns-in_ok-copy-in-Interrupt-clause-ok g c = rw (c.in-Interrupt.is, sym c.in_ok-copy-in-Interrupt.ensures) (c.interrupt.ensures)

pub returns-in-Call-clause-ok : goal.returns-in-Call-clause-ok
returns-in-Call-clause-ok g c = λ s r hs hr.
    let none : turn_of c.args.here c.args.packet.now ≡ unchanged = elim c.in-Call.is [
      | inl is ↦ ap (turn_of c.args.here) is.2
      | inr others ↦ elim others [
        | inl is ↦ ap (turn_of c.args.here) is.2
        | inr rest ↦ elim rest [
          | inl is ↦ ap (turn_of c.args.here) is.3
          | inr is ↦ ap (turn_of c.args.here) is.1
        ]
      ]
    ] in
    subst (λ turn. RepresentsTurn c.args.sent.now c.args.received.now c.args.room.moves (turn s r)) (sym none) (still hs hr c.requires.empty)
