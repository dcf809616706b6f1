use Rattle.std.proofs.Common.{refl, ap}
use Rattle.xp_relay.specs.Turns.{held_interrupt, settled}
use Rattle.xp_relay.proofs.turns.resetting.settle.Goals as goal

pub returns : goal.returns
returns g c = λ s r hs hr.
    let back = c.settle-waited.ensures.shown r hr in
    record {
      sent = hs;
      received = c.release.ensures.shown (settled r) back;
      moves = rw (c.release.ensures.moves (settled r) back, c.with_some-room.ensures.moves, c.with_some.ensures.moves, c.requires.empty, c.not_ready_notice.ensures s hs, c.interrupts.ensures, c.settle-waited.ensures.waited, ap (λ k. held_interrupt k.interrupt) hr.shown, c.received_number.ensures, ap (λ k. k.pr) hs.shown) refl;
    }
