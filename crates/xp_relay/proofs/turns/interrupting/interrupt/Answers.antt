use Rattle.std.proofs.Common.{refl, ap}
use Rattle.xp_relay.proofs.Endings.{seen, when, otherwise}
use Rattle.xp_relay.specs.Turns.{is_idle}
use Rattle.xp_relay.proofs.turns.interrupting.interrupt.Goals as goal

pub returns-else-is_idle : goal.returns-else-is_idle
returns-else-is_idle g c = λ s r hs hr.
    otherwise _ (seen (λ k. k.owes) hr refl c.requires.ready)
    (otherwise _ (seen (λ k. is_idle k.interrupt) hs c.is_idle.ensures c.if-is_idle.false) (c.fail.ensures s r hs hr))

pub returns-then-is_idle : goal.returns-then-is_idle
returns-then-is_idle g c = λ s r hs hr.
    otherwise _ (seen (λ k. k.owes) hr refl c.requires.ready)
    (when _ (seen (λ k. is_idle k.interrupt) hs c.is_idle.ensures c.if-is_idle.true)
    (record {
      sent = c.offer-goes.ensures.shown s hs;
      received = hr;
      moves = rw (c.with_some.ensures.moves, c.requires.empty, c.interrupts.ensures, c.offer-goes.ensures.goes, ap (λ k. k.owes) hs.shown, c.far.ensures) refl;
    }))
