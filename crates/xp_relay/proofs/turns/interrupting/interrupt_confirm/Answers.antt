use Rattle.std.proofs.Common.{refl}
use Rattle.xp_relay.proofs.Endings.{seen, when, otherwise}
use Rattle.xp_relay.specs.Turns.{is_put_out}
use Rattle.xp_relay.proofs.turns.interrupting.interrupt_confirm.Goals as goal

pub returns-else-has_put_interrupt : goal.returns-else-has_put_interrupt
returns-else-has_put_interrupt g c = λ s r hs hr.
    otherwise _ (seen (λ k. k.owes) hr refl c.requires.ready)
    (otherwise _ (seen (λ k. is_put_out k.interrupt) hr c.has_put_interrupt.ensures c.if-has_put_interrupt.false) (c.fail.ensures s r hs hr))

pub returns-then-has_put_interrupt : goal.returns-then-has_put_interrupt
returns-then-has_put_interrupt g c = λ s r hs hr.
    otherwise _ (seen (λ k. k.owes) hr refl c.requires.ready)
    (when _ (seen (λ k. is_put_out k.interrupt) hr c.has_put_interrupt.ensures c.if-has_put_interrupt.true)
    (record { sent = hs; received = c.end_interrupt.ensures r hr; moves = rw (c.with.ensures, c.requires.empty, c.far.ensures) refl }))
