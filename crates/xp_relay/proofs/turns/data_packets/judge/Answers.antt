use Rattle.std.proofs.Common.{refl, sym, ◌∙◌}
use Rattle.xp_relay.proofs.Endings.{decided, seen}
use Rattle.xp_relay.proofs.turns.data_packets.judge.Goals as goal

pub returns-then-owes-clause-judged : goal.returns-then-owes-clause-judged
returns-then-owes-clause-judged g c = λ s r hs hr. sym (decided (seen (λ k. k.owes) hr c.owes.ensures c.if-owes.true) refl refl refl)

pub returns-then-not-awaits-clause-judged : goal.returns-then-not-awaits-clause-judged
returns-then-not-awaits-clause-judged g c = λ s r hs hr.
    sym (decided (seen (λ k. k.owes) hr c.owes.ensures c.if-owes.false) (sym (c.awaits.ensures.awaited s hs) ∙ c.if-not-awaits.true) refl refl)
