use Rattle.std.proofs.Common.{sym, ◌∙◌}
use Rattle.std.proofs.lemmas.Nat.{and_mask}
use Rattle.std.proofs.lemmas.Bool.{cond-true, cond-false, eq-eqb, ne_eqb}
use Rattle.xp_packets.proofs.HalfOctets.{halves_at}
use Rattle.xp_packets.proofs.address.half_octet.Goals as goal

pub returns-then-place-eq0 : goal.returns-then-place-eq0
returns-then-place-eq0 c = sym (halves_at c.args.octets.now c.args.place ∙ cond-true _ _ _ (eq-eqb _ _ c.if-place-eq0.true))

pub returns-else-place-eq0 : goal.returns-else-place-eq0
returns-else-place-eq0 c = and_mask _ 4 ∙ sym (halves_at c.args.octets.now c.args.place ∙ cond-false _ _ _ (ne_eqb _ _ c.if-place-eq0.false))
