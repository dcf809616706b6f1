use Rattle.std.proofs.Common.{refl}
use Rattle.xp_relay.proofs.turns.resetting.request.Goals as goal

pub returns : goal.returns
returns g c = λ s r hs hr. record {
  sent = c.empty.ensures s hs;
  received = c.empty-2.ensures r hr;
  moves = rw (c.with_some.ensures.moves, c.with.ensures, c.requires.empty, c.indicating-told.ensures s hs, c.indicated_cause.ensures) refl;
}
