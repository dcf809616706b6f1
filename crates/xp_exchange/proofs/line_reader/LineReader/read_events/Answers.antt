use Rattle.std.proofs.Common.{refl}
use Rattle.std.proofs.lemmas.Result.{on_ok_weaker}
use Rattle.xp_exchange.proofs.line_reader.LineReader.read_events.Goals as goal

pub returns-in-Up-clause-plays : goal.returns-in-Up-clause-plays
returns-in-Up-clause-plays g c = rw (c.in-Up.is) (on_ok_weaker c.put.result (λ events. (events, c.rise.ensures.streams, refl)) c.put.ensures)

pub returns-in-Down-clause-plays : goal.returns-in-Down-clause-plays
returns-in-Down-clause-plays g c = rw (c.in-Down.is) (on_ok_weaker c.put-in-Down.result (λ events. (events, refl, refl)) c.put-in-Down.ensures)

pub returns-in-Expire-clause-plays : goal.returns-in-Expire-clause-plays
returns-in-Expire-clause-plays g c = rw (c.in-Expire.is) (on_ok_weaker c.put-in-Expire.result (λ events. (events, refl, refl)) c.put-in-Expire.ensures)

pub returns-in-In-clause-plays : goal.returns-in-In-clause-plays
returns-in-In-clause-plays g c = rw (c.in-In.is) c.read_octets.ensures.plays
