use Rattle.std.proofs.Common.{refl}
use Rattle.xp_exchange.proofs.Heard.{fit_more}
use Rattle.xp_exchange.proofs.frames.read_events.Goals as goal

pub returns-in_ok-push_back-clause-fit : goal.returns-in_ok-push_back-clause-fit
returns-in_ok-push_back-clause-fit g c =
    fit_more c.args.arrival.line c.read_all.new.events.items c.push_back.new.self.items _ c.in_ok-read_all.ensures.fit (refl, (tt, refl)) c.in_ok-push_back.ensures.items
