use Rattle.std.proofs.Common.{refl, ap, ◌+◌}
use Rattle.xp_relay.specs.Turns.{acknowledged_to}
use Rattle.xp_relay.proofs.turns.flow_control.acknowledge.Goals as goal

pub returns : goal.returns
returns g c = λ s r hs hr.
    let counted = c.acknowledge.ensures r hr in
    let less = c.set_ready.ensures (acknowledged_to r.ready (r.acknowledged + c.args.more) r) counted in
    let after = acknowledged_to c.args.ready (r.acknowledged + c.args.more) r in
    record {
      sent = hs;
      received = c.release.ensures.shown after less;
      moves = rw (c.with_some.ensures.moves, c.release.ensures.moves after less, c.requires.empty, c.received_number.ensures, ap (λ k. k.pr) hs.shown, c.flow_notice-told.ensures s after hs less, c.is_news-news.ensures r hr) refl;
    }
