use Rattle.std.proofs.Common.{refl, ap, ◌+◌}
use Rattle.xp_relay.specs.Turns.{acknowledged_to, with_data}
use Rattle.xp_relay.proofs.turns.data_packets.accept.Goals as goal

pub returns : goal.returns
returns g c = λ s r hs hr.
    let less = c.acknowledge.ensures r hr in
    let more = c.accept.ensures s hs in
    let after = acknowledged_to r.ready (r.acknowledged + c.args.more) r in
    record {
      sent = c.release.ensures.shown (with_data c.args.carried s) more;
      received = less;
      moves = rw (c.with_some.ensures.moves, c.release.ensures.moves (with_data c.args.carried s) more, c.requires.empty, c.far.ensures, c.received_number.ensures, ap (λ k. k.pr) less.shown, c.flow_notice-told.ensures s after hs less, c.is_untold-news.ensures s r.acknowledged hs) refl;
    }
