use Rattle.std.proofs.Common.{subst, sym}
use Rattle.xp_exchange.specs.FrameEvents.{IsReadAs}
use Rattle.xp_exchange.proofs.Heard.{ReadSoFar, read_next}
use Rattle.xp_exchange.proofs.frames.read_all.Goals as goal

pub loop-packet-preserved : goal.loop-packet-preserved
loop-packet-preserved g c =
    subst (λ stream. ReadSoFar c.args.arrival.modulus c.args.arrival.line c.args.arrival.moment c.args.stream.now stream c.push_back.new.self.items) (sym c.reuse.ensures)
    (read_next _ _ _ _ _ _ _ _ c.in-Some.packet.items c.in_ok-event.event c.loop-packet.invariant c.in-Some.ensures
    c.in_ok-push_back.ensures.items c.in_ok-event.ensures.line c.in_ok-event.ensures.moment
    (subst (λ octets. IsReadAs c.args.arrival.modulus octets c.in_ok-event.event.what) c.deref.ensures.value c.in_ok-event.ensures.read)
    c.in_ok-event.ensures.fit)
