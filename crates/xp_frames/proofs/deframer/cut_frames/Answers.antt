use Rattle.std.proofs.Common.{map}
use Rattle.xp_frames.proofs.Cutting.{one_more_sliced, map_pushed}
use Rattle.xp_frames.proofs.deframer.cut_frames.Goals as goal

pub loop-length-preserved : goal.loop-length-preserved
loop-length-preserved g c =
    one_more_sliced c.args.stream.now (map (λ p. p.items) c.args.waiting.now.items) (map (λ p. p.items) c.loop-length.waiting.items) _ c.loop-length.count c.in-Frame.length c.in_ok-packet-in-Frame.packet.items c.loop-length.invariant c.in-Frame.ensures
    c.in_ok-packet-in-Frame.ensures.items (map_pushed (λ p. p.items) c.loop-length.waiting.items c.push_back.new.self.items c.in_ok-packet-in-Frame.packet c.in_ok-push_back-in-Frame.ensures.items)
