use Rattle.std.proofs.Common.{◌≡◌, ◌-◌, ◌++◌, Ok, rules, subst, arith, length, drop, take}
use Rattle.xp_frames.specs.Frame.{IsHeader}
use Rattle.xp_packets.specs.Writing.{written}
use Rattle.xp_script.proofs.FrameLemmas.{headed}
use Rattle.xp_script.proofs.output.put_frame.Goals as goal

pub returns-clause-frame : goal.returns-clause-frame
returns-clause-frame g c =
    let same : c.frame_header.result ≡ Ok c.in_ok-head.head = search rules in
    let found = subst (λ result. IsHeader (take (length c.deref.result.now - 4) (drop 4 c.deref.result.now)) result) same c.frame_header.ensures in
    let head = subst (λ octets. IsHeader (take (length octets - 4) (drop 4 octets)) (Ok c.in_ok-head.head)) c.deref.ensures.value found in
    let put = subst (λ octets. c.put_head.new.octets ≡ c.in_ok-head.head ++ drop 4 octets) c.deref_mut.ensures.value c.put_head.ensures.head in
    headed _ c.write_packet.new.out.items c.resize.new.self.items (written c.args.modulus c.args.identifier c.args.packet.now) c.in_ok-head.head _ (search rules) (omega (arith, c.in_ok-resize.ensures.len)) (omega arith) head put (omega arith)
