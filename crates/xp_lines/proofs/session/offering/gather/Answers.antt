use Rattle.std.proofs.Common.{subst, sym}
use Rattle.xp_lines.specs.FrameEvents.{IsReadAs}
use Rattle.xp_lines.proofs.Offered.{ReadSoFar, read_more, read_none}
use Rattle.xp_lines.proofs.session.offering.gather.Goals as goal

pub packets-init : goal.packets-init
packets-init g c = subst (λ items. ReadSoFar c.args.modulus c.args.frames.now items c.args.frames.now) (sym c.new-ready.ensures.items) (read_none _ _)

pub packets-preserved : goal.packets-preserved
packets-preserved g c =
    subst (λ items. ReadSoFar c.args.modulus c.args.frames.now items c.reuse.new.self) (sym c.in_ok-push.ensures.items)
    (subst (ReadSoFar c.args.modulus c.args.frames.now _) (sym c.reuse.ensures) (read_more _ _ _ _ _ _ _ c.packets.invariant c.in-Some.ensures
    (subst (λ octets. IsReadAs c.args.modulus octets c.in_ok-read.read) c.deref.ensures.value c.in_ok-read.ensures)))
