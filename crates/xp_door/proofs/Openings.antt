-- What a stream opens with, by what a new deframer makes of it.
use Rattle.std.proofs.Common.{◌≡◌, ℕ, List, [], ◌∷◌, ◌++◌, ap, append_assoc, inl, inr, subst, sym, ◌∙◌}
use Rattle.xp_frames.specs.Deframer.{DeframerState, IsNew, Takes}
use Rattle.xp_frames.specs.Frame.{BadHeader, HasNoBadHeader, HasNoFrame, IsPacket, Stream, frame, frames}
use Rattle.xp_frames.specs.declared.fault.FrameFault.{FrameFault}
use Rattle.xp_door.specs.Openings.{IsOpening}
use Rattle.xp_door.specs.declared.opening.Opening.{Opening}
use Rattle.xp_door.specs.declared.opening.Opening.TheVariants.{BadHeader as NoHeader, Partial}
use Rattle.xp_door.specs.steps.Openings.{OpensWith}

-- the packets that a new deframer has of a stream
of_new : (old fed : DeframerState) (octets : List ℕ) → IsNew old → Takes old octets fed → Stream octets fed.waiting fed.rest
of_new old fed octets new takes =
    let packets : fed.waiting ≡ takes.packets = takes.waiting ∙ ap (λ state. state.waiting ++ takes.packets) new in
    subst (λ list. Stream octets list fed.rest) (sym packets)
    (subst (λ state. Stream (state.rest ++ octets) takes.packets fed.rest) new takes.stream)

-- a packet in front
packet_opens : (octets packet rest : List ℕ) (others : List (List ℕ)) → Stream octets (packet ∷ others) rest → (more : List ℕ) × IsPacket packet × (octets ≡ frame packet ++ more)
packet_opens octets packet rest others stream =
    (frames others ++ rest, stream.each.0, stream.whole ∙ append_assoc (frame packet) (frames others) rest)

-- where no bad header is behind the packets
pub opens_well : (old fed : DeframerState) (octets : List ℕ) (result : Opening) → IsNew old → Takes old octets fed → HasNoBadHeader fed.rest → OpensWith fed.waiting Partial result → IsOpening octets result
opens_well old fed octets result new takes good (inl none) =
    let stream : Stream octets [] fed.rest = subst (λ list. Stream octets list fed.rest) none.0 (of_new old fed octets new takes) in
    subst (IsOpening octets) (sym none.1)
    (subst HasNoFrame (sym stream.whole) stream.partial, subst HasNoBadHeader (sym stream.whole) good)
opens_well old fed octets result new takes good (inr some) =
    let stream : Stream octets (some.0.items ∷ some.1) fed.rest = subst (λ list. Stream octets list fed.rest) some.2 (of_new old fed octets new takes) in
    subst (IsOpening octets) (sym some.3) (packet_opens octets some.0.items fed.rest some.1 stream)

-- where a bad header is
pub opens_badly : (old fed : DeframerState) (octets : List ℕ) (result : Opening) (fault : FrameFault) → IsNew old → Takes old octets fed → BadHeader fed.rest fault → OpensWith fed.waiting NoHeader result → IsOpening octets result
opens_badly old fed octets result fault new takes bad (inl none) =
    let stream : Stream octets [] fed.rest = subst (λ list. Stream octets list fed.rest) none.0 (of_new old fed octets new takes) in
    subst (IsOpening octets) (sym none.1) (fault, subst (λ rest. BadHeader rest fault) (sym stream.whole) bad)
opens_badly old fed octets result fault new takes bad (inr some) =
    let stream : Stream octets (some.0.items ∷ some.1) fed.rest = subst (λ list. Stream octets list fed.rest) some.2 (of_new old fed octets new takes) in
    subst (IsOpening octets) (sym some.3) (packet_opens octets some.0.items fed.rest some.1 stream)
