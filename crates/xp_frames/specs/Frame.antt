-- The frames of X.25 over TCP (RFC 1613), as lists of octets. These definitions do not depend on how the stream was
-- cut into pieces.
use Rattle.std.specs.Prelude.{◌≡◌, ℕ, ◌+◌, ◌*◌, ◌/◌, ◌%◌, ◌<◌, ◌≤◌, min, List, [], ◌∷◌, ◌++◌, length, Result, Ok, Err}
use Rattle.std.specs.List.{AllByRecursion}
use Rattle.xp_frames.specs.declared.fault.FrameFault.{FrameFault}
use Rattle.xp_frames.specs.declared.fault.FrameFault.TheVariants.{Version, Length, Failed, Memory}

-- two octets as a number, in network order
abbrev pub number : ℕ → ℕ → ℕ
number high low = 256 * high + low

abbrev pub IsPacketLength : ℕ → Type 0
IsPacketLength n = (3 ≤ n) × (n ≤ 1028)

-- a packet that a frame may carry: 3 to 1,028 octets
abbrev pub IsPacket : List ℕ → Type 0
IsPacket packet = IsPacketLength (length packet)

-- version 0, the packet's length, then the packet
abbrev pub frame : List ℕ → List ℕ
frame packet = 0 ∷ 0 ∷ (length packet / 256) ∷ (length packet % 256) ∷ packet

-- the frames of the packets, one after the other
abbrev pub frames : List (List ℕ) → List ℕ
frames [] = []
frames (packet ∷ packets) = frame packet ++ frames packets

-- no whole frame is at the front
abbrev pub HasNoFrame : List ℕ → Type 0
HasNoFrame octets = (packet more : List ℕ) → IsPacket packet → octets ≡ frame packet ++ more → ⊥

-- The octets are the frames of the packets, followed by a rest that does not begin with a whole frame.
pub record Stream (octets : List ℕ) (packets : List (List ℕ)) (rest : List ℕ) : Type 0 where
  pub whole : octets ≡ frames packets ++ rest
  pub each : AllByRecursion IsPacket packets
  pub partial : HasNoFrame rest

-- The four octets of a header are there, and no frame has such a header: the version is not 0, or it is 0 and no
-- packet has the length.
abbrev pub BadHeader : List ℕ → FrameFault → Type 0
BadHeader (a ∷ b ∷ c ∷ d ∷ more) (Version v) = (v ≡ number a b) × (0 < v)
BadHeader (a ∷ b ∷ c ∷ d ∷ more) (Length n) = (number a b ≡ 0) × (n ≡ number c d) × (IsPacketLength n → ⊥)
BadHeader octets fault = ⊥

abbrev pub HasNoBadHeader : List ℕ → Type 0
HasNoBadHeader octets = (fault : FrameFault) → BadHeader octets fault → ⊥

-- The result of `frame_header`: the octets of the frame before the packet.
abbrev pub IsHeader : List ℕ → Result (List ℕ) FrameFault → Type 0
IsHeader packet (Ok head) = IsPacket packet × (frame packet ≡ head ++ packet)
IsHeader packet (Err (Length n)) = (IsPacket packet → ⊥) × (n ≡ min (length packet) 65535)
IsHeader packet (Err Memory) = ⊥
IsHeader packet (Err (Version v)) = ⊥
IsHeader packet (Err Failed) = ⊥

-- The result of `write_frame`, with the content of its buffer before and after.
abbrev pub Writes : List ℕ → List ℕ → Result (Unit {0}) FrameFault → List ℕ → Type 0
Writes packet before (Ok done) after = IsPacket packet × (after ≡ before ++ frame packet)
Writes packet before (Err (Length n)) after = (IsPacket packet → ⊥) × (n ≡ min (length packet) 65535) × (after ≡ before)
Writes packet before (Err Memory) after = IsPacket packet × (after ≡ before)
Writes packet before (Err (Version v)) after = ⊥
Writes packet before (Err Failed) after = ⊥
