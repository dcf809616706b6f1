-- What the octets of a router's connection open with.
use Rattle.std.specs.Prelude.{◌≡◌, ℕ, List, ◌++◌}
use Rattle.xp_door.specs.declared.opening.Opening.{Opening}
use Rattle.xp_door.specs.declared.opening.Opening.TheVariants.{BadHeader as NoHeader, Packet, Partial}
use Rattle.xp_frames.specs.Frame.{BadHeader, HasNoBadHeader, HasNoFrame, IsPacket, frame}
use Rattle.xp_frames.specs.declared.fault.FrameFault.{FrameFault}

-- less than a whole frame and no bad header, a frame with this packet, or a bad header
abbrev pub IsOpening : List ℕ → Opening → Type 0
IsOpening octets Partial = HasNoFrame octets × HasNoBadHeader octets
IsOpening octets (Packet packet) = (more : List ℕ) × IsPacket packet.items × (octets ≡ frame packet.items ++ more)
IsOpening octets NoHeader = (fault : FrameFault) × BadHeader octets fault
