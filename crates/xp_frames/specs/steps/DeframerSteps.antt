-- What the private functions of the deframer do: examining the front of a stream, and cutting the frames off.
use Rattle.std.specs.Prelude.{◌≡◌, ℕ, ◌+◌, ◌≤◌, List, ◌++◌, length, take, drop, Option, None, Some, Result, Ok, Err}
use Rattle.std.specs.declared.alloc.AllocError.{AllocError}
use Rattle.xp_frames.specs.declared.fault.FrameFault.{FrameFault}
use Rattle.xp_frames.specs.declared.header.Front.{Front}
use Rattle.xp_frames.specs.declared.header.Front.TheVariants.{Frame, Partial, BadHeader as BadFront}
use Rattle.xp_frames.specs.declared.deframer.Cut.{Cut}
use Rattle.xp_frames.specs.Frame.{IsPacketLength, frame, HasNoFrame, BadHeader, HasNoBadHeader, Stream}

-- A whole frame is at the front, and its packet has n octets.
pub record BeginsWithFrame (octets : List ℕ) (n : ℕ) : Type 0 where
  pub packet : IsPacketLength n
  pub within : 4 + n ≤ length octets
  pub begins : octets ≡ frame (take n (drop 4 octets)) ++ drop (4 + n) octets

-- what `front_of` finds at the front of the octets
abbrev pub IsFront : List ℕ → Front → Type 0
IsFront octets (Frame n) = BeginsWithFrame octets n
IsFront octets Partial = HasNoFrame octets × HasNoBadHeader octets
IsFront octets (BadFront fault) = BadHeader octets fault

-- how the octets after the last whole frame begin
abbrev pub Ends : List ℕ → Option FrameFault → Type 0
Ends rest None = HasNoBadHeader rest
Ends rest (Some fault) = BadHeader rest fault

-- The packets of the whole frames at the front, which have `count` octets in all, were added to those that waited.
pub record CutsAt (octets : List ℕ) (before : List (List ℕ)) (count : ℕ) (fault : Option FrameFault) (after : List (List ℕ)) : Type 0 where
  pub packets : List (List ℕ)
  pub waiting : after ≡ before ++ packets
  pub stream : Stream octets packets (drop count octets)
  pub within : count ≤ length octets
  pub ends : Ends (drop count octets) fault

-- If an allocation fails, the packets that waited are still at the front of the list.
abbrev pub Cuts : List ℕ → List (List ℕ) → Result Cut AllocError → List (List ℕ) → Type 0
Cuts octets before (Ok cut) after = CutsAt octets before cut.count cut.fault after
Cuts octets before (Err wanting) after = take (length before) after ≡ before
