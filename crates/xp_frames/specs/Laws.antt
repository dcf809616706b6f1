-- The laws of frames, over the definitions alone.
use Rattle.std.specs.Prelude.{◌≡◌, ℕ, true, List, [], ◌∷◌, ◌++◌, ◌↔◌, Option, None, Some, Result, Ok, Err}
use Rattle.xp_frames.specs.declared.fault.FrameFault.{FrameFault}
use Rattle.xp_frames.specs.declared.fault.FrameFault.TheVariants.{Version, Length, Failed, Memory}
use Rattle.xp_frames.specs.Frame.{IsPacket, frame, Stream, BadHeader}
use Rattle.xp_frames.specs.Deframer.{DeframerState, IsNew, Feeds, Gives}

-- No frame is a proper prefix of another: if two frames begin the same stream, they are equal.
abbrev pub NoFrameBeginsAnother : Type 0
NoFrameBeginsAnother = (packet other more rest : List ℕ) → IsPacket packet → IsPacket other → frame packet ++ more ≡ frame other ++ rest → (packet ≡ other) × (more ≡ rest)

-- A stream has only one list of packets and only one rest.
abbrev pub OneReading : Type 0
OneReading = (octets : List ℕ) (packets others : List (List ℕ)) (rest left : List ℕ) → Stream octets packets rest → Stream octets others left → (packets ≡ others) × (rest ≡ left)

-- A call of a deframer, with its result: `feed` of a piece, or `next`.
pub data Call : Type 0 where
  Fed : List ℕ → Result (Unit {0}) FrameFault → Call
  Fetched : Option (List ℕ) → Call

-- The calls were made on one new deframer, the latest first, and led to this state.
abbrev pub Run : List Call → DeframerState → Type 0
Run [] now = IsNew now
Run (Fed piece answer ∷ earlier) now = (before : DeframerState) × Run earlier before × Feeds before piece answer now
Run (Fetched answer ∷ earlier) now = (before : DeframerState) × Run earlier before × Gives before answer now

-- the whole stream: the pieces that were accepted, and the one with the bad header, one after the other
abbrev pub taken : List Call → List ℕ
taken [] = []
taken (Fed piece (Ok done) ∷ earlier) = taken earlier ++ piece
taken (Fed piece (Err (Version v)) ∷ earlier) = taken earlier ++ piece
taken (Fed piece (Err (Length n)) ∷ earlier) = taken earlier ++ piece
taken (Fed piece (Err Failed) ∷ earlier) = taken earlier
taken (Fed piece (Err Memory) ∷ earlier) = taken earlier
taken (Fetched answer ∷ earlier) = taken earlier

-- the packets that `next` returned, in order
abbrev pub fetched_packets : List Call → List (List ℕ)
fetched_packets [] = []
fetched_packets (Fed piece answer ∷ earlier) = fetched_packets earlier
fetched_packets (Fetched None ∷ earlier) = fetched_packets earlier
fetched_packets (Fetched (Some packet) ∷ earlier) = fetched_packets earlier ++ packet ∷ []

-- The packets that were returned, followed by those that wait, are the packets of the whole stream. The deframer has
-- failed exactly if a bad header follows them.
pub record IsDeframed (calls : List Call) (now : DeframerState) : Type 0 where
  pub stream : Stream (taken calls) (fetched_packets calls ++ now.waiting) now.rest
  pub failed : (now.failed ≡ true) ↔ ((fault : FrameFault) × BadHeader now.rest fault)

-- this holds for all pieces, and wherever `next` is called between them
abbrev pub AnyPieces : Type 0
AnyPieces = (calls : List Call) (now : DeframerState) → Run calls now → IsDeframed calls now

-- one of the pieces had a bad header
abbrev pub HasFailed : List Call → Type 0
HasFailed [] = ⊥
HasFailed (Fed piece (Ok done) ∷ earlier) = HasFailed earlier
HasFailed (Fed piece (Err (Version v)) ∷ earlier) = Unit {0}
HasFailed (Fed piece (Err (Length n)) ∷ earlier) = Unit {0}
HasFailed (Fed piece (Err Failed) ∷ earlier) = HasFailed earlier
HasFailed (Fed piece (Err Memory) ∷ earlier) = HasFailed earlier
HasFailed (Fetched answer ∷ earlier) = HasFailed earlier

-- `feed` returns `Failed` exactly if an earlier piece had a bad header
abbrev pub FailedEverAfter : Type 0
FailedEverAfter = (piece : List ℕ) (answer : Result (Unit {0}) FrameFault) (earlier : List Call) (now : DeframerState) → Run (Fed piece answer ∷ earlier) now → (answer ≡ Err Failed) ↔ HasFailed earlier
