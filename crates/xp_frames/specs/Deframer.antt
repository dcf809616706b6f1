-- The state of a deframer, and the effect of each of its calls.
use Rattle.std.specs.Prelude.{◌≡◌, ℕ, Bool, true, false, List, [], ◌∷◌, ◌++◌, Option, None, Some, Result, Ok, Err}
use Rattle.xp_frames.specs.declared.fault.FrameFault.{FrameFault}
use Rattle.xp_frames.specs.declared.fault.FrameFault.TheVariants.{Version, Length, Failed, Memory}
use Rattle.xp_frames.specs.Frame.{Stream, BadHeader, HasNoBadHeader}

-- The packets that `next` has not returned yet, the octets after the last whole frame, and whether those octets begin
-- with a bad header.
pub record DeframerState : Type 0 where
  pub waiting : List (List ℕ)
  pub rest : List ℕ
  pub failed : Bool

-- nothing has been fed yet
abbrev pub IsNew : DeframerState → Type 0
IsNew held = held ≡ record { waiting = []; rest = []; failed = false }

-- The packets of the frames that the piece completes are added to those that wait. The octets after those frames are
-- the new rest.
pub record Takes (old : DeframerState) (piece : List ℕ) (new : DeframerState) : Type 0 where
  pub packets : List (List ℕ)
  pub waiting : new.waiting ≡ old.waiting ++ packets
  pub stream : Stream (old.rest ++ piece) packets new.rest

-- The result of `feed`, with the state before and after.
abbrev pub Feeds : DeframerState → List ℕ → Result (Unit {0}) FrameFault → DeframerState → Type 0
Feeds old piece (Ok done) new = (old.failed ≡ false) × (new.failed ≡ false) × Takes old piece new × HasNoBadHeader new.rest
Feeds old piece (Err (Version v)) new = (old.failed ≡ false) × (new.failed ≡ true) × Takes old piece new × BadHeader new.rest (Version v)
Feeds old piece (Err (Length n)) new = (old.failed ≡ false) × (new.failed ≡ true) × Takes old piece new × BadHeader new.rest (Length n)
Feeds old piece (Err Failed) new = (old.failed ≡ true) × (new ≡ old)
Feeds old piece (Err Memory) new = (old.failed ≡ false) × (new ≡ old)

-- The result of `next`, with the state before and after.
abbrev pub Gives : DeframerState → Option (List ℕ) → DeframerState → Type 0
Gives old None new = (old.waiting ≡ []) × (new ≡ old)
Gives old (Some packet) new = (old.waiting ≡ packet ∷ new.waiting) × (new.rest ≡ old.rest) × (new.failed ≡ old.failed)
