-- What one pull adds to the frames of a link, and how the reading of a turn ends.
use Rattle.std.specs.Prelude.{◌≡◌, ◌⊎◌, ℕ, true, List, [], ◌++◌, Option, Some, None, Result, Ok, Err}
use Rattle.xp_frames.specs.declared.fault.FrameFault.{FrameFault}
use Rattle.xp_frames.specs.declared.fault.FrameFault.TheVariants as faults
use Rattle.xp_frames.specs.Deframer.{DeframerState}
use Rattle.xp_frames.specs.Frame.{HasNoBadHeader}
use Rattle.xp_lines.specs.declared.over.Over.{Over}
use Rattle.xp_lines.specs.declared.over.Over.TheVariants as overs
use Rattle.xp_lines.specs.Reads.{Completes, keeps, stays}

-- why a step of a turn ends the turn, if it does
abbrev pub over_of : {T : Type 0} → Result T Over → Option Over
over_of (Ok done) = None
over_of (Err over) = Some over

-- what a fault of the deframer is for the link
abbrev pub over_fed : FrameFault → Over
over_fed (faults.Version version) = overs.Link
over_fed (faults.Length length) = overs.Link
over_fed faults.Failed = overs.Link
over_fed faults.Memory = overs.Memory

-- The packets of the octets that came wait behind the others. Octets are lost only where an allocation failed, or behind a bad
-- header that stood there before. While the link stays, none is lost, and no bad header stands in the octets that are left, unless one
-- stood there before.
pub record Pulls (old : DeframerState) (pulled : List ℕ) (over : Option Over) (new : DeframerState) : Type 0 where
  pub fed : List ℕ
  pub lost : List ℕ
  pub pulled_are : pulled ≡ fed ++ lost
  pub none_lost : stays over ≡ true → lost ≡ []
  pub lost_behind : keeps over ≡ true → (lost ≡ []) ⊎ (old.failed ≡ true)
  pub packets : List (List ℕ)
  pub completes : Completes old.rest fed packets new.rest
  pub waiting : new.waiting ≡ old.waiting ++ packets
  pub sound : stays over ≡ true → HasNoBadHeader old.rest → HasNoBadHeader new.rest
