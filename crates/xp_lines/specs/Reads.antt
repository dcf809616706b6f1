-- What becomes of the octets that a turn pulls from a link.
use Rattle.std.specs.Prelude.{◌≡◌, ◌⊎◌, ℕ, Bool, true, false, List, [], ◌++◌, Option, Some, None}
use Rattle.std.specs.List.{AllByRecursion}
use Rattle.xp_packets.specs.declared.modulus.Modulus.{Modulus}
use Rattle.xp_frames.specs.Frame.{IsPacket, frames, HasNoFrame, HasNoBadHeader}
use Rattle.xp_frames.specs.Deframer.{DeframerState}
use Rattle.xp_step.specs.declared.event.What.{What}
use Rattle.xp_lines.specs.Offers.{Offers}
use Rattle.xp_lines.specs.declared.over.Over.{Over}
use Rattle.xp_lines.specs.declared.over.Over.TheVariants as overs

-- New octets follow those of an unfinished frame. Together they are the frames of these packets, and then the octets that are
-- left. No whole frame is left, unless one stood there before.
pub record Completes (unfinished octets : List ℕ) (packets : List (List ℕ)) (left : List ℕ) : Type 0 where
  pub whole : unfinished ++ octets ≡ frames packets ++ left
  pub each : AllByRecursion IsPacket packets
  pub partial : HasNoFrame unfinished → HasNoFrame left

-- the line keeps its link
abbrev pub stays : Option Over → Bool
stays None = true
stays (Some over) = false

-- memory was not wanting, and the exchange takes more: nothing that came is lost
abbrev pub keeps : Option Over → Bool
keeps None = true
keeps (Some overs.Link) = true
keeps (Some overs.Memory) = false
keeps (Some overs.Halted) = false
keeps (Some overs.Journal) = false

-- memory was wanting
abbrev pub is_wanting : Option Over → Bool
is_wanting None = false
is_wanting (Some overs.Link) = false
is_wanting (Some overs.Memory) = true
is_wanting (Some overs.Halted) = false
is_wanting (Some overs.Journal) = false

module _ {A : Type 0} where
  -- The packets that waited, and then those that the octets completed, are events. These were offered in order. Unless memory was
  -- wanting or the exchange takes no more, the others wait, and octets are lost only behind a bad header that stood there before.
  -- While the link stays, no octet is lost, and no bad header stands in the octets that are left, unless one stood there before.
  pub record Reads (modulus : Modulus) (old : DeframerState) (pulled : List ℕ) (whats : List (What A)) (over : Option Over) (new : DeframerState) : Type 0 where
    pub fed : List ℕ
    pub lost : List ℕ
    pub pulled_are : pulled ≡ fed ++ lost
    pub none_lost : stays over ≡ true → lost ≡ []
    pub lost_behind : keeps over ≡ true → (lost ≡ []) ⊎ (old.failed ≡ true)
    pub packets : List (List ℕ)
    pub completes : Completes old.rest fed packets new.rest
    pub sound : stays over ≡ true → HasNoBadHeader old.rest → HasNoBadHeader new.rest
    pub offers : Offers modulus (old.waiting ++ packets) whats (keeps over) new.waiting
