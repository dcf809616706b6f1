-- One direction of a line's connection, as it is traced.
use Rattle.std.specs.Prelude.{◌≡◌, ◌≢◌, ◌⊎◌, ℕ, ◌+◌, ◌*◌, ◌%◌, ◌^◌, Bool, false, true, List, [], ◌++◌, length}
use Rattle.std.specs.List.{AllByRecursion}
use Rattle.xp_clearing.specs.Calls.{joined}
use Rattle.xp_clearing.specs.Frames.{IsUnfinished, IsWhole}

-- the sequence number of the next octet, the octets of the frame that is not whole yet, and whether the octets before the next one
-- were left out
pub record Stream : Type 0 where
  pub sequence : ℕ
  pub part : List ℕ
  pub is_cut : Bool

-- Before the first octet. The sequence numbers of each connection of a line begin higher than those of the one before.
abbrev pub first_stream : ℕ → Stream
first_stream connection = record { sequence = (connection * 65_536 + 1) % 2 ^ 32; part = []; is_cut = false }

-- Octets pass behind those of an unfinished frame: they complete these frames, and what is left is the front of another.
pub record Follows (part octets left : List ℕ) : Type 0 where
  pub frames : List (List ℕ)
  pub whole : part ++ octets ≡ joined frames ++ left
  pub each : AllByRecursion IsWhole frames
  pub rest : IsUnfinished left

-- what is skipped behind an unfinished frame ends where the frame ends, or no octet is behind it
abbrev pub EndsFrame : List ℕ → List ℕ → List ℕ → Type 0
EndsFrame part skipped handed =
    ((part ≡ []) × (skipped ≡ [])) ⊎ ((part ≢ []) × IsWhole (part ++ skipped)) ⊎ ((handed ≡ []) × IsUnfinished (part ++ skipped))

-- What is handed on of octets that pass, and the sequence number of its first octet: all, or where octets before them were left out,
-- those behind the frame that is not whole yet.
pub record Hands (stream : Stream) (octets : List ℕ) (sequence : ℕ) (handed : List ℕ) : Type 0 where
  pub skipped : List ℕ
  pub split : octets ≡ skipped ++ handed
  pub place : sequence ≡ (stream.sequence + length skipped) % 2 ^ 32
  pub all : stream.is_cut ≡ false → skipped ≡ []
  pub from_frame : stream.is_cut ≡ true → EndsFrame stream.part skipped handed
