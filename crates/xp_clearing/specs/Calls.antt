-- How far octets bring the call of a connection.
use Rattle.std.specs.Prelude.{◌≡◌, ℕ, ◌<◌, ◌≤◌, Bool, true, false, List, [], ◌∷◌, ◌++◌, length, take}
use Rattle.std.specs.List.{AllByRecursion}
use Rattle.xp_clearing.specs.declared.clearing.Clearing.{Clearing}
use Rattle.xp_clearing.specs.declared.frame_watch.PassedFrame.{PassedFrame}
use Rattle.xp_clearing.specs.Frames.{IsUnfinished, IsWhole, passed_by}

-- the frames one behind the other
abbrev pub joined : List (List ℕ) → List ℕ
joined [] = []
joined (frame ∷ frames) = frame ++ joined frames

-- how far the clearing is after these frames, each of which brings it on so
abbrev pub after_all : (Clearing → PassedFrame → Clearing) → Clearing → List (List ℕ) → Clearing
after_all step clearing [] = clearing
after_all step clearing (frame ∷ frames) = after_all step (step clearing (passed_by frame)) frames

-- Octets pass behind those of an unfinished frame, until the clearing is so far: they complete these frames, and what is left is
-- the front of another. Before the last of the frames it is not so far.
pub record Passes (step : Clearing → PassedFrame → Clearing) (is_enough : Clearing → Bool) (before : Clearing) (part octets : List ℕ) (after : Clearing) (left : List ℕ) : Type 0 where
  pub frames : List (List ℕ)
  pub whole : part ++ octets ≡ joined frames ++ left
  pub each : AllByRecursion IsWhole frames
  pub rest : IsUnfinished left
  pub clears : after ≡ after_all step before frames
  pub early : (front : List (List ℕ)) (last : List ℕ) → frames ≡ front ++ last ∷ [] → is_enough (after_all step before front) ≡ false

-- So many of the octets pass: all, or those to the end of the frame by which the clearing is far enough, and none behind it.
pub record PassesOf (step : Clearing → PassedFrame → Clearing) (is_enough : Clearing → Bool) (before : Clearing) (part octets : List ℕ) (count : ℕ) (after : Clearing) (left : List ℕ) : Type 0 where
  pub within : count ≤ length octets
  pub passes : Passes step is_enough before part (take count octets) after left
  pub all : count < length octets → is_enough after ≡ true
  pub ended : is_enough after ≡ true → left ≡ []
