-- In which of several files the record of a call stands. Each file is of a part of time, as a day; that of a later part has a greater
-- number.
use Rattle.std.specs.Prelude.{◌≡◌, ℕ, ◌<◌, ◌≤◌, List, [], ◌∷◌, ◌++◌, All, flat_map}
use Rattle.xp_cdr.specs.Files.{HasFront}
use Rattle.xp_cdr.specs.declared.ended.EndedCall.{EndedCall}

-- the file that is open: its part, and what the files of earlier parts have taken, one after the other
pub record OpenFile : Type 0 where
  pub part : ℕ
  pub before : List ℕ

-- `part_of` is the part of a moment.
module _ (part_of : ℕ → ℕ) where
  -- the call ended in this part or in an earlier one
  abbrev pub EndedBy : ℕ → EndedCall → Type 0
  EndedBy part call = part_of call.charging.ended ≤ part

  -- the call ended in a part before this one
  abbrev pub EndedBefore : ℕ → EndedCall → Type 0
  EndedBefore part call = part_of call.charging.ended < part

  -- there is none, or the first one ended in a later part
  abbrev pub BeginLater : ℕ → List EndedCall → Type 0
  BeginLater part [] = Unit {0}
  BeginLater part (call ∷ calls) = part < part_of call.charging.ended

-- `text` is the call detail record of a call.
module _ (part_of : ℕ → ℕ) (text : EndedCall → List ℕ) where
  -- Of the calls that were given, in order: the files of earlier parts have the records of the first, which ended in parts before that of
  -- the open file. The open file has taken records of those that follow, or a front of them: they ended in its part, or in an earlier
  -- one. Those behind wait for the file of a later part, in which the first of them ended.
  pub record AreFiled (given : List EndedCall) (current : OpenFile) (taken : List ℕ) : Type 0 where
    pub before : List EndedCall
    pub here : List EndedCall
    pub later : List EndedCall
    pub given_are : given ≡ before ++ (here ++ later)
    pub before_is : current.before ≡ flat_map text before
    pub are_before : All (EndedBefore part_of current.part) before
    pub are_here : All (EndedBy part_of current.part) here
    pub are_later : BeginLater part_of current.part later
    pub front : HasFront current.before (flat_map text here) taken
