-- What is kept of charging records by a keeper on a thread of its own (`AreKeptBeside`).
use Rattle.std.specs.Prelude.{◌≡◌, List, [], ◌∷◌, ◌++◌, Bool, true, false, Option, None, Some, Result, Err}
use Rattle.xp_cdr.specs.declared.ended.EndedBy.{EndedBy}
use Rattle.xp_cdr.specs.declared.ended.EndedBy.TheVariants.{Call}
use Rattle.xp_cdr.specs.declared.ended.EndedCall.{EndedCall}
use Rattle.xp_keeping.specs.Details.{IsFirstOf}
use Rattle.xp_keeping.specs.declared.keep_fault.KeepFault.{KeepFault}
use Rattle.xp_keeping.specs.declared.keep_fault.KeepFault.TheVariants.{Memory}
use Rattle.xp_keeping.specs.Told.{AreToldInTurn}
use Rattle.xp_subs.specs.Tables.{Tables, line_count}

-- the end of a list of records
abbrev pub IsLastOf : List EndedCall → List EndedCall → Type 0
IsLastOf end records = (front : List EndedCall) × (records ≡ front ++ end)

-- a keeper on a thread of its own
pub record Queued (K : Type 0) : Type 0 where
  -- the subscriptions with which it began; all by which it was to tell calls so far, in order; and the last of these, by which it tells
  -- those that follow
  pub opening : Tables
  pub named : List Tables
  pub subs : Tables
  -- all calls that were handed to it, each with by what it ended, and by what those end that follow
  pub given : List EndedCall
  pub ended_by : EndedBy
  -- whether memory was wanting for one of them: that one and those behind it did not go to the thread
  pub is_short : Bool
  -- the keeper as the thread began with it, and as the thread gave it back, if it has
  pub first : K
  pub last : Option K
  -- the records that the thread has not told as kept
  pub left : List EndedCall
  -- what is told where the thread gives nothing back
  pub fault : KeepFault

-- a keeper whose thread has just begun
abbrev pub first_queued : {K : Type 0} → Tables → K → KeepFault → Queued K
first_queued tables keeper fault = record {
  opening = tables;
  named = tables ∷ [];
  subs = tables;
  given = [];
  ended_by = Call;
  is_short = false;
  first = keeper;
  last = None;
  left = [];
  fault = fault;
}

-- what stays the same of a keeper on a thread of its own, also where it is to tell calls by other subscriptions
pub record KeepsBeside {K : Type 0} (old new : Queued K) : Type 0 where
  pub opening : new.opening ≡ old.opening
  pub later : List Tables
  pub named : new.named ≡ old.named ++ later
  pub lines : line_count new.subs ≡ line_count old.subs
  pub first : new.first ≡ old.first
  pub fault : new.fault ≡ old.fault

-- what is told once this came of keeping what went to the thread
abbrev pub told : Bool → Result (Unit {0}) KeepFault → Result (Unit {0}) KeepFault
told true outcome = Err Memory
told false outcome = outcome

-- `kept` is what the keeper keeps of records, and `keeps` what stays the same of it.
module _ {K : Type 0} (kept : K → List EndedCall → Result (Unit {0}) KeepFault → Type 0) (keeps : K → K → Type 0) where
  -- The thread gave its keeper back. It has kept all records, or a front of them where memory was wanting, and what came of that is told.
  pub record AreKeptBy (queued : Queued K) (records : List EndedCall) (result : Result (Unit {0}) KeepFault) (keeper : K) : Type 0 where
    pub front : List EndedCall
    pub first : IsFirstOf front records
    pub all : queued.is_short ≡ false → front ≡ records
    pub outcome : Result (Unit {0}) KeepFault
    pub kept_is : kept keeper front outcome
    pub keeps_on : keeps queued.first keeper
    pub told_is : result ≡ told queued.is_short outcome

  -- The thread was given up. All records went to it, or a front of them where memory was wanting, and what it has not told as kept is
  -- the end of these.
  pub record AreLeft (queued : Queued K) (records : List EndedCall) (result : Result (Unit {0}) KeepFault) : Type 0 where
    pub front : List EndedCall
    pub first : IsFirstOf front records
    pub all : queued.is_short ≡ false → front ≡ records
    pub last : IsLastOf queued.left front
    pub told_is : result ≡ told queued.is_short (Err queued.fault)

  abbrev pub AreKeptOrLeft : Option K → Queued K → List EndedCall → Result (Unit {0}) KeepFault → Type 0
  AreKeptOrLeft None queued records result = AreLeft queued records result
  AreKeptOrLeft (Some keeper) queued records result = AreKeptBy queued records result keeper

  -- By what all records of a run are told, and what is kept of them.
  pub record AreKeptBeside (queued : Queued K) (records : List EndedCall) (result : Result (Unit {0}) KeepFault) : Type 0 where
    pub in_turn : AreToldInTurn queued.named records
    pub kept_is : AreKeptOrLeft queued.last queued records result
