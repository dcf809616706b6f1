-- What is kept of charging records in a file of call detail records (`AreKept`).
use Rattle.std.specs.Prelude.{◌≡◌, ℕ, ◌<◌, ◌≤◌, List, [], ◌++◌, Bool, false, Result, Ok, Err, length}
use Rattle.xp_cdr.specs.Ledger.{HasAll, IsWhole, Ledger, details_text, opening}
use Rattle.xp_cdr.specs.declared.ended.EndedCall.{EndedCall}
use Rattle.xp_cdr.specs.declared.run.ExchangeRun.{ExchangeRun}
use Rattle.xp_keeping.specs.declared.keep_fault.KeepFault.{KeepFault}
use Rattle.xp_keeping.specs.declared.keep_fault.KeepFault.TheVariants.{Memory, Output, Details}

-- a keeper of call detail records
pub record Keeping : Type 0 where
  -- all calls that it was given
  pub given : List EndedCall
  -- those of them that were given to the writer of the file, and what the file has taken
  pub ledger : Ledger
  -- whether memory was wanting
  pub is_short : Bool

-- a keeper that was given no record yet, of this run
abbrev pub first_keeping : ExchangeRun → Keeping
first_keeping run = record { given = []; ledger = opening run; is_short = false }

-- a front of these records
abbrev pub IsFirstOf : List EndedCall → List EndedCall → Type 0
IsFirstOf front records = (rest : List EndedCall) × (records ≡ front ++ rest)

-- Of all records of a run: the file has the call detail records of all, each once and in order, and has them on the disk. Or it
-- failed: then it has a front of their text, and what is behind that waits. Or memory was wanting: then a front of them was given to
-- the writer of the file. No other fault is told.
abbrev pub AreKept : Keeping → List EndedCall → Result (Unit {0}) KeepFault → Type 0
AreKept keeping records (Ok done) = (keeping.ledger.given ≡ records) × HasAll keeping.ledger
AreKept keeping records (Err Details) = (keeping.ledger.given ≡ records) × IsWhole keeping.ledger × (0 < length keeping.ledger.waiting)
AreKept keeping records (Err Output) = ⊥
AreKept keeping records (Err Memory) = IsFirstOf keeping.ledger.given records × IsWhole keeping.ledger

-- The file has the call detail records of the first so many records on the disk, each once and in order, perhaps of more.
pub record HasKept (keeping : Keeping) (count : ℕ) : Type 0 where
  pub kept : List EndedCall
  pub rest : List EndedCall
  pub given_are : keeping.given ≡ kept ++ rest
  pub within : count ≤ length kept
  pub synced_is : keeping.ledger.synced ≡ details_text keeping.ledger kept

-- what stays the same of a keeper: its records are of the same run
abbrev pub GoesOnAs : Keeping → Keeping → Type 0
GoesOnAs old new = new.ledger.run ≡ old.ledger.run
