-- Which records are in doubt as a run ends whose records go to a file, and what is written of them (`WritesDoubted`).
use Rattle.std.specs.Prelude.{◌≡◌, ℕ, List, ◌++◌, flat_map, Option, None, Some, Result}
use Rattle.xp_cdr.specs.Details.{detail_text}
use Rattle.xp_cdr.specs.Ledger.{Ledger, details_text}
use Rattle.xp_cdr.specs.declared.ended.EndedCall.{EndedCall}
use Rattle.xp_cdr.specs.declared.run.ExchangeRun.{ExchangeRun}
use Rattle.xp_keeping.specs.Details.{Keeping}
use Rattle.xp_keeping.specs.Printing.{Prints}
use Rattle.xp_keeping.specs.Queued.{Queued}
use Rattle.xp_keeping.specs.declared.keep_fault.KeepFault.{KeepFault}

-- These are the records that were given last. The file has the call detail records of those before them on the disk, and nothing of
-- these.
pub record AreLacking (ledger : Ledger) (records : List EndedCall) : Type 0 where
  pub before : List EndedCall
  pub given_are : ledger.given ≡ before ++ records
  pub synced_is : ledger.synced ≡ details_text ledger before

-- These records are in doubt. Where the thread gave its keeper back, they are those that its file does not have on the disk. Else they
-- are those that the thread has not told as kept.
abbrev pub AreDoubted : Option Keeping → List EndedCall → List EndedCall → Type 0
AreDoubted None left records = records ≡ left
AreDoubted (Some keeping) left records = AreLacking keeping.ledger records

-- the keeper tells call detail records of this run
abbrev pub IsOfRun : ExchangeRun → Keeping → Type 0
IsOfRun run keeping = keeping.ledger.run ≡ run

-- The call detail records of the records in doubt are written, each once and in order, and nothing else: all of them, or a front of
-- their text where memory was wanting or the writer failed.
pub record WritesDoubted (run : ExchangeRun) (queued : Queued Keeping) (old new : Option (List ℕ)) (result : Result (Unit {0}) KeepFault) : Type 0 where
  pub records : List EndedCall
  pub doubted : AreDoubted queued.last queued.left records
  pub written : Prints old new (flat_map (detail_text run) records) result
