-- Call detail records on their way to a file.
use Rattle.std.specs.Prelude.{◌≡◌, ℕ, ◌+◌, List, [], ◌++◌, flat_map, length, Result, Ok, Err}
use Rattle.xp_cdr.specs.Details.{detail_text}
use Rattle.xp_cdr.specs.Files.{HasFront}
use Rattle.xp_cdr.specs.declared.ended.EndedCall.{EndedCall}
use Rattle.xp_cdr.specs.declared.run.ExchangeRun.{ExchangeRun}

pub record Ledger : Type 0 where
  -- the run of which exchange they are of
  pub run : ExchangeRun
  -- the calls that were given, in order, each with its record, by what it ended, and its lines as they were named then
  pub given : List EndedCall
  -- what the file has taken since it was opened, and the front of that which it has on the disk; where new files were begun at its
  -- path or for later parts, what all of them have, one after the other
  pub taken : List ℕ
  pub synced : List ℕ
  -- what is not on the disk yet, in memory
  pub waiting : List ℕ
  -- how often the file has failed
  pub failures : ℕ

-- the call detail records of these records, in order
abbrev pub details_text : Ledger → List EndedCall → List ℕ
details_text ledger records = flat_map (detail_text ledger.run) records

-- What is on the disk, and then what waits, is the call detail records of all records that were given: each once, in order, and
-- whole. Behind what is on the disk the file has taken nothing but a front of what waits.
pub record IsWhole (ledger : Ledger) : Type 0 where
  pub all : details_text ledger ledger.given ≡ ledger.synced ++ ledger.waiting
  pub front : HasFront ledger.synced ledger.waiting ledger.taken

-- The file has the call detail records of all records but the last `count` on the disk, and nothing of those.
pub record LacksLast (ledger : Ledger) (count : ℕ) : Type 0 where
  pub whole : List EndedCall
  pub rest : List EndedCall
  pub given_are : ledger.given ≡ whole ++ rest
  pub count_is : count ≡ length rest
  pub synced_is : ledger.synced ≡ details_text ledger whole

-- These are the call detail records of the records that were given last. The file has those before them on the disk, and nothing
-- of these.
pub record IsUnfinished (ledger : Ledger) (lines : List ℕ) : Type 0 where
  pub whole : List EndedCall
  pub rest : List EndedCall
  pub given_are : ledger.given ≡ whole ++ rest
  pub lines_are : lines ≡ details_text ledger rest
  pub synced_is : ledger.synced ≡ details_text ledger whole

-- a ledger of an open file, to which no record was given
abbrev pub opening : ExchangeRun → Ledger
opening run = record { run = run; given = []; taken = []; synced = []; waiting = []; failures = 0 }

-- more records were given
abbrev pub with_given : Ledger → List EndedCall → Ledger
with_given ledger records =
    record ledger { given = ledger.given ++ records; waiting = ledger.waiting ++ details_text ledger records }

-- the file has failed once more, and nothing else has changed
abbrev pub with_failure : Ledger → Ledger
with_failure ledger = record ledger { failures = ledger.failures + 1 }

-- More of what waited is on the disk, from the front on.
pub record Takes (old new : Ledger) : Type 0 where
  pub more : List ℕ
  pub waited : old.waiting ≡ more ++ new.waiting
  pub synced : new.synced ≡ old.synced ++ more
  pub run : new.run ≡ old.run
  pub given : new.given ≡ old.given

-- Nothing waits. The file has taken the call detail records of all records that were given, and has them on the disk.
pub record HasAll (ledger : Ledger) : Type 0 where
  pub waiting : ledger.waiting ≡ []
  pub taken : ledger.taken ≡ details_text ledger ledger.given
  pub synced : ledger.synced ≡ ledger.taken

-- After a success the file has all on the disk. It fails exactly where one call of the file does; then what is on the disk so far is
-- taken off, and what waits is the call detail records of the records that were given last, each whole.
abbrev pub Flushes : {E : Type 0} → Ledger → Result (Unit {0}) E → Ledger → Type 0
Flushes old (Ok done) new = Takes old new × HasAll new × (new.failures ≡ old.failures)
Flushes old (Err fault) new = Takes old new × (new.failures ≡ old.failures + 1) × IsUnfinished new new.waiting
