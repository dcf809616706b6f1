-- What a run whose charging records go to a file leaves on standard output (`LeavesAlone`).
use Rattle.std.specs.Prelude.{◌≡◌, ◌≢◌, ◌⊎◌, ℕ, List, [], ◌∷◌, Bool, true, false, flat_map, Option, Result, Ok, Err}
use Rattle.std.specs.Io.KnownBytes.{Appends}
use Rattle.xp_cdr.specs.Details.{detail_text}
use Rattle.xp_cdr.specs.Ended.{charging_records}
use Rattle.xp_cdr.specs.declared.ended.EndedCall.{EndedCall}
use Rattle.xp_cdr.specs.declared.run.ExchangeRun.{ExchangeRun}
use Rattle.xp_core.specs.Records.{records_of}
use Rattle.xp_keeping.specs.Details.{AreKept, GoesOnAs, IsFirstOf, Keeping, first_keeping}
use Rattle.xp_keeping.specs.Doubt.{AreDoubted}
use Rattle.xp_keeping.specs.Printing.{AppendsFront}
use Rattle.xp_keeping.specs.Queued.{AreKeptBeside, IsLastOf, KeepsBeside, Queued, first_queued}
use Rattle.xp_keeping.specs.Told.{AreToldInTurn}
use Rattle.xp_keeping.specs.declared.keep_fault.KeepFault.TheVariants as faults
use Rattle.xp_serve.specs.Served.{IsServed}
use Rattle.xp_serve.specs.Serving.{IsUnserved, Serves}
use Rattle.xp_listening.specs.declared.failure.ServeFailure.{ServeFailure}
use Rattle.xp_listening.specs.declared.failure.ServeFailure.TheVariants.{Memory, Output, Details}
use Rattle.xp_serve.specs.declared.served.Served.{Served}
use Rattle.xp_subs.specs.Tables.{Tables}

-- what serving comes to with a keeper of call detail records on a thread of its own, of this run
abbrev pub ServesIntoFile : Tables → ExchangeRun → Queued Keeping → Result (Unit {0}) ServeFailure → Type 0
ServesIntoFile tables run after outcome =
    Serves (AreKeptBeside AreKept GoesOnAs) KeepsBeside tables (first_queued tables (first_keeping run) faults.Details) after outcome

-- whether it follows from what is told that all records are kept
abbrev pub says_all_kept : Result (Unit {0}) ServeFailure → Bool
says_all_kept (Ok done) = true
says_all_kept (Err Memory) = false
says_all_kept (Err Output) = false
says_all_kept (Err Details) = false
says_all_kept (Err failure) = true

-- All calls of a run: their records are those of its history. There are none where no line was served.
abbrev pub AreCallsOf : Tables → Result (Unit {0}) ServeFailure → List EndedCall → Type 0
AreCallsOf tables result calls =
    ((calls ≡ []) × IsUnserved tables result)
    ⊎ ((served : Served) × IsServed tables served × (charging_records calls ≡ records_of served.book.history))

-- Standard output has what it had before, and behind it the call detail records of the records in doubt, each once and in order, and
-- nothing else. None is in doubt where what is told says that all are kept.
pub record LeavesAlone (tables : Tables) (run : ExchangeRun) (keeper : Queued Keeping) (before after : Option (List ℕ)) (result : Result (Unit {0}) ServeFailure) : Type 0 where
  pub calls : List EndedCall
  pub of_run : AreCallsOf tables result calls
  -- They are told by the subscriptions of the exchange, and where others came into force, by these in turn.
  pub later : List Tables
  pub named : keeper.named ≡ tables ∷ later
  pub told : AreToldInTurn keeper.named calls
  -- those of them for which memory was found: all, where no want of it is told
  pub found : List EndedCall
  pub first : IsFirstOf found calls
  pub all : result ≢ Err Memory → found ≡ calls
  -- those of these that are in doubt, the last
  pub doubted : List EndedCall
  pub in_doubt : AreDoubted keeper.last keeper.left doubted
  pub last : IsLastOf doubted found
  pub none : says_all_kept result ≡ true → doubted ≡ []
  -- a front of their text is written: all of it, where neither want of memory nor a failed output is told
  pub front : AppendsFront before after (flat_map (detail_text run) doubted)
  pub whole : result ≢ Err Memory → result ≢ Err Output → Appends before after (flat_map (detail_text run) doubted)
