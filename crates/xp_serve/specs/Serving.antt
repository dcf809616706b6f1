-- What serving the lines of subscriptions comes to.
use Rattle.std.specs.Prelude.{◌≡◌, ◌⊎◌, List, Option, None, Some, Result, Ok, Err}
use Rattle.xp_cdr.specs.declared.ended.EndedCall.{EndedCall}
use Rattle.xp_core.specs.Records.{OneRecordEach, records_of}
use Rattle.xp_step.specs.InForce.{in_force}
use Rattle.xp_step.specs.Worlds.{world_after}
use Rattle.xp_serve.specs.Ends.{failure_of}
use Rattle.xp_listening.specs.Failures.{IsWanting, failure_to_keep}
use Rattle.xp_serve.specs.Served.{IsServed}
use Rattle.xp_serve.specs.declared.ends.EarlyEnd.{EarlyEnd}
use Rattle.xp_listening.specs.declared.failure.ServeFailure.{ServeFailure}
use Rattle.xp_keeping.specs.Kept.{KeepsAll}
use Rattle.xp_keeping.specs.declared.keep_fault.KeepFault.{KeepFault}
use Rattle.xp_serve.specs.declared.served.Served.{Served}
use Rattle.xp_subs.specs.Tables.{Tables}

-- what is told of the lowest line that ended before its time, if any did
abbrev pub outcome : Tables → Option EarlyEnd → Result (Unit {0}) ServeFailure
outcome tables None = Ok tt
outcome tables (Some early_end) = Err (failure_of tables early_end)

-- what is told once this came of keeping the records
abbrev pub told : Tables → Option EarlyEnd → Result (Unit {0}) KeepFault → Result (Unit {0}) ServeFailure
told tables early_end (Ok done) = outcome tables early_end
told tables early_end (Err fault) = Err (failure_to_keep fault)

abbrev pub IsUnserved : Tables → Result (Unit {0}) ServeFailure → Type 0
IsUnserved tables (Ok done) = ⊥
IsUnserved tables (Err failure) = IsWanting tables failure

-- `kept` is what a keeper keeps of all calls of a run, and `keeps` what stays the same of it.
module _ {K : Type 0} (kept : K → List EndedCall → Result (Unit {0}) KeepFault → Type 0) (keeps : K → K → Type 0) where
  -- There is one record for each call that ended in the history of the book. The keeper has kept calls with these records, and what
  -- came of that is told, or else the lowest line that ended before its time, by its name in force at the close.
  pub record Tells (served : Served) (before after : K) (result : Result (Unit {0}) ServeFailure) : Type 0 where
    pub one_each : OneRecordEach served.book.subs served.book.history (world_after served.book.subs served.book.history)
    pub keeping : Result (Unit {0}) KeepFault
    pub kept_is : KeepsAll (kept after) (records_of served.book.history) keeping
    pub keeps_on : keeps before after
    pub told_is : result ≡ told (in_force served.book.subs served.book.history) served.early_end keeping

  -- no line was served and the keeper is as it was, or what the lines' threads left is told
  abbrev pub Serves : Tables → K → K → Result (Unit {0}) ServeFailure → Type 0
  Serves tables before after result =
      ((after ≡ before) × IsUnserved tables result) ⊎ ((served : Served) × IsServed tables served × Tells served before after result)
