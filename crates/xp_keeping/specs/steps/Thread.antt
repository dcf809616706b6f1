-- For private steps. What the thread that keeps records gives back.
use Rattle.std.specs.Prelude.{◌≡◌, List, Result}
use Rattle.atomic_table.specs.Seated.{TableId}
use Rattle.xp_cdr.specs.declared.ended.EndedCall.{EndedCall}
use Rattle.xp_keeping.specs.declared.keep_fault.KeepFault.{KeepFault}
use Rattle.xp_outbox.specs.Ends.{Taking}

module _ {K : Type 0} (kept : K → List EndedCall → Result (Unit {0}) KeepFault → Type 0) (keeps : K → K → Type 0) where
  -- It gives back the end of its queue, and the keeper, which has kept all that was taken from the queue.
  pub record IsGivenBack (first : K) (queue : TableId) (keeper : K) (records : Taking EndedCall) (outcome : Result (Unit {0}) KeepFault) : Type 0 where
    pub same : records.queue ≡ queue
    pub kept_is : kept keeper records.taken outcome
    pub keeps_on : keeps first keeper
