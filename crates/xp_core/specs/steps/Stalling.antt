-- What a stall leads to.
use Rattle.std.specs.Prelude.{◌≡◌, Option, List, [], ◌∷◌}
use Rattle.xp_causes.specs.declared.clearing_cause.TheConstants.{OUT_OF_ORDER}
use Rattle.xp_causes.specs.declared.diagnostic.TheConstants.{NO_ADDITIONAL_INFORMATION}
use Rattle.xp_core.specs.declared.advance.PreparedEntry.{PreparedEntry}
use Rattle.xp_step.specs.declared.event.What.TheVariants.{Stall}
use Rattle.xp_step.specs.declared.outcome.Outcome.TheVariants.{Plain}
use Rattle.xp_machine.specs.declared.relays.MeteredRelay.{MeteredRelay}
use Rattle.xp_step.specs.Acts.{outputs_of_fall}
use Rattle.xp_machine.specs.Changes.{GoesOut}
use Rattle.xp_step.specs.Effects.{leaves}
use Rattle.xp_step.specs.Plan.{recorded_at}
use Rattle.xp_step.specs.StepContext.{StepContext}
use Rattle.xp_core.specs.steps.Stalls.{stall_of}
use Rattle.xp_step.specs.EventOutputs.{EventOutputs, outputs_of}
use Rattle.xp_core.specs.steps.PreparedEntry.{IsPreparedEntry}
use Rattle.xp_machine.specs.World.{World, call_on}

module _ {A : Type 0} where
  -- a line in service goes out of it, and its connection is closed
  abbrev pub outputs_of_stall : StepContext A → EventOutputs A
  outputs_of_stall at = outputs_of_fall at Stall

  -- a stall of the line leads to this, and every relay stays as it is
  abbrev pub MakesStall : StepContext A → PreparedEntry A → World → Type 0
  MakesStall at work next = (relays : List (Option (MeteredRelay A)))
      → IsPreparedEntry at.tables at.before at.world relays (stall_of at.line at.moment) work next relays

  -- this is put out and recorded as the line goes out of service
  pub record IsFallen (at : StepContext A) (work : PreparedEntry A) : Type 0 where
    pub plain : work.outcome ≡ Plain
    pub outputs : work.outputs ≡ outputs_of (outputs_of_stall at)
    pub records : work.records.items ≡ recorded_at at (leaves at.line GoesOut OUT_OF_ORDER NO_ADDITIONAL_INFORMATION (call_on at.world at.line) ∷ [])
