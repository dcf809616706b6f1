-- A plan with the end of a call before its own change.
use Rattle.std.proofs.Common.{arith, ◌≡◌, ◌∙◌, ℕ, Option, Some, None, List, [], ◌∷◌, ◌++◌, option_to_list, refl, ap, sym, subst, append_assoc, append-nil}
use Rattle.xp_causes.specs.declared.clearing_cause.TheConstants.{NUMBER_BUSY}
use Rattle.xp_causes.specs.declared.diagnostic.TheConstants.{CALL_COLLISION}
use Rattle.xp_charge.specs.Counted.{Counted}
use Rattle.xp_charge.specs.Meter.{counted_from}
use Rattle.xp_charge.specs.declared.record.Record.{Record}
use Rattle.xp_packets.specs.declared.end.End.{End}
use Rattle.xp_machine.specs.declared.change.Change.{Change as KeptChange}
use Rattle.xp_step.specs.declared.output.Output.{Output}
use Rattle.xp_step.specs.declared.plan.Plan.{Plan}
use Rattle.xp_step.specs.declared.plan.request.Cancelled.{Cancelled}
use Rattle.xp_step.specs.Acts.{outputs_of_cancel}
use Rattle.xp_machine.specs.Changes.{Change, all_changed, changed, recorded, recorded_by}
use Rattle.xp_machine.specs.Clearing.{record_of}
use Rattle.xp_step.specs.Plan.{IsPlan, recorded_at}
use Rattle.xp_step.specs.steps.Branches.{IsCancelled}
use Rattle.xp_machine.specs.AppliedChange.{applied}
use Rattle.xp_step.specs.Effects.{cancels}
use Rattle.xp_step.specs.Relays.{counted_by}
use Rattle.xp_step.specs.Segments.{segments_of}
use Rattle.xp_step.specs.StepContext.{StepContext}
use Rattle.xp_step.specs.EventOutputs.{clear_indication, send_far}
use Rattle.xp_machine.specs.World.{Call, World, call_on}

all_changed-append : (changes more : List Change) (world : World) → all_changed (changes ++ more) world ≡ all_changed more (all_changed changes world)
all_changed-append [] more world = refl
all_changed-append (change ∷ changes) more world = all_changed-append changes more (changed change world)

recorded_by-append : (counted : ℕ → Call → End → ℕ) (moment : ℕ) (changes more : List Change) (world : World)
    → recorded_by counted moment world (changes ++ more) ≡ recorded_by counted moment world changes ++ recorded_by counted moment (all_changed changes world) more
recorded_by-append counted moment [] more world = refl
recorded_by-append counted moment (change ∷ changes) more world =
    ap (λ records. recorded counted moment world change ++ records) (recorded_by-append counted moment changes more (changed change world))
    ∙ sym (append_assoc (recorded counted moment world change) (recorded_by counted moment (changed change world) changes) (recorded_by counted moment (all_changed changes (changed change world)) more))

pub planned : {A : Type 0} (plan : Plan A) (at : StepContext A) (cancelled : Cancelled A) (ended : List Change) (far : List (Output A)) (kept : KeptChange) (change : Change)
    (own taken : List (Output A)) (records : List Record)
    → IsCancelled cancelled at ended far
    → plan.outputs.outputs ≡ own ++ option_to_list cancelled.told ++ taken
    → plan.cancelled ≡ cancelled.line → plan.change ≡ Some kept
    → plan.records.items ≡ option_to_list cancelled.charged ++ records
    → ((w : World) → applied kept w ≡ changed change w) → records ≡ recorded (segments_of at.tables at.before) at.moment (all_changed ended at.world) change
    → IsPlan plan at (record { carried = []; own = own; far = far; taken = taken }) (ended ++ change ∷ [])
planned plan at cancelled ended far kept change own taken records ends outputs cancels changes charged does recorded_is = record {
  outputs = outputs ∙ ap (λ told. own ++ told ++ taken) ends.told;
  records = charged ∙ ap (λ front. front ++ records) ends.records
      ∙ ap (λ last. recorded_at at ended ++ last) (recorded_is ∙ sym (append-nil (recorded (segments_of at.tables at.before) at.moment (all_changed ended at.world) change)))
      ∙ sym (recorded_by-append (segments_of at.tables at.before) at.moment ended (change ∷ []) at.world);
  does = grind (arith, all_changed-append);
}

module _ {A : Type 0} (cancelled : Cancelled A) (at : StepContext A) where
  abbrev cancels_it : Option (ℕ × Call) → Type 0
  cancels_it found = IsCancelled cancelled at (cancels at.line found) (send_far at.world at.line found (clear_indication NUMBER_BUSY CALL_COLLISION))

  pub none_cancelled : ((a : StepContext A) → IsCancelled cancelled a [] []) → call_on at.world at.line ≡ None
      → IsCancelled cancelled at (cancels at.line (call_on at.world at.line)) (outputs_of_cancel at.world at.line)
  none_cancelled none is = subst cancels_it (sym is) (none at)

  pub call_cancelled : (found : ℕ × Call) (counted : Counted) → call_on at.world at.line ≡ Some found → counted ≡ counted_by at.tables at.before found.0 found.1 found.1.agreed
      → cancelled.line ≡ Some at.line → option_to_list cancelled.charged ≡ record_of found.0 found.1 (λ end. counted_from end counted) at.moment NUMBER_BUSY CALL_COLLISION ∷ []
      → option_to_list cancelled.told ≡ outputs_of_cancel at.world at.line
      → IsCancelled cancelled at (cancels at.line (call_on at.world at.line)) (outputs_of_cancel at.world at.line)
  call_cancelled found counted is counted_is line charged told = grind arith
