-- Every line that an entry of a run names is one of the subscriptions'.
use Rattle.std.proofs.Common.{◌≡◌, ℕ, ◌<◌, eqb, IfOk, Result, Some, List, [], ◌∷◌, ◌++◌, All, length, refl, ap, arith, subst, sym}
use Rattle.std.proofs.Math.Seq.{drop-append_seam}
use Rattle.std.proofs.lemmas.Bool.{cond_both}
use Rattle.std.proofs.lemmas.List.Elements.{All-nil, All-cons, All-push, All-append, All-drop, All-head, All-same, All-tail, All-weaker}
use Rattle.std.specs.List.{AllByRecursion}
use Rattle.xp_charge.specs.Lines.{HasLines as NamesLines}
use Rattle.xp_charge.specs.declared.record.Record.{Record}
use Rattle.xp_decide.proofs.Joined.{taken_is_free}
use Rattle.xp_packets.specs.declared.end.End.{End}
use Rattle.xp_packets.specs.declared.end.End.TheVariants.{Caller, Called}
use Rattle.xp_subs.specs.Sound.{IsSound}
use Rattle.xp_subs.specs.Tables.{Tables, line_count}
use Rattle.xp_step.specs.declared.entry.Entry.{Entry}
use Rattle.xp_step.specs.declared.event.What.{What}
use Rattle.xp_step.specs.declared.output.Output.{Output}
use Rattle.xp_machine.specs.World.{line_states, Call, World, call_numbered, far_end, opening}
use Rattle.xp_machine.specs.CallEnds.{line_at_end}
use Rattle.xp_machine.specs.Changes.{Change, Rises, Leaves, Begins, IsRefused, Connects, Ends, changed, recorded, recorded_by}
use Rattle.xp_machine.specs.Clearing.{record_of, refused_record}
use Rattle.xp_machine.specs.Coupling.{AreCoupled, IsHeld}
use Rattle.xp_core.specs.Lines.{HasLines}
use Rattle.xp_core.specs.Records.{records_of}
use Rattle.xp_step.specs.Run.{Run}
use Rattle.xp_step.specs.Segments.{segments_of}
use Rattle.xp_step.specs.StepContext.{StepContext, step_context}
use Rattle.xp_step.specs.Step.{Step}
use Rattle.xp_step.specs.Effects.{changes_of}
use Rattle.xp_step.specs.Table.{action_at}
use Rattle.xp_step.specs.EventOutputs.{outputs_of}
use Rattle.xp_step.proofs.RelayedPackets.{of_carried}
use Rattle.xp_machine.proofs.InCall.{shown_on}
use Rattle.xp_step.proofs.Origins.{ComesOf, IsSent, all_come, all_sent, closing, confirming, clearing, refusing, clearing_far, carrying_on, connecting, ringing, carrying}
use Rattle.xp_step.proofs.InForce.{run_frame, run_sound}
use Rattle.xp_step.proofs.RunLemmas.{run_keeps, run_push}
use Rattle.xp_core.proofs.Sounds.{IsRight, run_right}

module _ {A : Type 0} (at : StepContext A) (what : What A) (sound : IsSound at.force) (count : line_count at.force ≡ line_count at.tables) (coupled : AreCoupled at.tables at.world) (within : at.line < line_count at.tables) where
  -- ---- what is put out

  abbrev IsNamed : Output A → Type 0
  IsNamed output = output.line < line_count at.tables

  far_within : (number : ℕ) (call : Call) (line : ℕ) → call_numbered at.world number ≡ Some call → far_end call line < line_count at.tables
  far_within number call line live =
      let held : IsHeld at.tables at.world number call = coupled.held number call live in
      cond_both (eqb call.caller line) call.called call.caller (λ l. l < line_count at.tables) (λ first. held.called) (λ second. held.caller)

  end_within : (number : ℕ) (call : Call) (end : End) → call_numbered at.world number ≡ Some call → line_at_end call end < line_count at.tables
  end_within number call Caller live = (coupled.held number call live).caller
  end_within number call Called live = (coupled.held number call live).called

  to : (line : ℕ) (output : Output A) → output.line ≡ line → line < line_count at.tables → IsNamed output
  to line output is below = omega (arith, is, below)

  sent_named : (output : Output A) → IsSent at what output → IsNamed output
  sent_named output (closing is) = to at.line output (ap (λ o. o.line) is) within
  sent_named output (confirming information is) = to at.line output (ap (λ o. o.line) is) within
  sent_named output (clearing cause diagnostic information is) = to at.line output (ap (λ o. o.line) is) within
  sent_named output (refusing request why asks is) = to at.line output (ap (λ o. o.line) is) within
  sent_named output (clearing_far found cause diagnostic information live is) = grind (arith, far_within, to)
  sent_named output (carrying_on found clear information packet live clears carried is) = grind (arith, far_within, to)
  sent_named output (connecting found answer connection live accepts answered is) = grind (arith, to)
  sent_named output (ringing request ring packet asks decided incoming is) =
      to ring.line output (ap (λ o. o.line) is) (omega (arith, count, (taken_is_free at.force (line_states at.world) at.line request.block ring sound decided).known))
  sent_named output (carrying carried move by in_it is) = grind (arith, end_within, of_carried, shown_on, to)

  -- ---- what is recorded

  abbrev Recorded : List Record → Type 0
  Recorded records = All (NamesLines (line_count at.tables)) records

  abbrev counted : ℕ → Call → End → ℕ
  counted = segments_of at.tables at.before

  records_named : (change : Change) (world : World) → ComesOf at what change → Recorded (recorded counted at.moment world change)
  records_named (Rises line) world from = All-nil (NamesLines (line_count at.tables))
  records_named (Leaves line way) world from = All-nil (NamesLines (line_count at.tables))
  records_named (Begins line identifier called dialled setup requested) world from = All-nil (NamesLines (line_count at.tables))
  records_named (Connects number call agreement) world from = All-nil (NamesLines (line_count at.tables))
  records_named (IsRefused line identifier dialled why) world from =
      All-cons (NamesLines (line_count at.tables)) (refused_record world.next at.moment line dialled why) []
      (record { caller = omega (arith, from.line_is, within); called = tt }) (All-nil (NamesLines (line_count at.tables)))
  records_named (Ends number call line way cause diagnostic) world from =
      let held : IsHeld at.tables at.world number call = coupled.held number call from.0 in
      All-cons (NamesLines (line_count at.tables)) (record_of number call (counted number call) at.moment cause diagnostic) []
      (record { caller = held.caller; called = held.called }) (All-nil (NamesLines (line_count at.tables)))

  all_records_named : (changes : List Change) (world : World) → AllByRecursion (ComesOf at what) changes → Recorded (recorded_by counted at.moment world changes)
  all_records_named [] world from = All-nil (NamesLines (line_count at.tables))
  all_records_named (change ∷ changes) world from =
      All-append (NamesLines (line_count at.tables)) (recorded counted at.moment world change) (recorded_by counted at.moment (changed change world) changes)
      (records_named change world from.0) (all_records_named changes (changed change world) from.1)

module _ {A : Type 0} where
  entry_named : (tables : Tables) (before : List (Entry A)) (world : World) (entry : Entry A) (next : World) → IsSound tables → Run tables before world → IsRight tables (length before) world
      → Step tables before world entry next → HasLines (line_count tables) entry
  entry_named tables before world entry next sound run right step =
      let at : StepContext A = step_context tables before world entry.event.line entry.event.moment in
      let sound_now = run_sound tables before world sound run in
      let count = (run_frame tables before world run).count in
      let within : entry.event.line < line_count tables = omega (arith, step.line, right.sound.lines) in
      let N : Output A → Type 0 = λ output. output.line < line_count tables in
      record {
        outputs = All-same N entry.outputs (outputs_of step.told) step.outputs
            (All-weaker (IsSent at entry.event.what) N (sent_named at entry.event.what sound_now count right.coupled within) (outputs_of step.told)
            (all_sent at entry.event.what (action_at world entry.event) entry.outcome step.told step.acts));
        records = All-same (NamesLines (line_count tables)) entry.records.items _ step.records
            (all_records_named at entry.event.what sound_now count right.coupled within (changes_of tables before world entry) world
            (all_come at entry.event.what (action_at world entry.event) entry.outcome step.told step.acts));
      }

  step_named : (tables : Tables) (sound : IsSound tables) (before : List (Entry A)) (world : World) (entry : Entry A) (next : World)
      → Run tables before world × All (HasLines (line_count tables)) before → Step tables before world entry next
      → Run tables (before ++ entry ∷ []) next × All (HasLines (line_count tables)) (before ++ entry ∷ [])
  step_named tables sound before world entry next old step = (
    run_push tables [] (opening (line_count tables)) before world entry next old.0 step,
    All-push (HasLines (line_count tables)) before entry old.1 (entry_named tables before world entry next sound old.0 (run_right tables before world old.0) step),
  )

  pub run_named : (tables : Tables) (history : List (Entry A)) (world : World) → IsSound tables → Run tables history world → All (HasLines (line_count tables)) history
  run_named tables history world sound run =
      (run_keeps (λ before w. Run tables before w × All (HasLines (line_count tables)) before) tables (step_named tables sound) [] (opening (line_count tables)) history world
      (refl, All-nil (HasLines (line_count tables))) run).1

-- ---- the lines that records name

module _ {A : Type 0} where
  pub history_records_named : (lines : ℕ) (history : List (Entry A)) → All (HasLines lines) history → All (NamesLines lines) (records_of history)
  history_records_named lines [] named = All-nil (NamesLines lines)
  history_records_named lines (entry ∷ entries) named =
      All-append (NamesLines lines) entry.records.items (records_of entries) (All-head (HasLines lines) entry entries named).records
      (history_records_named lines entries (All-tail (HasLines lines) entry entries named))

  -- those that wait
  pub waiting_named : (lines : ℕ) (history : List (Entry A)) (given waiting : List Record) → given ++ waiting ≡ records_of history → All (HasLines lines) history → All (NamesLines lines) waiting
  waiting_named lines history given waiting all named =
      let P : List Record → Type 0 = λ records. All (NamesLines lines) records in
      subst P (drop-append_seam given waiting) (All-drop (NamesLines lines) (length given) (given ++ waiting) (subst P (sym all) (history_records_named lines history named)))

-- what holds of the value of an Ok leads on
pub if_ok : {X E : Type 0} {P : X → Type 0} (Q : X → Type 0) (outcome : Result X E) → IfOk outcome P → ((x : X) → P x → Q x) → IfOk outcome Q
if_ok Q outcome is goes = grind arith
