-- A stall gives a line up: after it no more lines must go before other tables can come into force.
use Rattle.std.proofs.Common.{◌≡◌, ◌≢◌, ◌∙◌, ℕ, ◌<◌, ◌≤◌, true, false, All, Contains, Option, Some, None, List, [], ◌∷◌, ◌++◌, length, map, ap, sym, subst, inl, inr, ◌⊎◌, arith, append-nil, append_assoc, length-set}
use Rattle.std.proofs.lemmas.Bool.{cases_Bool, cases_eq, false_from_ne_true, true_from_ne_false}
use Rattle.std.proofs.lemmas.List.{get_or-set_same}
use Rattle.std.proofs.lemmas.List.Elements.{All-head, All-tail}
use Rattle.xp_causes.specs.declared.clearing_cause.TheConstants.{OUT_OF_ORDER}
use Rattle.xp_causes.specs.declared.diagnostic.TheConstants.{NO_ADDITIONAL_INFORMATION}
use Rattle.xp_channel.specs.declared.action.Action.{Action}
use Rattle.xp_channel.specs.declared.action.Action.TheVariants.{Fall, Nothing}
use Rattle.xp_charge.specs.declared.record.Record.{Record}
use Rattle.xp_packets.specs.declared.end.End.{End}
use Rattle.xp_reload.specs.declared.frame.FrameChange.{FrameChange}
use Rattle.xp_reload.specs.declared.frame.FrameChange.TheVariants as changes
use Rattle.xp_reload.specs.Frame.{Differs, IsSameFrame}
use Rattle.xp_subs.specs.Tables.{Tables, line_count}
use Rattle.xp_core.specs.declared.reload.ReloadFault.{ReloadFault}
use Rattle.xp_core.specs.declared.reload.ReloadFault.TheVariants as faults
use Rattle.xp_step.specs.declared.entry.Entry.{Entry}
use Rattle.xp_step.specs.declared.event.What.{What}
use Rattle.xp_step.specs.declared.event.What.TheVariants.{Stall}
use Rattle.xp_step.specs.declared.outcome.Outcome.TheVariants.{Plain}
use Rattle.xp_step.specs.Acts.{Acts}
use Rattle.xp_step.specs.Effects.{effects_of, leaves}
use Rattle.xp_step.specs.InForce.{Brings, MayFollow, in_force, last_of}
use Rattle.xp_step.specs.Outcomes.{taken_by}
use Rattle.xp_step.specs.Run.{Run, RunFrom}
use Rattle.xp_step.specs.Segments.{segments_of}
use Rattle.xp_step.specs.Step.{Step}
use Rattle.xp_step.specs.StepContext.{StepContext, step_context}
use Rattle.xp_step.specs.Table.{action_in}
use Rattle.xp_step.proofs.InForce.{in_force_on}
use Rattle.xp_step.proofs.RunLemmas.{run_push}
use Rattle.xp_machine.specs.Changes.{GoesOut, all_changed, recorded_by}
use Rattle.xp_machine.specs.Channel.{State, call_of, channel_of, is_off}
use Rattle.xp_machine.specs.World.{Call, World, call_on, far_end, line_at, numbered, opening, state_at}
use Rattle.xp_machine.proofs.Coupled.{far_shows}
use Rattle.xp_machine.proofs.InCall.{end_of, shown_on}
use Rattle.xp_core.specs.GivenUp.{GivesUp}
use Rattle.xp_core.specs.Reload.{IsRefusal, MayReplace, MustGo}
use Rattle.xp_core.proofs.OtherStates.{others_follow}
use Rattle.xp_core.proofs.Sounds.{run_right}
use Rattle.xp_core.proofs.Stalls.{when_off, when_on}

-- a line out of service is in no call
pub off_in_none : (state : State) → is_off state ≡ true → call_of state ≡ None
off_in_none state off = grind arith

-- ---- before a reload

-- the tables may come into force as soon as no line must go
pub may_follow : (force : Tables) (world : World) (next : Tables) → MayReplace force world next → ((line : ℕ) → MustGo force world next line → ⊥) → MayFollow force world next
may_follow force world next may none = grind (arith, true_from_ne_false)

not_changed : (force next : Tables) (change : FrameChange) → IsSameFrame force next → Differs force next change → ⊥
not_changed force next changes.LineCount frame differs = differs frame.count
not_changed force next (changes.Modulus line) frame differs = differs.1 (frame.moduli line differs.0)
not_changed force next changes.SegmentLimit frame differs = differs frame.settings.segment_limit
not_changed force next changes.Journal frame differs = differs frame.settings.journal
not_changed force next changes.Host frame differs = differs frame.settings.host
not_changed force next changes.XotPort frame differs = differs frame.settings.xot_port
not_changed force next changes.Name frame differs = differs frame.settings.name

-- and then they are not refused, where the history has a place
pub not_refused : (journal entries : ℕ) (force : Tables) (world : World) (next : Tables) (fault : ReloadFault)
    → MayFollow force world next → entries < journal → IsRefusal journal entries force world next fault → ⊥
not_refused journal entries force world next faults.JournalFull may place full = omega (arith, place, full)
not_refused journal entries force world next (faults.Frame change) may place differs = not_changed force next change may.frame differs
not_refused journal entries force world next (faults.InCall line) may place moves = grind arith
not_refused journal entries force world next (faults.InService line) may place must = grind arith

-- ---- a stall

module _ {A : Type 0} (tables : Tables) (history : List (Entry A)) (world : World) (entry : Entry A) (next : World)
    (run : Run tables history world) (step : Step tables history world entry next) (stall : entry.event.what ≡ Stall) where
  abbrev line : ℕ
  line = entry.event.line

  abbrev at : StepContext A
  at = step_context tables history world line entry.event.moment

  -- an action in the state of its line
  abbrev action : Action
  action = action_in {A = A} (channel_of (state_at world line)) Stall

  acts : Acts at Stall action entry.outcome step.told
  acts = grind arith

  leads : next ≡ all_changed (effects_of at Stall action entry.outcome) world
  leads = grind arith

  records : entry.records.items ≡ recorded_by (segments_of tables history) entry.event.moment world (effects_of at Stall action entry.outcome)
  records =
      let R : What A → List Record = λ what.
      recorded_by (segments_of tables history) entry.event.moment world (effects_of at what (action_in (channel_of (state_at world line)) what) entry.outcome) in
      step.records ∙ ap R stall

  -- what holds of an action, where it holds of both that there may be
  either : (P : Action → Type 0) → (action ≡ Nothing → is_off (state_at world line) ≡ true → P Nothing) → (action ≡ Fall → P Fall) → P action
  either P out on = grind (arith, cases_Bool, when_off, when_on)

  plain : entry.outcome ≡ Plain
  plain = either (λ a. Acts at Stall a entry.outcome step.told → entry.outcome ≡ Plain) (λ is off acted. acted.0) (λ is acted. acted.0) acts

  -- the line is out of service
  fallen : (found : Option (ℕ × Call)) → is_off (state_at (all_changed (leaves line GoesOut OUT_OF_ORDER NO_ADDITIONAL_INFORMATION found ∷ []) world) line) ≡ true
  fallen found = grind (arith, get_or-set_same, length-set)

  out : is_off (state_at next line) ≡ true
  out = grind (arith, either, fallen, leads)

  -- a line that is neither this one nor the far end of its call stays as it is
  kept : (other : ℕ) → other ≢ line → ((number : ℕ) (call : Call) → call_on world line ≡ Some (number, call) → other ≢ far_end call line) → line_at next other ≡ line_at world other
  kept other not_line not_far =
      let free : taken_by entry.outcome ≢ Some other = λ taken. let none : taken_by entry.outcome ≡ None = ap taken_by plain in absurd (cc) in
      (others_follow tables history world entry next run step).rest other not_line free not_far

  -- a line that is in no call is not the far end
  far_in_call : (number : ℕ) (call : Call) → call_on world line ≡ Some (number, call) → call_of (state_at world (far_end call line)) ≡ Some number
  far_in_call number call on = grind (arith, end_of, far_shows, run_right, shown_on)

  free_kept : (other : ℕ) → other ≢ line → call_of (state_at world other) ≡ None → line_at next other ≡ line_at world other
  free_kept other not_line free = grind (arith, far_in_call, kept)

  still_out : (other : ℕ) → is_off (state_at world other) ≡ true → is_off (state_at next other) ≡ true
  still_out other off = grind (arith, cases_eq, free_kept, off_in_none)

  -- a line that is in no call shows none
  shows_none : (other : ℕ) → call_on world other ≡ None → call_of (state_at world other) ≡ None
  shows_none other none = grind (arith, run_right)

  still_free : (other : ℕ) → call_on world other ≡ None → call_on next other ≡ None
  still_free other none = elim (cases_eq other line) [
    | inl is ↦ ap (λ l. call_on next l) is ∙ ap (numbered next) (off_in_none (state_at next line) out)
    | inr not_line ↦ grind (arith, free_kept, shows_none)
  ]

  pub gives_up : GivesUp world entry next
  gives_up = record { out = out; still_out = still_out; still_free = still_free }

  -- ---- what does not change

  pub in_force_still : in_force tables (history ++ entry ∷ []) ≡ in_force tables history
  in_force_still = grind (arith, in_force_on)

  -- at most one call ends
  recorded_once : (counted : ℕ → Call → End → ℕ) (found : Option (ℕ × Call))
      → length (recorded_by counted entry.event.moment world (leaves line GoesOut OUT_OF_ORDER NO_ADDITIONAL_INFORMATION found ∷ [])) ≤ 1
  recorded_once counted None = omega arith
  recorded_once counted (Some found) = omega arith

  pub one_record : length entry.records.items ≤ 1
  one_record = grind (arith, either)

  pub may_replace_still : (force later : Tables) → MayReplace force world later → MayReplace force next later
  may_replace_still force later may = grind (arith, still_free)

  -- a line that must go after the stall had to go before, and is not the one that was given up
  pub goes_still : (force later : Tables) (other : ℕ) → MustGo force next later other → MustGo force world later other
  goes_still force later other must = grind (arith, false_from_ne_true, still_out)

  pub gone : (force later : Tables) (other : ℕ) → other ≡ line → MustGo force next later other → ⊥
  gone force later other is must =
      let off : is_off (state_at next other) ≡ true = ap (λ l. is_off (state_at next l)) is ∙ out in
      let serves : is_off (state_at next other) ≡ false = must.in_service in
      absurd (cc)

-- ---- stalls, one after another

cons_cases : (first : ℕ) (rest : List ℕ) (line : ℕ) → Contains (first ∷ rest) line → (first ≡ line) ⊎ Contains rest line
cons_cases first rest line has = grind arith

module _ {A : Type 0} where
  abbrev IsStall : Entry A → Type 0
  IsStall entry = entry.event.what ≡ Stall

  abbrev pub AreStalls : List (Entry A) → Type 0
  AreStalls entries = All (λ (entry : Entry A). entry.event.what ≡ Stall) entries

  -- the tables may come into force after stalls of all lines that must go
  pub follows_stalls : (tables : Tables) (before : List (Entry A)) (world : World) (entries : List (Entry A)) (last : World) (force later : Tables)
      → Run tables before world → RunFrom tables before world entries last → AreStalls entries → MayReplace force world later
      → ((line : ℕ) → MustGo force world later line → Contains (map (λ entry. entry.event.line) entries) line) → MayFollow force last later
  follows_stalls tables before world [] last force later run on stalls may each = grind (arith, may_follow)
  follows_stalls tables before world (entry ∷ entries) last force later run on stalls may each =
      let stall : entry.event.what ≡ Stall = All-head IsStall entry entries stalls in
      follows_stalls tables (before ++ entry ∷ []) on.0 entries last force later
      (run_push tables [] (opening (line_count tables)) before world entry on.0 run on.1) on.2 (All-tail IsStall entry entries stalls)
      (may_replace_still tables before world entry on.0 run on.1 stall force later may)
      (λ line must. elim (cons_cases entry.event.line (map (λ e. e.event.line) entries) line (each line (goes_still tables before world entry on.0 run on.1 stall force later line must))) [
        | inl is ↦ absurd (gone tables before world entry on.0 run on.1 stall force later line (sym is) must)
        | inr rest ↦ rest
      ])

  pub force_through_stalls : (tables : Tables) (before : List (Entry A)) (world : World) (entries : List (Entry A)) (last : World)
      → RunFrom tables before world entries last → AreStalls entries → in_force tables (before ++ entries) ≡ in_force tables before
  force_through_stalls tables before world [] last on stalls = ap (in_force tables) (append-nil before)
  force_through_stalls tables before world (entry ∷ entries) last on stalls =
      let stall : entry.event.what ≡ Stall = All-head IsStall entry entries stalls in
      let brings : entry.tables.items ≡ [] = subst (λ what. Brings (in_force tables before) world what entry.tables.items) stall on.1.brought in
      ap (in_force tables) (sym (append_assoc before (entry ∷ []) entries))
      ∙ force_through_stalls tables (before ++ entry ∷ []) on.0 entries last on.2 (All-tail IsStall entry entries stalls)
      ∙ in_force_on tables before entry ∙ ap (last_of (in_force tables before)) brings
