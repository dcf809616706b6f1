-- A reload under the lock.
use Rattle.std.proofs.Common.{◌≡◌, ◌∙◌, ℕ, ◌<◌, ◌≤◌, List, [], ◌∷◌, ◌++◌, length, refl, ap, sym, subst, append_assoc, append-nil, arith}
use Rattle.std.proofs.lemmas.List.{flat_map_more}
use Rattle.std.proofs.lemmas.List.Elements.{All-nil}
use Rattle.xp_charge.specs.declared.record.Record.{Record}
use Rattle.xp_outbox.specs.Ends.{Putting}
use Rattle.xp_subs.specs.Tables.{Tables}
use Rattle.xp_step.specs.declared.entry.Entry.{Entry}
use Rattle.xp_step.specs.declared.event.Event.{Event}
use Rattle.xp_step.specs.declared.output.Outgoing.{Outgoing}
use Rattle.xp_core.specs.Records.{records_of}
use Rattle.xp_core.specs.Reload.{MayReplace, MustGo, reload_at}
use Rattle.xp_core.proofs.GivenUp.{may_follow}
use Rattle.xp_machine.specs.World.{World}
use Rattle.xp_seats.specs.Handed.{handed, is_raised, is_stall}
use Rattle.xp_seats.proofs.Lists.{handed-append}
use Rattle.xp_step.specs.Exchange.{Advances, Exchange, world_of}
use Rattle.xp_step.specs.InForce.{MayFollow, in_force}
use Rattle.xp_step.specs.Step.{Step}
use Rattle.xp_step.specs.Worlds.{world_after}
use Rattle.xp_step.proofs.InForce.{in_force_on}
use Rattle.xp_lock.specs.Locked.{Locked}
use Rattle.xp_lock.specs.Histories.{AreForced, AreGivenUp, Forcing, GivesUpFor, Happening, Happens, IsForcing, all_entries, entries_of}
use Rattle.xp_lock.specs.Outgoing.{put_out_to, to_line}
use Rattle.xp_lock.specs.Reloading.{Reloads}
use Rattle.xp_lock.specs.steps.Outboxes.{OutboxesMatch}
use Rattle.xp_lock.specs.steps.Stalling.{with_outboxes}
use Rattle.xp_lock.proofs.Fresh.{raised_handed}
use Rattle.xp_lock.proofs.GivenLines.{put_more}
use Rattle.xp_lock.proofs.GivingUp.{GivingUp}
use Rattle.xp_lock.proofs.Histories.{forced_more}

module _ {A : Type 0} where
  module _ (subs : Tables) (history : List (Entry A)) (world : World) (entry : Entry A) (next : World) (moment : ℕ)
      (is : entry.event ≡ reload_at moment) (step : Step subs history world entry next) where
    -- it changes nothing
    pub stays : next ≡ world
    stays = grind arith

    pub records_none : entry.records.items ≡ []
    records_none = grind arith

  put_none : (line : ℕ) (entry : Entry A) → entry.outputs ≡ [] → put_out_to line (entry ∷ []) ≡ []
  put_none line entry quiet = append-nil (to_line line entry.outputs) ∙ ap (to_line line) quiet

  -- no stall follows
  forcing_one : (subs : Tables) (history : List (Entry A)) (entry : Entry A) → entry.outputs ≡ []
      → Step subs history (world_after subs history) entry (world_after subs (history ++ entry ∷ [])) → IsForcing subs history (record { entry = entry; stalls = []; places = λ _. 0 })
  forcing_one subs history entry quiet step = record {
    few = omega arith;
    forces = record {
      next = world_after subs (history ++ entry ∷ []);
      step = step;
      forced = refl;
      quiet = λ line due. let given = due.given in let none = ap length (put_none line entry quiet) in absurd (omega (arith, given, none));
      moments = All-nil (λ (e : Entry A). e.event.moment ≡ entry.event.moment);
    };
  }

  -- the outboxes match as before
  pub reload_matches : (subs : Tables) (history : List (Entry A)) (outboxes : List (Putting (Outgoing A))) (entry : Entry A) (moment : ℕ)
      → entry.event ≡ reload_at moment → entry.outputs ≡ [] → Step subs history (world_after subs history) entry (world_after subs (history ++ entry ∷ []))
      → length (history ++ entry ∷ []) ≤ subs.journal → OutboxesMatch subs history outboxes → OutboxesMatch subs (history ++ entry ∷ []) outboxes
  reload_matches subs history outboxes entry moment is quiet step few kept = grind (arith, append-nil, put_more, stays)

  -- ---- behind the lines that were given up

  module _ (core : Exchange A) (outboxes : List (Putting (Outgoing A))) (next : Tables) (moment : ℕ) (going : List ℕ) (may : MayReplace (in_force core.subs core.history) (world_of core) next)
      (now : Exchange A) (after : List (Putting (Outgoing A))) (at : ℕ) (loop : GivingUp core outboxes next moment going now after at)
      (none : (line : ℕ) → MustGo (in_force core.subs core.history) (world_of now) next line → ⊥) where
    abbrev so_far : List (Entry A)
    so_far = all_entries loop.given_up

    abbrev past : List (Entry A)
    past = core.history ++ so_far

    force_is : in_force now.subs now.history ≡ in_force core.subs core.history
    force_is = ap (λ t. in_force t now.history) loop.subs ∙ ap (in_force core.subs) loop.history ∙ loop.stalled.force

    follows_here : MayFollow (in_force core.subs core.history) (world_of now) next
    follows_here = may_follow (in_force core.subs core.history) (world_of now) next (loop.stalled.may (in_force core.subs core.history) next may) none

    -- so the reload is not refused
    pub follows : MayFollow (in_force now.subs now.history) (world_of now) next
    follows = subst (λ t. MayFollow t (world_of now) next) (sym force_is) follows_here

    pub has_place : length now.history < now.subs.journal
    has_place = let had = loop.places in let same = ap (λ t. t.journal) loop.subs in omega (arith, had, same)

    -- the exchange after the records were taken
    abbrev emptied : Exchange A
    emptied = record now { given = now.given ++ now.waiting; waiting = [] }

    module _ (new : Exchange A) (entry : Entry A) (advances : Advances emptied (reload_at moment) new entry) (brought : entry.tables.items ≡ next ∷ []) (quiet : entry.outputs ≡ []) where
      abbrev StepFrom : List (Entry A) → World → Type 0
      StepFrom history last = Step core.subs history (world_after core.subs history) entry last

      step_now : Step now.subs now.history (world_of now) entry (world_of new)
      step_now = advances.step

      step_past : StepFrom past (world_of new)
      step_past = grind (arith, step_now)

      history_is : new.history ≡ past ++ entry ∷ []
      history_is = advances.history ∙ ap (λ xs. xs ++ entry ∷ []) loop.history

      subs_are : new.subs ≡ core.subs
      subs_are = advances.subs ∙ loop.subs

      world_is : world_of new ≡ world_after core.subs (past ++ entry ∷ [])
      world_is = ap (λ t. world_after t new.history) subs_are ∙ ap (world_after core.subs) history_is

      step_on : StepFrom past (world_after core.subs (past ++ entry ∷ []))
      step_on = subst (StepFrom past) world_is step_past

      unrecorded : entry.records.items ≡ []
      unrecorded = records_none core.subs past (world_after core.subs past) entry (world_of new) moment advances.event_is step_past

      still : world_of new ≡ world_of now
      still = stays now.subs now.history (world_of now) entry (world_of new) moment advances.event_is step_now

      pub reloads : (taken : List Record) → taken ≡ now.waiting → Reloads (with_outboxes core outboxes) next moment taken (with_outboxes new after)
      reloads taken is = grind (arith, follows_here, history_is, step_past, subs_are, unrecorded)

      pub all_recorded : (taken : List Record) → taken ≡ now.waiting → now.given ++ now.waiting ≡ records_of now.history → core.given ++ taken ≡ records_of new.history
      all_recorded taken is each =
          (λ i. sym loop.given i ++ is i) ∙ each
          ∙ sym (ap records_of advances.history ∙ sym (flat_map_more (λ (e : Entry A). e.records.items) [] now.history entry) ∙ ap (λ xs. records_of now.history ++ xs) unrecorded ∙ append-nil (records_of now.history))

      pub matches : length new.history ≤ new.subs.journal → OutboxesMatch new.subs new.history after
      matches few =
          let long = ap length history_is in
          let same = ap (λ t. t.journal) subs_are in
          let kept : OutboxesMatch core.subs past after =
          subst (λ xs. OutboxesMatch core.subs xs after) loop.history (subst (λ t. OutboxesMatch t now.history after) loop.subs loop.kept) in
          let matched = reload_matches core.subs past after entry moment advances.event_is quiet step_on (omega (arith, few, long, same)) kept in
          subst (λ t. OutboxesMatch t new.history after) (sym subs_are) (subst (λ xs. OutboxesMatch core.subs xs after) (sym history_is) matched)

      pub forced_on : AreForced core.subs core.history → AreForced new.subs new.history
      forced_on was =
          let event : Forcing A = record { entry = entry; stalls = []; places = λ _. 0 } in
          let last : Happening A = record { given_up = loop.given_up; event = event } in
          let moment_is : moment ≡ entry.event.moment = sym (ap (λ (e : Event A). e.moment) advances.event_is) in
          let one : Happens core.subs core.history last = record {
            own = ap (λ (e : Event A). is_stall e.what) advances.event_is;
            given_up = subst (λ tables. GivesUpFor core.subs core.history tables entry.event.moment loop.given_up) (sym brought)
                (subst (λ m. AreGivenUp core.subs core.history next m loop.given_up) moment_is loop.are);
            forced = forcing_one core.subs past entry quiet step_on;
          } in
          subst (λ t. AreForced t new.history) (sym subs_are)
          (forced_more core.subs core.history new.history last was one (history_is ∙ append_assoc core.history so_far (entry ∷ [])))

  -- ---- what a reload leads to

  none_given_up : (subs : Tables) (before : List (Entry A)) (next : Tables) (moment line : ℕ) (given_up : List (Forcing A)) → AreGivenUp subs before next moment given_up
      → handed line (all_entries given_up) ≡ []
  none_given_up subs before next moment line [] are = refl
  none_given_up subs before next moment line (forcing ∷ given_up) are =
      let here = raised_handed subs before forcing are.0.forced line (ap is_raised are.0.stall) in
      handed-append line (entries_of forcing) (all_entries given_up)
      ∙ (λ i. here i ++ none_given_up subs (before ++ entries_of forcing) next moment line given_up are.1 i)

  module _ (old : Locked A) (next : Tables) (moment : ℕ) (taken : List Record) (new : Locked A) (did : Reloads old next moment taken new) where
    abbrev pub reload_entries : List (Entry A)
    reload_entries = all_entries did.given_up ++ did.entry ∷ []

    pub reload_entries_are : new.history ≡ old.history ++ reload_entries
    reload_entries_are = ap (λ l. l.history) did.grown ∙ append_assoc old.history (all_entries did.given_up) (did.entry ∷ [])

    -- no line offered them
    pub reload_handed : (line : ℕ) → handed line reload_entries ≡ []
    reload_handed line = grind (arith, handed-append, none_given_up)

    pub reload_in_force : in_force old.subs new.history ≡ next
    reload_in_force = grind (arith, in_force_on)
