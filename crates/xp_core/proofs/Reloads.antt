-- A reload as an event that is entered.
use Rattle.std.proofs.Common.{arith, ◌≡◌, ◌∙◌, ℕ, ◌<◌, IfOk, OnErr, OnOk, Result, Ok, Err, Option, None, List, [], ◌∷◌, ◌++◌, length, refl, ap, sym, subst, append-nil}
use Rattle.xp_charge.specs.declared.record.Record.{Record}
use Rattle.xp_subs.specs.Tables.{Tables}
use Rattle.xp_step.specs.declared.entry.Entry.{Entry}
use Rattle.xp_step.specs.declared.event.Event.{Event}
use Rattle.xp_step.specs.declared.in_force.SubsInForce.{SubsInForce}
use Rattle.xp_machine.specs.declared.relays.MeteredRelay.{MeteredRelay}
use Rattle.xp_core.specs.Reload.{reload_at}
use Rattle.xp_core.specs.steps.CoreInvariant.{CoreInvariant, IsKept}
use Rattle.xp_core.specs.steps.PreparedEntry.{Enters}
use Rattle.xp_reload.specs.Frame.{IsSameFrame}
use Rattle.xp_subs.specs.Sound.{IsSound}
use Rattle.xp_core.specs.steps.Reload.{IsReloadEntry}
use Rattle.xp_step.specs.InForce.{MayFollow, brought_by, force_of, in_force}
use Rattle.xp_step.specs.Step.{Step}
use Rattle.xp_step.specs.Exchange.{Advances, Exchange}
use Rattle.xp_core.proofs.Showing.{exchange_of, outcome_advances, outcome_shows}
use Rattle.xp_step.proofs.InForce.{in_force_on, last_again, run_frame, run_sound}
use Rattle.xp_machine.specs.World.{World}

module _ {A : Type 0} where
  pub reload_enters : (tables : Tables) (world : World) (relays : List (Option (MeteredRelay A))) (history : List (Entry A)) (waiting : List Record) (moment : ℕ) (next : Tables)
      (entries : List (Entry A)) (charged : List Record) (entry : Entry A) → IsReloadEntry history moment next entry → MayFollow (in_force tables history) world next
      → 0 < length world.lines → entries ≡ history ++ entry ∷ [] → charged ≡ waiting → Enters tables world relays history waiting (reload_at moment) world relays entries charged entry
  reload_enters tables world relays history waiting moment next entries charged entry is may some_line grown same =
      let S : Event A → Type 0 = λ event. Step tables history world (record entry { event = event }) world in
      let step : S (reload_at moment) = grind arith in
      record {
        event_is = is.event;
        step = subst S (sym is.event) step;
        relays_on = record { relay_update = None; is = refl; become = refl };
        grown = grown;
        recorded = same ∙ sym (ap (λ more. waiting ++ more) is.records ∙ append-nil waiting);
      }

  -- the tables in force, after what a call entered
  pub kept_on : {E : Type 0} (subs now : SubsInForce) (history entries : List (Entry A)) (next : Tables) (outcome : Result (Entry A) E) → force_of subs ≡ in_force subs.opening history
      → now.opening ≡ subs.opening → IfOk outcome (λ entry. entry.tables.items ≡ next ∷ []) → IfOk outcome (λ entry. entries ≡ history ++ entry ∷ []) → OnOk outcome (force_of now ≡ next)
      → OnErr outcome (now ≡ subs) → OnErr outcome (entries ≡ history) → force_of now ≡ in_force now.opening entries
  kept_on subs now history entries next outcome before opening brought grown comes one unchanged = grind (arith, in_force_on)

  -- and after an event of a line
  pub kept_still : {E : Type 0} (subs : SubsInForce) (history entries : List (Entry A)) (event : Event A) (outcome : Result (Entry A) E) → force_of subs ≡ in_force subs.opening history
      → IfOk outcome (λ entry. entry.tables.items ≡ brought_by event.what (force_of subs)) → IfOk outcome (λ entry. entries ≡ history ++ entry ∷ []) → OnErr outcome (entries ≡ history)
      → force_of subs ≡ in_force subs.opening entries
  kept_still subs history entries event outcome before brought grown unchanged = grind (arith, in_force_on, last_again)

  pub kept_frame : (subs : SubsInForce) (history : List (Entry A)) (machine : World) (relays : List (Option (MeteredRelay A))) (records : List Record)
      → IsKept subs history machine relays records → IsSameFrame subs.opening (force_of subs)
  kept_frame subs history machine relays records kept = subst (IsSameFrame subs.opening) (sym kept.force) (run_frame subs.opening history _ kept.core.run)

  pub kept_sound : (subs : SubsInForce) (history : List (Entry A)) (machine : World) (relays : List (Option (MeteredRelay A))) (records : List Record)
      → IsKept subs history machine relays records → IsSound (force_of subs)
  kept_sound subs history machine relays records kept = subst IsSound (sym kept.force) (run_sound subs.opening history _ kept.core.sound kept.core.run)

  -- what is kept after a reload
  module _ {E : Type 0} (subs now : SubsInForce) (history entries : List (Entry A)) (machine : World) (relays : List (Option (MeteredRelay A))) (given kept waiting charged : List Record)
      (moment : ℕ) (outcome : Result (Entry A) E) where
    abbrev Reloading : Type 0
    Reloading = IfOk outcome (λ entry. Enters subs.opening machine relays history waiting (reload_at moment) machine relays entries charged entry)

    pub reload_shows : CoreInvariant subs.opening history machine relays (given ++ waiting) → OnOk outcome (length history < subs.opening.journal) → Reloading
        → OnErr outcome (entries ≡ history) → kept ≡ given → OnErr outcome (charged ≡ waiting) → CoreInvariant subs.opening entries machine relays (kept ++ charged)
    reload_shows shows room done same same_given same_waiting =
        elim outcome as (λ r. OnOk r (length history < subs.opening.journal) → IfOk r (λ entry. Enters subs.opening machine relays history waiting (reload_at moment) machine relays entries charged entry)
        → OnErr r (entries ≡ history) → OnErr r (charged ≡ waiting) → CoreInvariant subs.opening entries machine relays (kept ++ charged)) [
          | Ok entry ↦ λ has done same same_waiting.
              let it : Result (Entry A) E = Ok entry in
              outcome_shows subs.opening history machine relays given waiting (reload_at moment) machine relays entries kept charged it shows tt has done tt tt tt same_given tt
          | Err fault ↦ grind arith
        ] room done same same_waiting

    pub reload_advances : (old : Exchange A) (stalls left : ℕ) → CoreInvariant subs.opening history machine relays (given ++ waiting) → OnOk outcome (length history < subs.opening.journal)
        → Reloading → kept ≡ given → now.opening ≡ subs.opening → exchange_of subs.opening history given waiting stalls ≡ old
        → IfOk outcome (λ entry. Advances old (reload_at moment) (exchange_of now.opening entries kept charged left) entry)
    reload_advances old stalls left shows room done same_given same_opening is =
        let T : Tables → Type 0 = λ tables. IfOk outcome (λ entry. Advances old (reload_at moment) (exchange_of tables entries kept charged left) entry) in
        subst T (sym same_opening) (elim outcome as (λ r. OnOk r (length history < subs.opening.journal)
        → IfOk r (λ entry. Enters subs.opening machine relays history waiting (reload_at moment) machine relays entries charged entry)
        → IfOk r (λ entry. Advances old (reload_at moment) (exchange_of subs.opening entries kept charged left) entry)) [
          | Ok entry ↦ λ has done.
              let it : Result (Entry A) E = Ok entry in
              outcome_advances subs.opening history machine relays given waiting (reload_at moment) machine relays entries kept charged it old stalls left shows tt has done same_given is
          | Err fault ↦ λ has done. tt
        ] room done)
