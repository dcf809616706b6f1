-- A reload under the lock: lines that must go are given up, and other tables come into force (`Reloads`), or nothing changes
-- (`RefusesReload`).
use Rattle.std.specs.Prelude.{◌≡◌, ℕ, ◌+◌, ◌*◌, ◌<◌, Bool, true, false, List, [], ◌∷◌, ◌++◌, length}
use Rattle.xp_charge.specs.declared.record.Record.{Record}
use Rattle.xp_outbox.specs.Ends.{Putting}
use Rattle.xp_reload.specs.Frame.{KeepsLine}
use Rattle.xp_subs.specs.Tables.{Tables, line_at, line_count}
use Rattle.xp_machine.specs.Channel.{is_off}
use Rattle.xp_machine.specs.World.{state_at}
use Rattle.xp_step.specs.declared.entry.Entry.{Entry}
use Rattle.xp_step.specs.declared.output.Outgoing.{Outgoing}
use Rattle.xp_step.specs.InForce.{in_force}
use Rattle.xp_step.specs.Step.{Step}
use Rattle.xp_step.specs.Worlds.{world_after}
use Rattle.xp_core.specs.Records.{records_of}
use Rattle.xp_core.specs.Reload.{AreGoing, IsLastingRefusal, MayReplace, reload_at}
use Rattle.xp_core.specs.declared.reload.ReloadFault.TheVariants.{JournalFull}
use Rattle.xp_lock.specs.declared.fault.ReloadRefusal.{ReloadRefusal}
use Rattle.xp_lock.specs.declared.fault.ReloadRefusal.TheVariants.{Halted, Refused, Memory}
use Rattle.xp_lock.specs.Histories.{AreGivenUp, Forcing, all_entries}
use Rattle.xp_lock.specs.Locked.{IsFilled, Locked}

module _ {A : Type 0} where
  -- what the entries of each of these put out was put into the outboxes, one after the other
  abbrev pub AreFilled : List (Forcing A) → List (Putting (Outgoing A)) → List (Putting (Outgoing A)) → Type 0
  AreFilled [] outboxes after = after ≡ outboxes
  AreFilled (forcing ∷ forcings) outboxes after =
      (between : List (Putting (Outgoing A))) × IsFilled forcing outboxes between × AreFilled forcings between after

  -- The lines that must go are given up at this moment, the lowest first, these records are handed over, and then one entry brings the next tables. That
  -- entry puts nothing out and records nothing
  pub record Reloads (old : Locked A) (next : Tables) (moment : ℕ) (records : List Record) (new : Locked A) : Type 0 where
    pub running : old.halted ≡ false
    pub given_up : List (Forcing A)
    pub are_given_up : AreGivenUp old.subs old.history next moment given_up
    pub entry : Entry A
    pub event_is : entry.event ≡ reload_at moment
    pub brought : entry.tables.items ≡ next ∷ []
    pub quiet : entry.outputs ≡ []
    pub unrecorded : entry.records.items ≡ []
    pub step : Step old.subs (old.history ++ all_entries given_up) (world_after old.subs (old.history ++ all_entries given_up)) entry (world_after new.subs new.history)
    -- a place that does not keep its line is out of service
    pub out : (line : ℕ) → line < line_count next → (KeepsLine (line_at (in_force old.subs old.history) line) (line_at next line) → ⊥)
        → is_off (state_at (world_after new.subs new.history) line) ≡ true
    pub filled : AreFilled given_up old.outboxes new.outboxes
    -- those that waited, and those of the calls that ended as lines were given up
    pub taken : records ≡ old.waiting ++ records_of (all_entries given_up)
    pub grown : new ≡ record old { history = (old.history ++ all_entries given_up) ++ entry ∷ []; given = old.given ++ records; waiting = []; outboxes = new.outboxes }

  -- the history has too few places: four for each line that must go, and one
  pub record LacksPlaces (subs : Tables) (history : List (Entry A)) (next : Tables) : Type 0 where
    pub going : List ℕ
    pub are_going : AreGoing (in_force subs history) (world_after subs history) next going
    pub few : subs.journal < length history + 4 * length going + 1

  -- Why the tables did not come into force, behind this history. The exchange was halted or not
  abbrev pub RefusesReload : Bool → Tables → List (Entry A) → Tables → ReloadRefusal → Type 0
  RefusesReload halted subs history next Halted = halted ≡ true
  RefusesReload halted subs history next (Refused JournalFull) = (halted ≡ false) × LacksPlaces subs history next
  RefusesReload halted subs history next (Refused fault) = (halted ≡ false) × IsLastingRefusal (in_force subs history) (world_after subs history) next fault
  RefusesReload halted subs history next Memory = (halted ≡ false) × MayReplace (in_force subs history) (world_after subs history) next
