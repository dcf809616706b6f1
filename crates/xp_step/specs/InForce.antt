-- The tables in force: those with which the exchange was opened, until a reload brings others.
use Rattle.std.specs.Prelude.{◌≡◌, ◌≢◌, ◌<◌, ℕ, true, None, List, [], ◌∷◌, option_to_list}
use Rattle.xp_reload.specs.Frame.{IsSameFrame, KeepsLine}
use Rattle.xp_subs.specs.Sound.{IsSound}
use Rattle.xp_subs.specs.Tables.{Tables, address_of, line_at, line_count}
use Rattle.xp_step.specs.declared.entry.Entry.{Entry}
use Rattle.xp_step.specs.declared.event.What.{What}
use Rattle.xp_step.specs.declared.event.What.TheVariants as events
use Rattle.xp_step.specs.declared.in_force.SubsInForce.{SubsInForce}
use Rattle.xp_machine.specs.Channel.{is_off}
use Rattle.xp_machine.specs.World.{World, call_on, state_at}

-- the last of these tables, or those before them
abbrev pub last_of : Tables → List Tables → Tables
last_of tables [] = tables
last_of tables (next ∷ later) = last_of next later

-- those that the code finds to be in force
abbrev pub force_of : SubsInForce → Tables
force_of subs = last_of subs.opening (option_to_list subs.reloaded)

-- the tables that may come into force in this state, after those in force
pub record MayFollow (force : Tables) (world : World) (next : Tables) : Type 0 where
  pub sound : IsSound next
  pub frame : IsSameFrame force next
  -- a place that does not keep its line is out of service
  pub out : (line : ℕ) → line < line_count force → (KeepsLine (line_at force line) (line_at next line) → ⊥) → is_off (state_at world line) ≡ true
  -- a line that stays, and whose address changes, is in no call
  pub idle : (line : ℕ) → line < line_count force → KeepsLine (line_at force line) (line_at next line)
      → address_of next line ≢ address_of force line → call_on world line ≡ None

module _ {A : Type 0} where
  -- the tables in force after a history that began with these
  abbrev pub in_force : Tables → List (Entry A) → Tables
  in_force tables [] = tables
  in_force tables (entry ∷ later) = in_force (last_of tables entry.tables.items) later

  -- what an event brings, where a reload brings these tables
  abbrev pub brought_by : What A → Tables → List Tables
  brought_by events.Reload next = next ∷ []
  brought_by what next = []

  -- what an event brings: other tables if it is a reload, and else none
  abbrev pub Brings : Tables → World → What A → List Tables → Type 0
  Brings force world events.Reload brought = (next : Tables) × (brought ≡ next ∷ []) × MayFollow force world next
  Brings force world events.Up brought = brought ≡ []
  Brings force world events.Down brought = brought ≡ []
  Brings force world (events.Frame identifier packet) brought = brought ≡ []
  Brings force world (events.WrongFrame wrong) brought = brought ≡ []
  Brings force world events.Expire brought = brought ≡ []
  Brings force world events.Stall brought = brought ≡ []
