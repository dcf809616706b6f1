-- The pass of a line as contracts see it (`Pass`), and what an event that was taken adds to it (`GainsEvent`).
use Rattle.std.specs.Prelude.{◌≡◌, ℕ, List, [], ◌∷◌, ◌++◌}
use Rattle.xp_subs.specs.Tables.{Tables}
use Rattle.xp_step.specs.declared.entry.Entry.{Entry}
use Rattle.xp_step.specs.declared.event.Event.{Event}
use Rattle.xp_step.specs.declared.output.Outgoing.{Outgoing}
use Rattle.xp_step.specs.Run.{Run}
use Rattle.xp_step.specs.Worlds.{world_after}
use Rattle.xp_lock.specs.declared.receipt.Receipt.{Receipt}
use Rattle.xp_lock.specs.Entered.{Enters}
use Rattle.xp_seats.specs.Handed.{handed}

-- the pass of a line
pub record Pass (A : Type 0) : Type 0 where
  pub line : ℕ
  -- the history as the line last saw it
  pub seen : List (Entry A)
  -- the outputs that the line took from its outbox
  pub taken : List (Outgoing A)

module _ {A : Type 0} where
  -- the entries of the line's own events, as far as it has seen
  abbrev pub own_entries : Pass A → List (Entry A)
  own_entries pass = handed pass.line pass.seen

  -- the history is a run of the exchange machine over these subscriptions
  abbrev pub IsLegal : Tables → List (Entry A) → Type 0
  IsLegal subs history = Run subs history (world_after subs history)

  -- What the line has seen grows by the entries of others, and then the event is entered. Of all these none but the event's entry is one
  -- of the line's own
  pub record GainsEvent (subs : Tables) (old : Pass A) (event : Event A) (done : Receipt) (new : Pass A) : Type 0 where
    pub line : new.line ≡ old.line
    pub taken : new.taken ≡ old.taken
    pub between : List (Entry A)
    pub entered : Enters subs (old.seen ++ between) event done new.seen
    pub own_entries_are : own_entries new ≡ own_entries old ++ entered.forcing.entry ∷ []
    pub legal : IsLegal subs new.seen
