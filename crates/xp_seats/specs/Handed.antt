-- The entries of the events that a line offered (`handed`).
use Rattle.std.specs.Prelude.{ℕ, ◌==◌, ◌&&◌, not, Bool, List, filter}
use Rattle.xp_step.specs.declared.entry.Entry.{Entry}
pub use Rattle.xp_step.specs.Stalls.{is_raised, is_stall}

module _ {A : Type 0} where
  -- whether an entry is of an event that this line offered
  abbrev pub is_from : ℕ → Entry A → Bool
  is_from line entry = (entry.event.line == line) && not (is_raised entry.event.what)

  -- the entries of the events that a line offered, in order: no line offers a stall or a reload
  abbrev pub handed : ℕ → List (Entry A) → List (Entry A)
  handed line history = filter (is_from line) history
