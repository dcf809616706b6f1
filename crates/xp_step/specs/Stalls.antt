-- Events that no line raises: stalls, by which a line that takes its packets too slowly is given up, and reloads.
use Rattle.std.specs.Prelude.{ℕ, ◌-◌, Bool, true, false, List, count_by}
use Rattle.xp_step.specs.declared.entry.Entry.{Entry}
use Rattle.xp_step.specs.declared.event.What.{What}
use Rattle.xp_step.specs.declared.event.What.TheVariants.{Reload, Stall}

module _ {A : Type 0} where
  abbrev pub is_stall : What A → Bool
  is_stall Stall = true
  is_stall what = false

  -- the exchange itself raises the event
  abbrev pub is_raised : What A → Bool
  is_raised Stall = true
  is_raised Reload = true
  is_raised what = false

  -- how many places of the history must be left for an event: one for its entry, and, unless it is a stall, three for
  -- the stalls that may follow it
  abbrev pub places_for : What A → ℕ
  places_for Stall = 1
  places_for what = 4

  -- how many of the prepared stalls are left after an event
  abbrev pub left_after : What A → ℕ → ℕ
  left_after Stall stalls = stalls - 1
  left_after what stalls = stalls

  -- how many entries of a history are stalls
  abbrev pub stalls_in : List (Entry A) → ℕ
  stalls_in history = count_by (λ entry. is_stall entry.event.what) history
