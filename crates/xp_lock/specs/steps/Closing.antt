-- For private steps. The counts of a closed exchange are within its history.
use Rattle.std.specs.Prelude.{ℕ, ◌≤◌, List, length}
use Rattle.xp_step.specs.declared.entry.Entry.{Entry}
use Rattle.xp_lock.specs.Outgoing.{put_out_to}
use Rattle.xp_lock.specs.Closing.{taken_by}

module _ {A : Type 0} where
  -- no line took more than was put out to it
  abbrev pub AreWithin : List ℕ → List (Entry A) → Type 0
  AreWithin counts history = (line : ℕ) → taken_by counts line ≤ length (put_out_to line history)
