-- What the seats know. The keeper knows of each holder what it last saw of the history (`Seats`), and the seat of a holder knows the
-- same (`SeatState`). Each line is a holder, by its number, and so is the recorder, whose number is that of the lines.
use Rattle.std.specs.Prelude.{◌≡◌, ℕ, Option, None, List, [], ◌++◌, slice_index_or}
use Rattle.atomic_table.specs.Seated.{TableId}
use Rattle.xp_step.specs.declared.entry.Entry.{Entry}

-- the name of a table that does not exist
abbrev pub no_table : TableId
no_table = record { words = 0; slots = 0; views_name = 0; atom = 0; block = 0; offset = 0; slot_names = [] }

-- the keeper's seat: the name of the table of all seats, and what each holder last saw, by number
pub record Seats (A : Type 0) : Type 0 where
  pub table : TableId
  pub known : List (Option (List (Entry A)))

-- the seat of a holder: the name of its table, the number of the holder, and the history as it last saw it
pub record SeatState (A : Type 0) : Type 0 where
  pub table : TableId
  pub holder : ℕ
  pub seen : List (Entry A)

module _ {A : Type 0} where
  -- the history begins with these entries
  abbrev pub StartsWith : List (Entry A) → List (Entry A) → Type 0
  StartsWith history front = (rest : List (Entry A)) × (history ≡ front ++ rest)

  -- what a holder last saw. It is none of a holder who gave its seat back, or who does not exist
  abbrev pub seen_by : List (Option (List (Entry A))) → ℕ → Option (List (Entry A))
  seen_by known holder = slice_index_or known holder None
