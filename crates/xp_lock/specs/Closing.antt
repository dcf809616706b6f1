-- The book of a closed exchange (`Closed`), how its history and its counts match the passes, and which pass is missing where
-- an exchange is not closed.
use Rattle.std.specs.Prelude.{◌≡◌, ℕ, zero, suc, ◌+◌, ◌<◌, ◌==◌, ◌||◌, not, Bool, true, false, List, [], ◌∷◌, All, filter, length, slice_index_or, take}
use mathlib.Core.List.{IsPrefix}
use Rattle.xp_charge.specs.declared.record.Record.{Record}
use Rattle.xp_subs.specs.Tables.{Tables}
use Rattle.xp_step.specs.declared.entry.Entry.{Entry}
use Rattle.xp_seats.specs.Handed.{handed, is_raised}
use Rattle.xp_lock.specs.Outgoing.{put_out_to}
use Rattle.xp_lock.specs.Passes.{Pass, own_entries}
use Rattle.xp_seats.specs.Views.{StartsWith}

-- a closed exchange: its subscriptions, its history, the records that were handed over before the close, and how many outputs each
-- line took
pub record Closed (A : Type 0) : Type 0 where
  pub subs : Tables
  pub history : List (Entry A)
  pub given : List Record
  -- by line
  pub taken : List ℕ

-- how many outputs the pass of a line took: none of a line that does not exist
abbrev pub taken_by : List ℕ → ℕ → ℕ
taken_by counts line = slice_index_or counts line 0

module _ {A : Type 0} where
  -- The line saw a front of the history. Its own entries in the history are those that it knows. What it took is a front of
  -- what was put out to it
  pub record PassMatches (history : List (Entry A)) (pass : Pass A) : Type 0 where
    pub seen : StartsWith history pass.seen
    pub own : handed pass.line history ≡ own_entries pass
    pub taken : IsPrefix pass.taken (put_out_to pass.line history)

  -- so of all passes
  abbrev pub PassesMatch : List (Entry A) → List (Pass A) → Type 0
  PassesMatch history passes = All (PassMatches history) passes

  -- the book counts what the pass took, and these are the first so many outputs to its line in the history, each once
  pub record IsCounted (book : Closed A) (pass : Pass A) : Type 0 where
    pub count : taken_by book.taken pass.line ≡ length pass.taken
    pub first : pass.taken ≡ take (taken_by book.taken pass.line) (put_out_to pass.line book.history)

  -- so of all passes
  abbrev pub AreCounted : Closed A → List (Pass A) → Type 0
  AreCounted book passes = All (IsCounted book) passes

  -- the entries of the events that lines offered: all but the stalls and the reloads
  abbrev pub all_handed : List (Entry A) → List (Entry A)
  all_handed history = filter (λ entry. not (is_raised entry.event.what)) history

  -- how many events so many lines offered together
  abbrev pub handed_together : ℕ → List (Entry A) → ℕ
  handed_together zero history = 0
  handed_together (suc line) history = length (handed line history) + handed_together line history

  -- whether a line has a pass here
  abbrev pub has_line : ℕ → List (Pass A) → Bool
  has_line line [] = false
  has_line line (pass ∷ passes) = (pass.line == line) || has_line line passes

  -- each of so many lines has its pass here
  abbrev pub HasAll : ℕ → List (Pass A) → Type 0
  HasAll lines passes = (line : ℕ) → line < lines → has_line line passes ≡ true

  -- no line has two passes here
  abbrev pub NoneTwice : List (Pass A) → Type 0
  NoneTwice [] = Unit {0}
  NoneTwice (pass ∷ passes) = (has_line pass.line passes ≡ false) × NoneTwice passes

  -- how many entries these passes together know as their own
  abbrev pub own_entries_together : List (Pass A) → ℕ
  own_entries_together [] = 0
  own_entries_together (pass ∷ passes) = length (own_entries pass) + own_entries_together passes

  -- this is the lowest of so many lines whose pass is not here
  pub record IsMissing (lines : ℕ) (passes : List (Pass A)) (line : ℕ) : Type 0 where
    pub within : line < lines
    pub missing : has_line line passes ≡ false
    pub lowest : HasAll line passes
