-- How the private functions find a place for each line of a newly read file.
use Rattle.std.specs.Prelude.{◌≡◌, ◌≢◌, ℕ, ◌<◌, ◌≤◌, List, Bool, true, false, not, ◌&&◌, Option, None, Some, unwrap_or, length, map, nat_le, slice_index_or}
use Rattle.xp_packets.specs.declared.modulus.Modulus.{Modulus}
use Rattle.xp_packets.specs.declared.modulus.Modulus.TheVariants.{Eight, Long}
use Rattle.xp_subs.specs.declared.line.Line.{Line}
use Rattle.xp_subs.specs.Bounds.{most_lines}
use Rattle.xp_subs.specs.Laid.{Comes, IsLaidOver}
use Rattle.xp_subs.specs.Tables.{Tables, IsThere, is_spare, line_at, line_count, line_named_of, modulus_of, no_line, spare_place}
use Rattle.xp_subs.specs.steps.Moved.{IsMoved, moved_tables}

abbrev pub same_modulus : Modulus → Modulus → Bool
same_modulus Eight Eight = true
same_modulus Long Long = true
same_modulus _ _ = false

-- in place of a line's number, where there is none
abbrev pub no_number : ℕ
no_number = most_lines

abbrev pub number_of : Tables → List ℕ → ℕ
number_of tables name = unwrap_or (line_named_of tables name) no_number

-- the numbers that the names of these lines have in the tables
abbrev pub numbers_in : Tables → List Line → List ℕ
numbers_in tables lines = map (λ (line : Line). number_of tables line.name) lines

-- the number in the list at an index; 0 past its end
abbrev pub number_at : List ℕ → ℕ → ℕ
number_at numbers index = slice_index_or numbers index 0

-- a line that has a place in the tables has its modulus
abbrev pub fits : Tables → Line → Bool
fits tables line = by (line_named_of tables line.name) where
  by : Option ℕ → Bool
  by None = true
  by (Some was) = same_modulus (modulus_of tables was) line.modulus

abbrev pub AllFit : Tables → List Line → Type 0
AllFit tables lines = (line : ℕ) → line < length lines → fits tables (slice_index_or lines line no_line) ≡ true

-- The lines of `next` at places of `old`. A number past the places stands for a line that has no place yet, and a number past the
-- lines for a place that has no line.
pub record Assigns (old next : Tables) (places holders : List ℕ) : Type 0 where
  pub long : length places ≡ line_count next
  pub wide : length holders ≡ line_count old
  pub stands : (line : ℕ) → line < line_count next → number_at places line < line_count old
      → IsThere next line × (number_at holders (number_at places line) ≡ line) × (modulus_of next line ≡ modulus_of old (number_at places line))
  pub held : (at : ℕ) → at < line_count old → number_at holders at < line_count next → number_at places (number_at holders at) ≡ at
  pub kept : (was line : ℕ) → IsThere next line → line_named_of old (line_at next line).name ≡ Some was → number_at places line ≡ was

-- the place is of this modulus, and no line has it
abbrev pub is_free : List Line → List ℕ → ℕ → Modulus → ℕ → Bool
is_free old holders lines modulus at =
    same_modulus modulus (slice_index_or old at no_line).modulus && nat_le lines (number_at holders at)

-- the line is of this modulus, and has no place
abbrev pub wants_place : ℕ → Line → Modulus → ℕ → Bool
wants_place count line modulus place = (not (is_spare line) && same_modulus modulus line.modulus) && nat_le count place

-- a line of this modulus that comes
abbrev pub IsNew : Tables → Tables → Modulus → ℕ → Type 0
IsNew old next modulus line = Comes old next line × (modulus_of next line ≡ modulus)

-- The lines of this modulus that come before `line` have places. The places of this modulus that come before `from` have lines.
pub record Fills (old next : Tables) (modulus : Modulus) (line from : ℕ) (places holders : List ℕ) : Type 0 where
  pub assigned : Assigns old next places holders
  pub taken : (at : ℕ) → at < from → at < line_count old → modulus_of old at ≡ modulus → number_at holders at < line_count next
  pub placed : (k : ℕ) → k < line → IsThere next k → modulus_of next k ≡ modulus → number_at places k < line_count old
  -- the lines that came stand before `from`, in their order, and the others have no places yet
  pub before : (k : ℕ) → k < line → IsNew old next modulus k → number_at places k < from
  pub ordered : (k later : ℕ) → k < later → later < line → IsNew old next modulus k → IsNew old next modulus later
      → number_at places k < number_at places later
  pub waiting : (k : ℕ) → line ≤ k → IsNew old next modulus k → line_count old ≤ number_at places k

-- lines that had places keep them, and lines of the other modulus get none
pub record Goes (old next : Tables) (modulus : Modulus) (places holders after held : List ℕ) : Type 0 where
  pub still : (k : ℕ) → k < line_count next → number_at places k < line_count old → number_at after k ≡ number_at places k
  pub others : (k : ℕ) → modulus_of next k ≢ modulus → number_at after k ≡ number_at places k
  pub kept : (at : ℕ) → at < line_count old → number_at holders at < line_count next → number_at held at < line_count next

-- what stands at a place: its line, or nothing
abbrev pub held_line : List Line → ℕ → Modulus → Line
held_line lines holder modulus = slice_index_or lines holder (spare_place modulus)

pub record AreHeld (old next : List Line) (holders : List ℕ) (lines : List Line) : Type 0 where
  pub long : length lines ≡ length old
  pub each : (at : ℕ) → at < length old
      → slice_index_or lines at no_line ≡ held_line next (number_at holders at) (slice_index_or old at no_line).modulus

-- the lines stand at their places
pub record IsLaid (old next : Tables) (places : List ℕ) (lines : List Line) : Type 0 where
  pub moved : IsMoved (number_at places) next (moved_tables (number_at places) next lines)
  pub over : IsLaidOver old next (moved_tables (number_at places) next lines)
