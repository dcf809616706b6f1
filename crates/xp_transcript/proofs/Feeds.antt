-- The lines of a script, as they are cut off one after the other.
use Rattle.std.proofs.Common.{◌≡◌, ℕ, ◌+◌, ◌-◌, ◌<◌, ◌≤◌, List, [], ◌∷◌, Some, None, take, drop, length, arith, inl, inr}
use Rattle.std.specs.List.{position, position_or_len}
use Rattle.std.proofs.lemmas.Bool.{cases_lt}
use Rattle.std.proofs.lemmas.Grind.{common_steps}
use Rattle.std.proofs.lemmas.List.{length-drop, take_all}
use Rattle.std.proofs.lemmas.List.Splits.{slice_split_first, slice_split_none}
use Rattle.std.proofs.lemmas.List.Sums.{fails_before_first}
use Rattle.xp_transcript.specs.Telling.{is_feed, lines_of}

is_place : (text : List ℕ) (place : ℕ) → position is_feed text ≡ Some place → (position_or_len is_feed text ≡ place) × (place < length text)
is_place text place is = elim (cases_lt (position_or_len is_feed text) (length text)) [
  | inl within ↦ grind (arith, common_steps)
  | inr past ↦ grind (arith, common_steps)
]

-- one is cut off
pub lines-cut : (text : List ℕ) (place : ℕ) → position is_feed text ≡ Some place
    → lines_of text ≡ take place text ∷ lines_of (take (length text - (place + 1)) (drop (place + 1) text))
lines-cut text place is =
    let first = is_place text place is in
    let here = first.0 in
    let rest : take (length text - (place + 1)) (drop (place + 1) text) ≡ drop (place + 1) text =
    take_all (length text - (place + 1)) (drop (place + 1) text) (omega (arith, length-drop (place + 1) text)) in
    rw rest (rw here at (slice_split_first is_feed text 0 (omega arith)))

no_place : (text : List ℕ) → position is_feed text ≡ None → length text ≤ position_or_len is_feed text
no_place text is = elim (cases_lt (position_or_len is_feed text) (length text)) [
  | inl within ↦ grind (arith, common_steps)
  | inr past ↦ omega arith
]

-- there is but one
pub lines-uncut : (text : List ℕ) → position is_feed text ≡ None → lines_of text ≡ text ∷ []
lines-uncut text is =
    let past = no_place text is in
    slice_split_none is_feed text (λ k d within. fails_before_first is_feed text k d (omega arith))
