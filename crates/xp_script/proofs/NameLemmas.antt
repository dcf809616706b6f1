-- A line's name is letters and digits, so it is text.
use Rattle.std.proofs.Common.{◌≡◌, ℕ, ◌<◌, List, true, false, ◌&&◌, None, length, get_or, arith, inl, inr}
use Rattle.std.specs.Prelude.{nat_le}
use Rattle.std.specs.List.{list_all}
use Rattle.std.specs.Str.{IsAscii, IsUtf8}
use Rattle.std.proofs.lemmas.Bool.{cases_Bool, cases_lt, and_parts}
use Rattle.std.proofs.lemmas.Grind.{common_steps}
use Rattle.std.proofs.lemmas.List.{get_or_past}
use Rattle.std.proofs.lemmas.List.Folds.{list_all_at}
use Rattle.std.proofs.lemmas.Str.{IsUtf8-from_ascii}
use Rattle.xp_file.specs.Name.{is_line_letter, is_line_name}
use Rattle.xp_subs.specs.Sound.{IsSound}
use Rattle.xp_subs.specs.Tables.{Tables, line_named_of}
use Rattle.xp_subs.proofs.TableLemmas.{line_named_of-unspelled}

letter_low : (octet : ℕ) → is_line_letter octet ≡ true → octet < 128
letter_low octet letter = grind (arith, common_steps)

letters_low : (name : List ℕ) → list_all is_line_letter name ≡ true → IsAscii name
letters_low name letters i = elim (cases_lt i (length name)) [
  | inl within ↦ elim (cases_Bool (is_line_letter (get_or name i 0))) [
    | inl letter ↦ letter_low (get_or name i 0) letter
    | inr other ↦ let none : list_all is_line_letter name ≡ false = list_all_at is_line_letter name i 0 within other in absurd (cc)
  ]
  | inr past ↦ let zero : get_or name i 0 ≡ 0 = get_or_past name i 0 past in omega arith
]

unspelled : (name : List ℕ) → (IsUtf8 name → ⊥) → is_line_name name ≡ false
unspelled name no_text = elim (cases_Bool (is_line_name name)) [
  | inl spelled ↦
      let letters : list_all is_line_letter name ≡ true = (and_parts (nat_le 1 (length name) && nat_le (length name) 16) (list_all is_line_letter name) spelled).1 in
      absurd (no_text (IsUtf8-from_ascii name (letters_low name letters)))
  | inr bad ↦ bad
]

-- what is no text names no line
pub line_named_of-no_text : (tables : Tables) (name : List ℕ) → IsSound tables → (IsUtf8 name → ⊥) → line_named_of tables name ≡ None
line_named_of-no_text tables name sound no_text = line_named_of-unspelled tables name sound.spelled (unspelled name no_text)
