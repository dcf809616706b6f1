-- The octets that a text stands for, if it is digits alone.
use Rattle.std.proofs.Common.{◌≡◌, ℕ, ◌%◌, ◌<◌, List, [], ◌∷◌, Some, None, Ok, Err, Result, Option, is_some, true, false, length, refl, sym, ◌∙◌, arith, inl, inr}
use Rattle.std.specs.List.{AllPass, list_all, position}
use Rattle.std.proofs.lemmas.Bool.{cases_Bool}
use Rattle.std.proofs.lemmas.List.Quantifiers.{position-Some}
use Rattle.std.proofs.lemmas.List.Sums.{AllPass-from_list_all, list_all-from_AllPass}
use Rattle.hex.specs.Hex.{decode_of, decode_pairs, is_hex_digit}
use Rattle.hex.specs.declared.error.FromHexError.{FromHexError}
use Rattle.hex.proofs.HexLemmas.{decode_of-digits, decode_of-odd, decode_of-ok}
use Rattle.xp_script.specs.Command.{is_space, octets_of, some_octets}

-- octets are read from digits alone
read_from : (text : List ℕ) (read : Result (List ℕ) FromHexError) (octets : List ℕ) → decode_of text ≡ read → some_octets read ≡ Some octets → AllPass is_hex_digit text
read_from text (Ok []) octets is some = absurd (cc)
read_from text (Ok (first ∷ more)) octets is some = (decode_of-ok text (first ∷ more) is).1
read_from text (Err fault) octets is some = absurd (cc)

spaced : (text : List ℕ) (place : ℕ) (read : Option (List ℕ)) → octets_of text ≡ read → position is_space text ≡ Some place → octets_of text ≡ None
spaced text place None is space = is
spaced text place (Some octets) is space =
    let digits = read_from text (decode_of text) octets refl is in
    let here = position-Some is_space text place 0 space in
    let digit = digits place 0 here.0 in
    let at = here.1 in
    absurd (grind arith)

-- a text with a space stands for no octets
pub octets_of-spaced : (text : List ℕ) (place : ℕ) → position is_space text ≡ Some place → octets_of text ≡ None
octets_of-spaced text place space = spaced text place (octets_of text) refl space

none_of_nothing : octets_of [] ≡ None
unfolding decode_pairs
none_of_nothing = refl

-- nothing stands for none
pub octets_of-empty : (text : List ℕ) → text ≡ [] → is_some (octets_of text) ≡ false
octets_of-empty text empty = rw (empty, none_of_nothing) refl

-- an odd number of digits stands for none
pub octets_of-odd : (text : List ℕ) → length text % 2 ≡ 1 → is_some (octets_of text) ≡ false
octets_of-odd text odd = rw (decode_of-odd text odd) refl

some_from : (text : List ℕ) (read : Option (List ℕ)) → octets_of text ≡ read → is_some read ≡ true → AllPass is_hex_digit text
some_from text None is some = absurd (cc)
some_from text (Some octets) is some = read_from text (decode_of text) octets refl is

-- what stands for some is digits alone
pub digits-octets_of : (text : List ℕ) → is_some (octets_of text) ≡ true → AllPass is_hex_digit text
digits-octets_of text some = some_from text (octets_of text) refl some

some_read : (octets : List ℕ) → 0 < length octets → is_some (some_octets (Ok octets)) ≡ true
some_read [] some = absurd (omega arith)
some_read (first ∷ more) some = refl

some_digits : (text : List ℕ) → 0 < length text → length text % 2 ≡ 0 → list_all is_hex_digit text ≡ true → is_some (octets_of text) ≡ true
some_digits text some even all =
    let read = decode_of-digits text even (AllPass-from_list_all is_hex_digit text all) in
    let twice = (decode_of-ok text read.0 read.1).2 in
    rw (read.1) (some_read read.0 (omega arith))

no_digits : (text : List ℕ) → list_all is_hex_digit text ≡ false → is_some (octets_of text) ≡ false
no_digits text other = elim (cases_Bool (is_some (octets_of text))) [
  | inl some ↦ let all = list_all-from_AllPass is_hex_digit text (digits-octets_of text some) in absurd (cc)
  | inr none ↦ none
]

-- and pairs of digits stand for some
pub octets_of-pairs : (text : List ℕ) → 0 < length text → length text % 2 ≡ 0 → list_all is_hex_digit text ≡ is_some (octets_of text)
octets_of-pairs text some even = elim (cases_Bool (list_all is_hex_digit text)) [
  | inl all ↦ all ∙ sym (some_digits text some even all)
  | inr other ↦ other ∙ sym (no_digits text other)
]
