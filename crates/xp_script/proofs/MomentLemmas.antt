-- Moments that are read as decimal numbers.
use Rattle.std.proofs.Common.{◌≡◌, ℕ, ◌<◌, ◌≤◌, ◌^◌, List, [], ◌∷◌, ◌&&◌, true, false, Result, Ok, Err, length, refl, ap, ◌∙◌, nat_lt, arith, rules}
use Rattle.std.specs.Char.{is_ascii_digit}
use Rattle.std.specs.List.{list_all}
use Rattle.std.specs.Result.{OkIff, result_ok}
use Rattle.std.specs.Str.{IsUtf8, all_ascii_digits}
use Rattle.std.specs.Str.Parse.{ParsesUnsigned, digits_value}
use Rattle.std.proofs.lemmas.Str.{IsUtf8-from_ascii}
use Rattle.std.proofs.lemmas.Fmt.{IsAscii-from_digits}
use Rattle.std.proofs.lemmas.Str.Parse.{IsNumeralModel, numerals_by_value, tells_all_ascii_digits, parse_digits}
use Rattle.xp_script.specs.Command.{moment_of, most_digits, within_64_bits}

-- digits alone, in std's word
all_digits : (text : List ℕ) → all_ascii_digits text ≡ list_all is_ascii_digit text
all_digits [] = refl
all_digits (octet ∷ octets) = ap (λ others. is_ascii_digit octet && others) (all_digits octets)

numerals : IsNumeralModel (λ text. all_ascii_digits text ≡ true) (digits_value 10)
numerals = numerals_by_value (λ text. all_ascii_digits text ≡ true) tells_all_ascii_digits

-- digits are a text
pub digits_are_text : (text : List ℕ) → list_all is_ascii_digit text ≡ true → IsUtf8 text
digits_are_text text digits = IsUtf8-from_ascii text (IsAscii-from_digits text (numerals.to text (all_digits text ∙ digits)))

within : {E : Type 0} (text : List ℕ) (read : Result ℕ E) → OkIff read ((0 < length text) × (digits_value 10 text < 2 ^ 64)) (digits_value 10 text)
    → 0 < length text → result_ok read ≡ within_64_bits (digits_value 10 text)
within text (Ok number) reads some = search rules
within text (Err fault) reads some = search rules

-- what is read of digits alone, few enough
pub moment_read : {E : Type 0} (text : List ℕ) (read : Result ℕ E) → length text ≤ most_digits → list_all is_ascii_digit text ≡ true → ParsesUnsigned 64 10 text read
    → result_ok read ≡ moment_of text
moment_read [] (Ok number) few digits parses = search rules
moment_read [] (Err fault) few digits parses = refl
moment_read (digit ∷ text) read few digits parses =
    let short : nat_lt most_digits (length (digit ∷ text)) ≡ false = search rules in
    rw (short, digits) (within (digit ∷ text) read (parse_digits numerals 64 (digit ∷ text) read parses (all_digits (digit ∷ text) ∙ digits)) (omega arith))
