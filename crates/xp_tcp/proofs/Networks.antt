-- Texts of networks, and numbers that are too large.
use Rattle.std.proofs.Common.{◌≡◌, ◌<◌, ◌^◌, ◌&&◌, ◌∙◌, ℕ, List, [], ◌∷◌, Bool, true, false, cond, Option, None, Some, Result, Ok, Err, ap, inl, inr, length, refl, arith, subst, sym}
use Rattle.std.specs.Char.{is_ascii_digit}
use Rattle.std.specs.List.{after_first, before_first, list_all}
use Rattle.std.specs.Net.Grammar.{IsIpText}
use Rattle.std.specs.Prelude.{nat_le}
use Rattle.std.specs.Result.{OkIff}
use Rattle.std.specs.Str.{all_ascii_digits}
use Rattle.std.specs.Str.Parse.{ParsesUnsigned, digits_value}
use Rattle.std.specs.declared.net.ip_addr.IpAddr.{IpAddr}
use Rattle.std.proofs.NetLemmas.Theorems.{IsIpText_unique}
use Rattle.std.proofs.lemmas.Bool.{and_parts, cases_Bool, leb-true}
use Rattle.std.proofs.lemmas.Str.Parse.{IsNumeralModel, numerals_by_value, tells_all_ascii_digits, parse_digits}
use Rattle.xp_tcp.specs.Networks.{IsNetworkText, are_digits, is_slash, number_up_to, width}

-- digits alone, in std's word
all_digits : (text : List ℕ) → all_ascii_digits text ≡ list_all is_ascii_digit text
all_digits [] = refl
all_digits (octet ∷ octets) = ap (λ others. is_ascii_digit octet && others) (all_digits octets)

numerals : IsNumeralModel (λ text. all_ascii_digits text ≡ true) (digits_value 10)
numerals = numerals_by_value (λ text. all_ascii_digits text ≡ true) tells_all_ascii_digits

-- what is read of digits
number_read : {E : Type 0} (text : List ℕ) (read : Result ℕ E) → are_digits text ≡ true → ParsesUnsigned 8 10 text read
    → OkIff read ((0 < length text) × (digits_value 10 text < 2 ^ 8)) (digits_value 10 text)
number_read text read spelled parses =
    let both = and_parts (nat_le 1 (length text)) (list_all is_ascii_digit text) spelled in
    parse_digits numerals 8 text read parses (all_digits text ∙ both.1)

has_some : (text : List ℕ) → are_digits text ≡ true → 0 < length text
has_some text spelled =
    let both = and_parts (nat_le 1 (length text)) (list_all is_ascii_digit text) spelled in
    let some = leb-true 1 (length text) both.0 in
    omega arith

-- digits that write more than an octet holds
pub no_number : {E : Type 0} (most : ℕ) (text : List ℕ) (read : Result ℕ E) (fault : E) → most < 2 ^ 8 → are_digits text ≡ true
    → ParsesUnsigned 8 10 text read → read ≡ Err fault → number_up_to most text ≡ None
no_number most text (Ok number) fault small spelled parses is = cc
no_number most text (Err other) fault small spelled parses is =
    let none = number_read text (Err other) spelled parses in
    let some = has_some text spelled in
    elim (cases_Bool (nat_le (digits_value 10 text) most)) [
      | inl few ↦ let within = leb-true (digits_value 10 text) most few in absurd (none (some, omega arith))
      | inr many ↦ rw (spelled, many) refl
    ]

none_is_some : (count : ℕ) → None ≡ Some count → ⊥
none_is_some count same = cc

-- a text whose address has fewer bits than are to count is that of no network
pub no_network : (text front digits : List ℕ) (address : IpAddr) (bits : ℕ) (counted : Option ℕ)
    → front ≡ before_first is_slash text → digits ≡ after_first is_slash text → IsIpText front address
    → bits ≡ width address → counted ≡ number_up_to bits digits → counted ≡ None
    → (other : IpAddr) (count : ℕ) → IsNetworkText text other count → ⊥
no_network text front digits address bits counted front_is digits_is named bits_are counted_is none other count is =
    let same = IsIpText_unique front address other named (subst (λ part. IsIpText part other) (sym front_is) is.named) in
    none_is_some count
    (sym none ∙ counted_is ∙ ap (λ most. number_up_to most digits) (bits_are ∙ ap width same) ∙ ap (number_up_to (width other)) digits_is ∙ is.counted)
