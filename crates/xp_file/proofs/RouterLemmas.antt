-- How a router is spelled: the parts of its text, its port, and what is valid of it.
use Rattle.std.proofs.Common.{◌≡◌, ◌≢◌, ℕ, ◌<◌, ◌^◌, List, [], ◌∷◌, ◌++◌, Bool, true, false, ◌&&◌, cond, is_some, Option, None, Some, option_and_then, option_map, Result, Ok, Err, Bor, inl, inr, length, get_or, suc, refl, ap, sym, ◌∙◌, arith}
use Rattle.std.specs.Char.{is_ascii_digit}
use Rattle.std.specs.List.{list_all}
use Rattle.std.specs.Option.{MatchOption}
use Rattle.std.specs.Prelude.{nat_le, nat_eq}
use Rattle.std.specs.Result.{OkIff}
use Rattle.std.specs.Str.{all_ascii_digits}
use Rattle.std.specs.Str.Parse.{ParsesUnsigned, digits_value}
use Rattle.std.proofs.lemmas.Bool.{and_parts, cases_Bool, leb-true, eq-eqb, eqb-true}
use Rattle.std.proofs.lemmas.Str.Parse.{IsNumeralModel, numerals_by_value, tells_all_ascii_digits, parse_digits}
use Rattle.std.proofs.lemmas.Str.Pattern.{IsSplitOnceResult, split_parts}
use Rattle.xp_file.specs.Routers.{RouterData, IsPort, IsRouter, registered_port, colon, opening_bracket, closing_bracket, has_port_digits, valid_port, port_spelled, behind, parted, port_behind, router_at, in_brackets, without_brackets, router_spelled}
use Rattle.xp_file.specs.Sources.{is_ip_address}
use Rattle.xp_file.proofs.Choices.{none_is_some}

-- a text around the first octet of a code
parted_at : (code : ℕ) (front rest : List ℕ) → ((i : ℕ) → i < length front → get_or front i 0 ≢ code) → parted code (front ++ code ∷ rest) ≡ Some (front, rest)
parted_at code [] rest none = rw (eq-eqb code code refl) refl
parted_at code (octet ∷ front) rest none =
    elim (cases_Bool (nat_eq octet code)) [
      | inl here ↦ absurd (none 0 (omega arith) (eqb-true octet code here))
      | inr apart ↦ rw (apart, parted_at code front rest (λ i within. none (suc i) (omega arith))) refl
    ]

parted_none : (code : ℕ) (text : List ℕ) → ((i : ℕ) → i < length text → get_or text i 0 ≢ code) → parted code text ≡ None
parted_none code [] none = refl
parted_none code (octet ∷ text) none =
    elim (cases_Bool (nat_eq octet code)) [
      | inl here ↦ absurd (none 0 (omega arith) (eqb-true octet code here))
      | inr apart ↦ rw (apart, parted_none code text (λ i within. none (suc i) (omega arith))) refl
    ]

pub parted_once : (code : ℕ) (text : List ℕ) (parts : Option (Bor (List ℕ) × Bor (List ℕ))) → IsSplitOnceResult code text parts → code < 128
    → option_map (λ parts. (parts.0.now, parts.1.now)) parts ≡ parted code text
parted_once code text None split small = sym (parted_none code text (split_parts code text None split small))
parted_once code text (Some parts) split small =
    let (is, none) = split_parts code text (Some parts) split small in
    rw is (sym (parted_at code parts.0.now parts.1.now none))

-- a text behind its first octet
pub behind_first : (code : ℕ) (text : List ℕ) (rest : Option (Bor (List ℕ))) → MatchOption rest ((more : List ℕ) → text ≢ code ∷ more) (λ r. text ≡ code ∷ r.now)
    → option_map (λ r. r.now) rest ≡ behind code text
behind_first code text (Some rest) is = rw (is, eq-eqb code code refl) refl
behind_first code [] None apart = refl
behind_first code (octet ∷ text) None apart =
    elim (cases_Bool (nat_eq octet code)) [
      | inl here ↦ absurd (apart text (ap (λ c. c ∷ text) (eqb-true octet code here)))
      | inr other ↦ rw other refl
    ]

-- digits alone, in std's word
all_digits : (text : List ℕ) → all_ascii_digits text ≡ list_all is_ascii_digit text
all_digits [] = refl
all_digits (octet ∷ octets) = ap (λ others. is_ascii_digit octet && others) (all_digits octets)

numerals : IsNumeralModel (λ text. all_ascii_digits text ≡ true) (digits_value 10)
numerals = numerals_by_value (λ text. all_ascii_digits text ≡ true) tells_all_ascii_digits

-- what is read of the digits of a port
number_read : {E : Type 0} (text : List ℕ) (read : Result ℕ E) → has_port_digits text ≡ true → ParsesUnsigned 16 10 text read
    → OkIff read ((0 < length text) × (digits_value 10 text < 2 ^ 16)) (digits_value 10 text)
number_read text read spelled parses =
    let both = and_parts (nat_le 1 (length text) && nat_le (length text) 5) (list_all is_ascii_digit text) spelled in
    parse_digits numerals 16 text read parses (all_digits text ∙ both.1)

has_some : (text : List ℕ) → has_port_digits text ≡ true → 0 < length text
has_some text spelled =
    let both = and_parts (nat_le 1 (length text) && nat_le (length text) 5) (list_all is_ascii_digit text) spelled in
    let few = and_parts (nat_le 1 (length text)) (nat_le (length text) 5) both.0 in
    let some = leb-true 1 (length text) few.0 in
    omega arith

pub no_port : {E : Type 0} (text : List ℕ) (read : Result ℕ E) (fault : E) → has_port_digits text ≡ true → ParsesUnsigned 16 10 text read → read ≡ Err fault
    → port_spelled text ≡ None
no_port text (Ok number) fault spelled parses is = cc
no_port text (Err other) fault spelled parses is =
    let none = number_read text (Err other) spelled parses in
    let some = has_some text spelled in
    elim (cases_Bool (nat_le (digits_value 10 text) 65535)) [
      | inl few ↦ let most = leb-true (digits_value 10 text) 65535 few in absurd (none (some, omega arith))
      | inr many ↦ rw (spelled, many) (by (nat_le 1 (digits_value 10 text)))
    ]
  where
    by : (test : Bool) → cond (test && false) (Some (digits_value 10 text)) None ≡ None
    by true = refl
    by false = refl

-- what is valid of a router that is spelled
and_then_some : {A B : Type 0} (next : A → Option B) (first : Option A) (y : B) → option_and_then next first ≡ Some y → (x : A) × (first ≡ Some x) × (next x ≡ Some y)
and_then_some next None y e = let never : None ≡ Some y = e in absurd (none_is_some never)
and_then_some next (Some x) y e = (x, refl, e)

if_some : {A : Type 0} (test : Bool) (found : Option A) (y : A) → cond test found None ≡ Some y → (test ≡ true) × (found ≡ Some y)
if_some true found y e = (refl, e)
if_some false found y e = let never : None ≡ Some y = e in absurd (none_is_some never)

port_form : (text : List ℕ) (port : ℕ) → port_spelled text ≡ Some port → IsPort port
port_form text port e =
    let number = digits_value 10 text in
    let valid = (if_some (has_port_digits text) (valid_port number) port e).1 in
    let (passed, made) = if_some (nat_le 1 number && nat_le number 65535) (Some number) port valid in
    let this : number ≡ port = cc in
    let both = and_parts (nat_le 1 number) (nat_le number 65535) passed in
    rw (← this) (leb-true 1 number both.0, leb-true number 65535 both.1)

port_behind_form : (text : List ℕ) (port : ℕ) → port_behind text ≡ Some port → IsPort port
port_behind_form [] port e =
    let made : Some registered_port ≡ Some port = e in
    let this : registered_port ≡ port = cc in
    rw (← this) (omega arith, omega arith)
port_behind_form (octet ∷ octets) port e =
    let (digits, _, spelled) = and_then_some port_spelled (behind colon (octet ∷ octets)) port e in port_form digits port spelled

router_form : (address : List ℕ) (port : ℕ) (router : RouterData) → IsPort port → router_at address port ≡ Some router → IsRouter router
router_form address port router valid e =
    let (passed, made) = if_some (is_ip_address address) (Some (let r : RouterData = record { address = address; port = port } in r)) router e in
    let this : record { address = address; port = port } ≡ router = cc in
    rw (← this) (record { spelled = passed; port = valid })

registered : IsPort registered_port
registered = (omega arith, omega arith)

in_brackets_form : (text : List ℕ) (router : RouterData) → in_brackets text ≡ Some router → IsRouter router
in_brackets_form text router e =
    let (parts, _, here) = and_then_some (λ parts. option_and_then (router_at parts.0) (port_behind parts.1)) (parted closing_bracket text) router e in
    let (port, behind_is, made) = and_then_some (router_at parts.0) (port_behind parts.1) router here in
    router_form parts.0 port router (port_behind_form parts.1 port behind_is) made

without_brackets_form : (text : List ℕ) (router : RouterData) → without_brackets text ≡ Some router → IsRouter router
without_brackets_form text router e = by (parted colon text) refl
  where
    one : (parts : List ℕ × List ℕ) (second : Bool)
        → cond second (router_at text registered_port) (option_and_then (router_at parts.0) (port_spelled parts.1)) ≡ Some router → IsRouter router
    one parts true e = router_form text registered_port router registered e
    one parts false e =
        let (port, spelled, made) = and_then_some (router_at parts.0) (port_spelled parts.1) router e in
        router_form parts.0 port router (port_form parts.1 port spelled) made

    by : (parts : Option (List ℕ × List ℕ)) → parted colon text ≡ parts → IsRouter router
    by None none = router_form text registered_port router registered (rw none at e)
    by (Some parts) is = one parts (is_some (parted colon parts.1)) (rw is at e)

pub spelled_form : (text : List ℕ) (router : RouterData) → router_spelled text ≡ Some router → IsRouter router
spelled_form text router e = by (behind opening_bracket text) refl
  where
    by : (rest : Option (List ℕ)) → behind opening_bracket text ≡ rest → IsRouter router
    by None none = without_brackets_form text router (rw none at e)
    by (Some rest) is = in_brackets_form rest router (rw is at e)
