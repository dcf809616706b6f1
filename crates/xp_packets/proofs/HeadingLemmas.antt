-- The octets up to the type octet: what is read is spelled so, and what is spelled so is read.
use Rattle.std.proofs.Common.{◌≡◌, ℕ, ◌+◌, ◌*◌, ◌/◌, ◌%◌, ◌<◌, Bool, true, false, not, cond, eqb, leb, List, [], ◌∷◌, ◌++◌, Option, Some, None, Ok, refl, subst, arith}
use Rattle.std.proofs.lemmas.Bool.{eqb-true, eqb-false, eq-eqb, ne_eqb, leb-true, leb-false, le-leb, lt-leb, not-false, or_parts}
use Rattle.std.proofs.lemmas.Option.{same_Some}
use Rattle.xp_packets.specs.declared.fault.Malformed.TheVariants.{Format}
use Rattle.xp_packets.specs.declared.header.Header.{Header}
use Rattle.xp_packets.specs.declared.kind.Kind.{Kind}
use Rattle.xp_packets.specs.declared.kind.Kind.TheVariants.{Call, Accepted, Clear, ClearConfirm, Interrupt, InterruptConfirm, Reset, ResetConfirm, Data, Ready, NotReady, Reject}
use Rattle.xp_packets.specs.declared.modulus.Modulus.{Modulus}
use Rattle.xp_packets.specs.declared.modulus.Modulus.TheVariants.{Eight, Long}
use Rattle.xp_packets.specs.Kinds.{kind_of, whole_kind_of, without_number}
use Rattle.xp_packets.specs.Heading.{bit, heading, Begins, modulus_bits, wrong_flags, wrong_format}
use Rattle.xp_packets.specs.steps.Reading.{made_header, known_header, header_at}
use Rattle.xp_packets.proofs.BlockLemmas.{AreOctets}
use Rattle.xp_packets.proofs.Results.{guard_ok, ok_is}

-- ---- kinds

-- the octet of a kind, as far as it is the kind's
abbrev pub IsKind : Modulus → ℕ → Kind → Type 0
IsKind modulus octet Data = octet % 2 ≡ 0
IsKind modulus octet Ready = without_number modulus octet ≡ 1
IsKind modulus octet NotReady = without_number modulus octet ≡ 5
IsKind modulus octet Reject = without_number modulus octet ≡ 9
IsKind modulus octet Call = octet ≡ 11
IsKind modulus octet Accepted = octet ≡ 15
IsKind modulus octet Clear = octet ≡ 19
IsKind modulus octet ClearConfirm = octet ≡ 23
IsKind modulus octet Interrupt = octet ≡ 35
IsKind modulus octet InterruptConfirm = octet ≡ 39
IsKind modulus octet Reset = octet ≡ 27
IsKind modulus octet ResetConfirm = octet ≡ 31

test_takes : (b : Bool) (first : Kind) (others : Option Kind) (kind : Kind) (P : Kind → Type 0) → (b ≡ true → P first) → (others ≡ Some kind → P kind) → cond b (Some first) others ≡ Some kind → P kind
test_takes true first others kind P here there e = subst P (same_Some first kind e) (here refl)
test_takes false first others kind P here there e = there e

whole_takes : (modulus : Modulus) (octet : ℕ) (kind : Kind) → whole_kind_of octet ≡ Some kind → IsKind modulus octet kind
unfolding whole_kind_of
whole_takes modulus octet kind =
    test_takes (eqb octet 11) Call _ kind (IsKind modulus octet) (eqb-true octet 11)
    (test_takes (eqb octet 15) Accepted _ kind (IsKind modulus octet) (eqb-true octet 15)
    (test_takes (eqb octet 19) Clear _ kind (IsKind modulus octet) (eqb-true octet 19)
    (test_takes (eqb octet 23) ClearConfirm _ kind (IsKind modulus octet) (eqb-true octet 23)
    (test_takes (eqb octet 35) Interrupt _ kind (IsKind modulus octet) (eqb-true octet 35)
    (test_takes (eqb octet 39) InterruptConfirm _ kind (IsKind modulus octet) (eqb-true octet 39)
    (test_takes (eqb octet 27) Reset _ kind (IsKind modulus octet) (eqb-true octet 27)
    (test_takes (eqb octet 31) ResetConfirm _ kind (IsKind modulus octet) (eqb-true octet 31) (λ (e : None ≡ Some kind). absurd cc))))))))

pub kind_takes : (modulus : Modulus) (octet : ℕ) (kind : Kind) → kind_of modulus octet ≡ Some kind → IsKind modulus octet kind
unfolding kind_of
kind_takes modulus octet kind =
    test_takes (eqb (octet % 2) 0) Data _ kind (IsKind modulus octet) (eqb-true (octet % 2) 0)
    (test_takes (eqb (without_number modulus octet) 1) Ready _ kind (IsKind modulus octet) (eqb-true (without_number modulus octet) 1)
    (test_takes (eqb (without_number modulus octet) 5) NotReady _ kind (IsKind modulus octet) (eqb-true (without_number modulus octet) 5)
    (test_takes (eqb (without_number modulus octet) 9) Reject _ kind (IsKind modulus octet) (eqb-true (without_number modulus octet) 9) (whole_takes modulus octet kind))))

-- an octet that carries numbers names its kind
pub data_kind : (modulus : Modulus) (octet : ℕ) → octet % 2 ≡ 0 → kind_of modulus octet ≡ Some Data
unfolding kind_of
data_kind modulus octet even = rw even refl

pub ready_kind : (pr : ℕ) → kind_of Eight (32 * pr + 1) ≡ Some Ready
unfolding kind_of
ready_kind pr =
    let odd : (32 * pr + 1) % 2 ≡ 1 = omega arith in
    let last : (32 * pr + 1) % 32 ≡ 1 = omega arith in
    rw (odd, last) refl

pub not_ready_kind : (pr : ℕ) → kind_of Eight (32 * pr + 5) ≡ Some NotReady
unfolding kind_of
not_ready_kind pr =
    let odd : (32 * pr + 5) % 2 ≡ 1 = omega arith in
    let last : (32 * pr + 5) % 32 ≡ 5 = omega arith in
    rw (odd, last) refl

pub reject_kind : (pr : ℕ) → kind_of Eight (32 * pr + 9) ≡ Some Reject
unfolding kind_of
reject_kind pr =
    let odd : (32 * pr + 9) % 2 ≡ 1 = omega arith in
    let last : (32 * pr + 9) % 32 ≡ 9 = omega arith in
    rw (odd, last) refl

-- ---- the numbers in the first two octets

first_is : (first number m : ℕ) (q d : Bool) → first < 256 → number < 256 → first / 16 % 4 ≡ m → leb 128 first ≡ q → eqb (first / 64 % 2) 1 ≡ d → bit 128 q + bit 64 d + 16 * m + (first % 16 * 256 + number) / 256 ≡ first
first_is first number m true true below small is high low = let a = leb-true 128 first high in let b = eqb-true (first / 64 % 2) 1 low in omega arith
first_is first number m true false below small is high low = let a = leb-true 128 first high in let b = eqb-false (first / 64 % 2) 1 low in omega (arith, b)
first_is first number m false true below small is high low = let a = leb-false 128 first high in let b = eqb-true (first / 64 % 2) 1 low in omega arith
first_is first number m false false below small is high low = let a = leb-false 128 first high in let b = eqb-false (first / 64 % 2) 1 low in omega (arith, b)

-- what the first octet says of these bits and this group
record SaysBits (q d : Bool) (m group first : ℕ) : Type 0 where
  modulus : first / 16 % 4 ≡ m
  high : leb 128 first ≡ q
  low : eqb (first / 64 % 2) 1 ≡ d
  last : first % 16 ≡ group

says_bits : (q d : Bool) (m group : ℕ) → m < 4 → group < 16 → SaysBits q d m group (bit 128 q + bit 64 d + 16 * m + group)
says_bits true true m group few below = record { modulus = omega arith; high = le-leb _ _ (omega arith); low = eq-eqb _ _ (omega arith); last = omega arith }
says_bits true false m group few below = record { modulus = omega arith; high = le-leb _ _ (omega arith); low = ne_eqb _ _ (λ e. absurd (omega arith)); last = omega arith }
says_bits false true m group few below = record { modulus = omega arith; high = lt-leb _ _ (omega arith); low = eq-eqb _ _ (omega arith); last = omega arith }
says_bits false false m group few below = record { modulus = omega arith; high = lt-leb _ _ (omega arith); low = ne_eqb _ _ (λ e. absurd (omega arith)); last = omega arith }

two_bits : (modulus : Modulus) → modulus_bits modulus < 4
two_bits Eight = omega arith
two_bits Long = omega arith

-- ---- headers

known_takes : (first number octet : ℕ) (rest : List ℕ) (o : Option Kind) (x : Header × List ℕ) → known_header first number octet rest o ≡ Ok x → (kind : Kind) × (o ≡ Some kind) × ((made_header first number octet kind, rest) ≡ x)
known_takes first number octet rest None x e = absurd cc
known_takes first number octet rest (Some kind) x e =
    let made : Header × List ℕ = (made_header first number octet kind, rest) in
    (kind, refl, ok_is made x e)

-- what a header says of the octets
abbrev pub TakesHeader : Modulus → List ℕ → Header × List ℕ → Type 0
TakesHeader modulus octets x = Begins modulus octets x.0.q x.0.d x.0.identifier (x.0.octet ∷ x.1) × IsKind modulus x.0.octet x.0.kind × (wrong_flags x.0.q x.0.d x.0.octet ≡ false) × (x.0.octet < 256)

pub header_takes : (modulus : Modulus) (octets : List ℕ) (x : Header × List ℕ) → AreOctets octets → header_at modulus octets ≡ Ok x → TakesHeader modulus octets x
unfolding header_at
header_takes modulus [] x are e = absurd cc
header_takes modulus (first ∷ []) x are e = absurd cc
header_takes modulus (first ∷ number ∷ []) x are e = absurd cc
header_takes modulus (first ∷ number ∷ octet ∷ rest) x are e =
    let lawful = guard_ok (wrong_format modulus first octet) Format (known_header first number octet rest (kind_of modulus octet)) x e in
    let parts = or_parts (not (eqb (first / 16 % 4) (modulus_bits modulus))) (wrong_flags (leb 128 first) (eqb (first / 64 % 2) 1) octet) lawful.0 in
    let same : first / 16 % 4 ≡ modulus_bits modulus = eqb-true _ _ (not-false _ parts.0) in
    let known = known_takes first number octet rest (kind_of modulus octet) x lawful.1 in
    let below : first < 256 = are 0 in
    let small : number < 256 = are 1 in
    let third : octet < 256 = are 2 in
    let one : bit 128 (leb 128 first) + bit 64 (eqb (first / 64 % 2) 1) + 16 * modulus_bits modulus + (first % 16 * 256 + number) / 256 ≡ first = first_is first number (modulus_bits modulus) _ _ below small same refl refl in
    let two : (first % 16 * 256 + number) % 256 ≡ number = omega arith in
    subst (TakesHeader modulus (first ∷ number ∷ octet ∷ rest)) known.2 ((omega arith, rw (one, two) refl), kind_takes modulus octet known.0 known.1, parts.1, third)

pub header_again : (modulus : Modulus) (q d : Bool) (identifier octet : ℕ) (kind : Kind) (rest : List ℕ) → identifier < 4096 → kind_of modulus octet ≡ Some kind → wrong_flags q d octet ≡ false
    → header_at modulus (heading modulus q d identifier ++ octet ∷ rest) ≡ Ok (record { identifier = identifier; q = q; d = d; kind = kind; octet = octet }, rest)
unfolding header_at
header_again modulus q d identifier octet kind rest below is lawful =
    let says = says_bits q d (modulus_bits modulus) (identifier / 256) (two_bits modulus) (omega arith) in
    let same = eq-eqb _ _ says.modulus in
    let whole : identifier / 256 * 256 + identifier % 256 ≡ identifier = omega arith in
    rw (same, says.high, says.low, lawful, is, says.high, says.low, says.last, whole) refl
