-- Single bits of an octet: what the masks take and set.
use Rattle.std.proofs.Common.{◌≡◌, ℕ, ◌+◌, ◌*◌, ◌/◌, ◌%◌, ◌^◌, ◌<◌, Bool, true, false, not, eqb, bit_and, bit_or, refl, arith, inl, inr}
use Rattle.std.proofs.Math.Pow.{pow_pos}
use Rattle.std.proofs.lemmas.Bool.{eqb-true, eqb-false, eq-eqb, ne_eqb, cases_Bool}
use Rattle.std.proofs.lemmas.Nat.{or_shifted}
use Rattle.std.proofs.lemmas.Nat.Bits.{and_pow, bit_at-lt}
use Rattle.std.specs.Int.{bit_at}
use Rattle.xp_packets.specs.declared.modulus.Modulus.{Modulus}
use Rattle.xp_packets.specs.declared.modulus.Modulus.TheVariants.{Eight, Long}
use Rattle.xp_packets.specs.Heading.{bit, modulus_bits}

weight_is_zero : (b weight : ℕ) → b < 2 → 0 < weight → not (eqb (b * weight) 0) ≡ eqb b 1
weight_is_zero b weight small some =
    elim (cases_Bool (eqb b 1)) [
      | inl one ↦ let is = eqb-true b 1 one in rw (is, ne_eqb (1 * weight) 0 (λ none. omega arith)) refl
      | inr other ↦ let is = eqb-false b 1 other in let none : b ≡ 0 = omega (arith, is) in rw (none, eq-eqb (0 * weight) 0 (omega arith)) refl
    ]

-- a mask of one bit takes that bit
pub bit_test : (n k : ℕ) → not (eqb (bit_and n (2 ^ k)) 0) ≡ eqb (n / 2 ^ k % 2) 1
bit_test n k = rw (and_pow n k) (weight_is_zero (bit_at n k) (2 ^ k) (bit_at-lt n k) (pow_pos k))

flag_below : (more : Bool) → bit 16 more < 32
flag_below true = omega arith
flag_below false = omega arith

-- P(R) in bits 8 to 6, M in bit 5 and P(S) in bits 4 to 2 share no bit
pub data_bits : (ps pr : ℕ) (more : Bool) → ps < 8 → pr < 8 → bit_or (bit_or (pr * 32 % 256) (bit 16 more)) (ps * 2 % 256) ≡ 32 * pr + bit 16 more + 2 * ps
data_bits ps pr true small little =
    let received : pr * 32 % 256 ≡ pr * 32 = omega arith in
    let sent : ps * 2 % 256 ≡ ps * 2 = omega arith in
    let both : pr * 32 + 16 ≡ (2 * pr + 1) * 16 = omega arith in
    rw (received, sent, or_shifted pr 5 16 (omega arith), both, or_shifted (2 * pr + 1) 4 (ps * 2) (omega arith)) (omega arith)
data_bits ps pr false small little =
    let received : pr * 32 % 256 ≡ pr * 32 = omega arith in
    let sent : ps * 2 % 256 ≡ ps * 2 = omega arith in
    let both : pr * 32 + 0 ≡ (2 * pr) * 16 = omega arith in
    rw (received, sent, or_shifted pr 5 0 (omega arith), both, or_shifted (2 * pr) 4 (ps * 2) (omega arith)) (omega arith)

-- the M bit below P(R) in bits 8 to 2
pub last_bit : (pr : ℕ) (more : Bool) → pr < 128 → bit_or (pr * 2 % 256) (bit 1 more) ≡ 2 * pr + bit 1 more
last_bit pr true little = let received : pr * 2 % 256 ≡ pr * 2 = omega arith in rw (received, or_shifted pr 1 1 (omega arith)) (omega arith)
last_bit pr false little = let received : pr * 2 % 256 ≡ pr * 2 = omega arith in rw (received, or_shifted pr 1 0 (omega arith)) (omega arith)

-- Q, D, the modulus and the channel group share no bit
pub heading_bits : (modulus : Modulus) (q d : Bool) (group : ℕ) → group < 16 → bit_or (bit_or (bit_or (bit 128 q) (bit 64 d)) (modulus_bits modulus * 16 % 256)) group ≡ bit 128 q + bit 64 d + 16 * modulus_bits modulus + group
heading_bits Eight true true group below = or_shifted 13 4 group below
heading_bits Eight true false group below = or_shifted 9 4 group below
heading_bits Eight false true group below = or_shifted 5 4 group below
heading_bits Eight false false group below = or_shifted 1 4 group below
heading_bits Long true true group below = or_shifted 14 4 group below
heading_bits Long true false group below = or_shifted 10 4 group below
heading_bits Long false true group below = or_shifted 6 4 group below
heading_bits Long false false group below = or_shifted 2 4 group below

-- two digits in the half-octets of an octet
pub half_bits : (high low : ℕ) → high < 10 → low < 10 → bit_or (high * 16 % 256) low ≡ 16 * high + low
half_bits high low upper lower =
    let shifted : high * 16 % 256 ≡ high * 16 = omega arith in
    rw (shifted, or_shifted high 4 low (omega arith)) (omega arith)
