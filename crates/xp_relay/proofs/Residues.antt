-- Packet numbers: counts modulo the numbers of a line.
use Rattle.std.proofs.Common.{◌≡◌, ℕ, suc, zero, ◌+◌, ◌-◌, ◌%◌, ◌<◌, ◌≤◌, List, [], ◌∷◌, ◌++◌, append_assoc, Some, None, refl, sym, ap, ◌∙◌, inl, inr, arith}
use Rattle.std.proofs.lemmas.Bool.{cases_eq, cond-true, cond-false, eq-eqb, ne_eqb}
use Rattle.xp_packets.specs.Numbers.{numbers}
use Rattle.xp_packets.specs.declared.end.End.{End}
use Rattle.xp_packets.specs.declared.packet.Packet.TheVariants.{DataPacket}
use Rattle.xp_relay.specs.declared.data.Data.{Data}
use Rattle.xp_relay.specs.declared.moves.Move.{Move}
use Rattle.xp_packets.specs.declared.modulus.Modulus.TheVariants.{Eight, Long}
use Rattle.xp_packets.specs.declared.modulus.Modulus.{Modulus}
use Rattle.xp_relay.specs.Direction.{first_count, numbered, to}

-- after two equal numbers come two equal numbers
pub next_same : (m : Modulus) (a b : ℕ) → a % numbers m ≡ b % numbers m → suc a % numbers m ≡ suc b % numbers m
next_same Eight a b e = omega arith
next_same Long a b e = omega arith

-- a count reaches a number after as many packets as the number is ahead of it
pub ahead_of : (m : Modulus) (a number : ℕ) → number < numbers m → (a + (number + numbers m - a % numbers m) % numbers m) % numbers m ≡ number
ahead_of Eight a number h = omega arith
ahead_of Long a number h = omega arith

-- and after no other number of packets below the modulus
pub ahead_only : (m : Modulus) (a number j : ℕ) → j < numbers m → (a + j) % numbers m ≡ number → (number + numbers m - a % numbers m) % numbers m ≡ j
ahead_only Eight a number j h e = omega arith
ahead_only Long a number j h e = omega arith

pub is_number : (m : Modulus) (a : ℕ) → a % numbers m < numbers m
is_number Eight a = omega arith
is_number Long a = omega arith

-- the number of the next packet to the receiver, from that of the oldest unacknowledged one
pub put_number : (m : Modulus) (a b : ℕ) → a ≤ b → ((a % numbers m + (b - a)) % numbers m) % numbers m ≡ b % numbers m
put_number Eight a b h = omega arith
put_number Long a b h = omega arith

-- counts less than a modulus apart have different numbers
pub distinct : (m : Modulus) (a j : ℕ) → 0 < j → j < numbers m → (a + j) % numbers m ≡ a % numbers m → ⊥
distinct Eight a j h k e = omega arith
distinct Long a j h k e = omega arith

pub found : (m : Modulus) (number a most j : ℕ) → j ≤ most → most < numbers m → (a + j) % numbers m ≡ number → first_count (numbers m) number a most ≡ Some (a + j)
found m number a zero j within small e =
    let none : j ≡ 0 = omega arith in
    let same : a + j ≡ a = omega arith in
    cond-true _ _ _ (eq-eqb _ _ (ap (λ n. n % numbers m) (sym same) ∙ e)) ∙ ap Some (sym same)
found m number a (suc most) j within small e =
    elim (cases_eq j 0) [
      | inl none ↦
          let same : a + j ≡ a = omega arith in
          cond-true _ _ _ (eq-eqb _ _ (ap (λ n. n % numbers m) (sym same) ∙ e)) ∙ ap Some (sym same)
      | inr some ↦
          let rest : suc a + (j - 1) ≡ a + j = omega arith in
          cond-false _ _ _ (ne_eqb _ _ (λ f. distinct m a j (omega arith) (omega arith) (e ∙ sym f)))
          ∙ found m number (suc a) most (j - 1) (omega arith) (omega arith) (ap (λ n. n % numbers m) rest ∙ e)
          ∙ ap Some rest
    ]

pub absent : (modulus number a most : ℕ) → ((j : ℕ) → j ≤ most → (a + j) % modulus ≡ number → ⊥) → first_count modulus number a most ≡ None
absent modulus number a zero never =
    let same : a + 0 ≡ a = omega arith in
    cond-false _ _ _ (ne_eqb _ _ (λ e. never 0 (omega arith) (ap (λ n. n % modulus) same ∙ e)))
absent modulus number a (suc most) never =
    let same : a + 0 ≡ a = omega arith in
    cond-false _ _ _ (ne_eqb _ _ (λ e. never 0 (omega arith) (ap (λ n. n % modulus) same ∙ e)))
    ∙ absent modulus number (suc a) most (λ j within e.
    let more : a + (j + 1) ≡ suc a + j = omega arith in
    never (j + 1) (omega arith) (ap (λ n. n % modulus) more ∙ e))

-- the numbers of data depend only on the number of the first count
pub numbered_same : {A : Type 0} (side : End) (m : Modulus) (pr a b : ℕ) (waiting : List (Data A)) → a % numbers m ≡ b % numbers m → numbered side (numbers m) pr a waiting ≡ numbered side (numbers m) pr b waiting
numbered_same side m pr a b [] e = refl
numbered_same {A} side m pr a b (x ∷ rest) e =
    ap (λ (n : ℕ). to {A = A} side (DataPacket x.q x.d x.more n pr x.octets) ∷ numbered side (numbers m) pr (suc a) rest) e
    ∙ ap (λ others. to side (DataPacket x.q x.d x.more (b % numbers m) pr x.octets) ∷ others) (numbered_same side m pr (suc a) (suc b) rest (next_same m a b e))

-- the count that a number stands for, from how far it is ahead
pub told_found : (m : Modulus) (number a most : ℕ) → most < numbers m → number < numbers m → (number + numbers m - a % numbers m) % numbers m ≤ most → first_count (numbers m) number a most ≡ Some (a + (number + numbers m - a % numbers m) % numbers m)
told_found m number a most small h within = found m number a most _ within small (ahead_of m a number h)

pub told_beyond : (m : Modulus) (number a most : ℕ) → most < numbers m → most < (number + numbers m - a % numbers m) % numbers m → first_count (numbers m) number a most ≡ None
told_beyond m number a most small beyond =
    absent (numbers m) number a most (λ j within e.
    let only = ahead_only m a number j (omega arith) e in omega arith)

pub told_over : (m : Modulus) (number a most : ℕ) → numbers m ≤ number → first_count (numbers m) number a most ≡ None
told_over m number a most over =
    absent (numbers m) number a most (λ j within e. let below = is_number m (a + j) in omega arith)

-- a number below the modulus is its own residue
pub number_kept : (m : Modulus) (n : ℕ) → n < numbers m → n % numbers m ≡ n
number_kept Eight n h = omega arith
number_kept Long n h = omega arith

pub next_kept : (m : Modulus) (n : ℕ) → ((n + 1) % numbers m) % numbers m ≡ suc n % numbers m
next_kept Eight n = omega arith
next_kept Long n = omega arith

-- one more data packet leaves the queue
pub moved : {A : Type 0} (made : List (Move A)) (side : End) (m : Modulus) (pr next : ℕ) (x : Data A) (rest : List (Data A)) → next < numbers m → (made ++ to side (DataPacket x.q x.d x.more next pr x.octets) ∷ []) ++ numbered side (numbers m) pr ((next + 1) % numbers m) rest ≡ made ++ numbered side (numbers m) pr next (x ∷ rest)
moved {A} made side m pr next x rest small =
    append_assoc made (to side (DataPacket x.q x.d x.more next pr x.octets) ∷ []) (numbered side (numbers m) pr ((next + 1) % numbers m) rest)
    ∙ ap (λ others. made ++ to side (DataPacket x.q x.d x.more next pr x.octets) ∷ others) (numbered_same side m pr ((next + 1) % numbers m) (suc next) rest (next_kept m next))
    ∙ ap (λ (n : ℕ). made ++ to {A = A} side (DataPacket x.q x.d x.more n pr x.octets) ∷ numbered side (numbers m) pr (suc next) rest) (sym (number_kept m next small))
