-- What a received P(R) stands for.
use Rattle.std.proofs.Common.{◌≡◌, ℕ, suc, zero, ◌+◌, ◌-◌, ◌%◌, ◌<◌, ◌≤◌, ◌==◌, MatchOption, Option, Some, None, refl, sym, ap, ◌∙◌, inl, inr, arith}
use Rattle.std.proofs.lemmas.Bool.{cases_Bool, cond-true, cond-false, eqb-true}
use Rattle.xp_packets.specs.Numbers.{numbers}
use Rattle.xp_packets.specs.declared.modulus.Modulus.TheVariants.{Eight, Long}
use Rattle.xp_packets.specs.declared.modulus.Modulus.{Modulus}
use Rattle.xp_relay.specs.Bounds.{IsCount, IsTheCount}
use Rattle.xp_relay.specs.Direction.{Direction, IsSound, first_count, acknowledged_count}
use Rattle.xp_relay.proofs.Residues.{found}
use Rattle.xp_relay.proofs.Takes.{first_count-range}

-- two counts with the same number, less than a modulus apart, are equal
same_count : (m : Modulus) (least a b : ℕ) → least ≤ a → least ≤ b → a < least + numbers m → b < least + numbers m → a % numbers m ≡ b % numbers m → a ≡ b
same_count Eight least a b h k p q e = omega arith
same_count Long least a b h k p q e = omega arith

first_count-number : (modulus number count most c : ℕ) → first_count modulus number count most ≡ Some c → c % modulus ≡ number
first_count-number modulus number count zero c e =
    elim (cases_Bool (count % modulus == number)) [
      | inl here ↦
          let same : Some count ≡ Some c = sym (cond-true (count % modulus == number) (Some count) None here) ∙ e in
          let equal : count ≡ c = cc in
          ap (λ n. n % modulus) (sym equal) ∙ eqb-true (count % modulus) number here
      | inr other ↦
          let never : None ≡ Some c = sym (cond-false (count % modulus == number) (Some count) None other) ∙ e in
          cc
    ]
first_count-number modulus number count (suc most) c e =
    elim (cases_Bool (count % modulus == number)) [
      | inl here ↦
          let same : Some count ≡ Some c = sym (cond-true (count % modulus == number) (Some count) (first_count modulus number (suc count) most) here) ∙ e in
          let equal : count ≡ c = cc in
          ap (λ n. n % modulus) (sym equal) ∙ eqb-true (count % modulus) number here
      | inr other ↦
          first_count-number modulus number (suc count) most c (sym (cond-false (count % modulus == number) (Some count) (first_count modulus number (suc count) most) other) ∙ e)
    ]

module _ {A : Type 0} where
  stands_as : (d : Direction A) (number : ℕ) → IsSound d → (o : Option ℕ) → acknowledged_count number d ≡ o → MatchOption o ((count : ℕ) → IsCount number d count → ⊥) (λ count. IsTheCount number d count)
  stands_as d number h None e = λ count is.
      let small : d.put - d.acknowledged < numbers d.terms.receiver = omega (arith, h.window, h.put, h.terms.receiver) in
      let sum : d.acknowledged + (count - d.acknowledged) ≡ count = omega (arith, is.least) in
      let there = found d.terms.receiver number d.acknowledged (d.put - d.acknowledged) (count - d.acknowledged) (omega (arith, is.most)) small (ap (λ n. n % numbers d.terms.receiver) sum ∙ is.numbered) in
      let never : None ≡ Some (d.acknowledged + (count - d.acknowledged)) = sym e ∙ there in
      cc
  stands_as d number h (Some c) e =
      let range = first_count-range (numbers d.terms.receiver) number d.acknowledged (d.put - d.acknowledged) c e in
      let same = first_count-number (numbers d.terms.receiver) number d.acknowledged (d.put - d.acknowledged) c e in
      record {
        is = record { least = range.0; most = omega (arith, range.1, h.acknowledged); numbered = same };
        only = λ other is. same_count d.terms.receiver d.acknowledged other c is.least range.0 (omega (arith, is.most, h.window, h.put, h.terms.receiver)) (omega (arith, range.1, h.acknowledged, h.window, h.put, h.terms.receiver)) (is.numbered ∙ sym same);
      }

  pub stands_for_the_count : (d : Direction A) (number : ℕ) → IsSound d → MatchOption (acknowledged_count number d) ((count : ℕ) → IsCount number d count → ⊥) (λ count. IsTheCount number d count)
  stands_for_the_count d number h = stands_as d number h (acknowledged_count number d) refl
