-- The stored state, and the direction that it represents.
use Rattle.std.proofs.Common.{◌≡◌, ℕ, ◌+◌, ◌-◌, ◌%◌, ◌<◌, ◌≤◌, true, false, leb, List, [], ◌&&◌, not, length, drop, None, sym, ap, subst, ◌∙◌, inl, inr, arith}
use Rattle.std.specs.Bool.{then_some}
use Rattle.std.specs.Option.{option_map}
use Rattle.std.proofs.lemmas.List.{drop_all, length-drop}
use Rattle.std.proofs.lemmas.Bool.{cases_Bool, cond-true, cond-false, leb-true, leb-false}
use Rattle.xp_packets.specs.Numbers.{numbers}
use Rattle.xp_packets.specs.declared.end.End.{End}
use Rattle.xp_relay.specs.declared.data.Data.{Data}
use Rattle.xp_relay.specs.Direction.{Direction, IsSound, is_open, numbered, put_all, release, released, acknowledged_count}
use Rattle.xp_relay.specs.StoredDirection.{StoredDirection, stored, Represents}
use Rattle.xp_relay.proofs.Residues.{numbered_same, put_number, told_found, told_beyond, told_over}

-- how far a number is ahead of the oldest unacknowledged one
abbrev pub ahead : {A : Type 0} → ℕ → StoredDirection A → ℕ
ahead number k = (number + numbers k.terms.receiver - k.oldest) % numbers k.terms.receiver

told_over_kept : {A : Type 0} (number : ℕ) (d : Direction A) → numbers d.terms.receiver ≤ number → acknowledged_count number d ≡ None
told_over_kept number d over = told_over d.terms.receiver number d.acknowledged (d.put - d.acknowledged) over

-- a number beyond the modulus of the receiver's line stands for no count
pub told_none : {A : Type 0} (number : ℕ) (k : StoredDirection A) (d : Direction A) → Represents k d → numbers k.terms.receiver ≤ number → acknowledged_count number d ≡ None
told_none number k d h over = told_over_kept number d (subst (λ x. numbers x.terms.receiver ≤ number) h.shown over)

told_kept : {A : Type 0} (number : ℕ) (d : Direction A) → IsSound d → number < numbers d.terms.receiver → acknowledged_count number d ≡ option_map (λ more. d.acknowledged + more) (then_some (leb (ahead number (stored d)) (d.put - d.acknowledged)) (ahead number (stored d)))
told_kept number d sound within =
    let small : d.put - d.acknowledged < numbers d.terms.receiver = omega (arith, sound.terms.receiver) in
    elim (cases_Bool (leb (ahead number (stored d)) (d.put - d.acknowledged))) [
      | inl here ↦
          rw here (told_found d.terms.receiver number d.acknowledged (d.put - d.acknowledged) small within (leb-true _ _ here))
      | inr beyond ↦
          rw beyond (told_beyond d.terms.receiver number d.acknowledged (d.put - d.acknowledged) small (leb-false _ _ beyond))
    ]

-- any other number stands for a count, if it is no further ahead than packets are unacknowledged
pub told_ahead : {A : Type 0} (number : ℕ) (k : StoredDirection A) (d : Direction A) → Represents k d → number < numbers k.terms.receiver → acknowledged_count number d ≡ option_map (λ more. d.acknowledged + more) (then_some (leb (ahead number k) k.out) (ahead number k))
told_ahead number k d h within =
    let P : StoredDirection _ → Type 0 = λ x. number < numbers x.terms.receiver → acknowledged_count number d ≡ option_map (λ more. d.acknowledged + more) (then_some (leb (ahead number x) x.out) (ahead number x)) in
    subst P (sym h.shown) (told_kept number d h.sound) within

-- the packets that wait are numbered from the count of those that were sent
pub waiting_moves : {A : Type 0} (k : StoredDirection A) (d : Direction A) (side : End) (pr first : ℕ) → Represents k d → first ≡ (k.oldest + k.out) % numbers k.terms.receiver → numbered side (numbers k.terms.receiver) pr first k.held ≡ numbered side (numbers d.terms.receiver) pr d.put (drop d.put d.accepted)
waiting_moves {A} k d side pr first h e =
    let P : StoredDirection A → Type 0 = λ x. first ≡ (x.oldest + x.out) % numbers x.terms.receiver → numbered side (numbers x.terms.receiver) pr first x.held ≡ numbered side (numbers d.terms.receiver) pr d.put (drop d.put d.accepted) in
    let at_kept : P (stored d) = λ f. numbered_same side d.terms.receiver pr first d.put (drop d.put d.accepted) (ap (λ n. n % numbers d.terms.receiver) f ∙ put_number d.terms.receiver d.acknowledged d.put h.sound.acknowledged) in
    subst P (sym h.shown) at_kept e

-- the stored state after all that waited was sent
pub put_all_shown : {A : Type 0} (k : StoredDirection A) (d : Direction A) (out : ℕ) (held : List (Data A)) → Represents k d → out ≡ k.out + length k.held → held ≡ [] → Represents (record k { out = out; held = held }) (put_all d)
put_all_shown {A} k d out held h e f =
    let P : StoredDirection A → Type 0 = λ x. out ≡ x.out + length x.held → record x { out = out; held = held } ≡ stored (put_all d) in
    let at_kept : P (stored d) = λ sum.
    let counted : out ≡ length d.accepted - d.acknowledged = omega (arith, sum, length-drop d.put d.accepted, h.sound.acknowledged, h.sound.put) in
    let none : held ≡ drop (length d.accepted) d.accepted = f ∙ sym (drop_all (length d.accepted) d.accepted (omega arith)) in
    cc in
    record {
      shown = subst P (sym h.shown) at_kept e;
      sound = record { terms = h.sound.terms; acknowledged = omega (arith, h.sound.acknowledged, h.sound.put); put = omega arith; window = h.sound.window };
    }

-- whether the receiver takes data, by the stored state
pub open_shown : {A : Type 0} (k : StoredDirection A) (d : Direction A) → Represents k d → (k.ready && not k.owes) ≡ is_open d
open_shown k d h = ap (λ x. x.ready && not x.owes) h.shown

pub release_open : {A : Type 0} (d : Direction A) → is_open d ≡ true → release d ≡ put_all d
release_open d e = cond-true _ _ _ e

pub release_closed : {A : Type 0} (d : Direction A) → is_open d ≡ false → release d ≡ d
release_closed d e = cond-false _ _ _ e

pub released_open : {A : Type 0} (side : End) (pr : ℕ) (d : Direction A) → is_open d ≡ true → released side pr d ≡ numbered side (numbers d.terms.receiver) pr d.put (drop d.put d.accepted)
released_open side pr d e = cond-true _ _ _ e

pub released_closed : {A : Type 0} (side : End) (pr : ℕ) (d : Direction A) → is_open d ≡ false → released side pr d ≡ []
released_closed side pr d e = cond-false _ _ _ e
