-- A slab of values that each have a number, as the map by number that it is seen as.
use Rattle.std.proofs.Common.{arith, ◌≡◌, ◌≢◌, ℕ, zero, suc, Bool, true, false, cond, Option, Some, None, List, [], ◌∷◌, map, filter_map, get_or, refl, ap, sym, subst, ◌∙◌, inl, inr}
use Rattle.std.proofs.lemmas.Bool.{cases_eq, eq-eqb, eqb-true}
use Rattle.std.specs.Cmp.{nat_cmp_total}
use Rattle.std.specs.FinMap as finite
use Rattle.std.specs.FinMap.Entries as entries
use Rattle.std.specs.Ordering.{eq_by_cmp, nat_cmp}
use Rattle.slab.specs.Slab.{Slab, Updates, get}
use Rattle.xp_machine.specs.steps.Keyed.{HasOneEach}
use Rattle.xp_machine.specs.Keyed.{by_number}
use Rattle.xp_machine.proofs.Maps.{get_gone, get_left, get_new, get_other, tie}

-- two options are equal if each value of the one is a value of the other
same_option : {Y : Type 0} (a b : Option Y) → ((y : Y) → a ≡ Some y → b ≡ Some y) → ((y : Y) → b ≡ Some y → a ≡ Some y) → a ≡ b
same_option None None to from = refl
same_option None (Some y) to from = from y refl
same_option (Some y) b to from = sym (to y refl)

first_or : {Y : Type 0} (b : Bool) (y : Y) (rest : Option Y) → (v : Y) × (rest ≡ Some v) → (v : Y) × (cond b (Some y) rest ≡ Some v)
first_or true y rest later = (y, refl)
first_or false y rest later = later

module _ {X Y : Type 0} (entry : X → ℕ × Y) where
  abbrev listed : List (Option X) → List (ℕ × Y)
  listed slots = map entry (filter_map (λ slot. slot) slots)

  -- under a key is a value of this number
  pub record IsUnder (slab : Slab X) (number : ℕ) (y : Y) : Type 0 where
    pub key : ℕ
    pub value : X
    pub there : get slab key ≡ Some value
    pub number_is : (entry value).0 ≡ number
    pub seen : (entry value).1 ≡ y

  from_slot : (slots : List (Option X)) (n : ℕ) (y : Y) → entries.find nat_cmp n (listed slots) ≡ Some y
      → (key : ℕ) × (x : X) × (get_or slots key None ≡ Some x) × ((entry x).0 ≡ n) × ((entry x).1 ≡ y)
  from_slot [] n y is = absurd (cc)
  from_slot (None ∷ slots) n y is = let later = from_slot slots n y is in (suc later.0, later.1, later.2, later.3, later.4)
  from_slot (Some x ∷ slots) n y is = elim (eq_by_cmp nat_cmp n (entry x).0) as (λ b. eq_by_cmp nat_cmp n (entry x).0 ≡ b
      → cond b (Some (entry x).1) (entries.find nat_cmp n (listed slots)) ≡ Some y
      → (key : ℕ) × (z : X) × (get_or (Some x ∷ slots) key None ≡ Some z) × ((entry z).0 ≡ n) × ((entry z).1 ≡ y)) [
        | true ↦ λ tied here. (0, x, refl, eqb-true (entry x).0 n (sym (tie n (entry x).0) ∙ tied), cc)
        | false ↦ λ apart there. let later = from_slot slots n y there in (suc later.0, later.1, later.2, later.3, later.4)
      ] refl is

  in_slot : (slots : List (Option X)) (key : ℕ) (x : X) → get_or slots key None ≡ Some x → (y : Y) × (entries.find nat_cmp (entry x).0 (listed slots) ≡ Some y)
  in_slot [] key x is = absurd (cc)
  in_slot (None ∷ slots) zero x is = absurd (cc)
  in_slot (None ∷ slots) (suc key) x is = in_slot slots key x is
  in_slot (Some first ∷ slots) zero x is =
      let same : first ≡ x = cc in (
        (entry first).1,
        ap (λ b. cond b (Some (entry first).1) (entries.find nat_cmp (entry x).0 (listed slots)))
            (tie (entry x).0 (entry first).0 ∙ eq-eqb (entry first).0 (entry x).0 (ap (λ z. (entry z).0) same)),
      )
  in_slot (Some first ∷ slots) (suc key) x is =
      first_or (eq_by_cmp nat_cmp (entry x).0 (entry first).0) (entry first).1 (entries.find nat_cmp (entry x).0 (listed slots)) (in_slot slots key x is)

  -- what the map has is under a key
  pub under : (slab : Slab X) (number : ℕ) (y : Y) → finite.get (by_number entry slab) number ≡ Some y → IsUnder slab number y
  under slab number y is =
      let it = from_slot slab.slots number y (sym (finite.get-from_entries nat_cmp_total (listed slab.slots) number) ∙ is) in
      record { key = it.0; value = it.1; there = it.2; number_is = it.3; seen = it.4 }

  -- what is under a key is in the map, under its number
  pub found : (slab : Slab X) (key : ℕ) (x : X) → HasOneEach entry slab → get slab key ≡ Some x
      → finite.get (by_number entry slab) (entry x).0 ≡ Some (entry x).1
  found slab key x one is =
      let some = in_slot slab.slots key x is in
      let here : finite.get (by_number entry slab) (entry x).0 ≡ Some some.0 =
      finite.get-from_entries nat_cmp_total (listed slab.slots) (entry x).0 ∙ some.1 in
      let it = under slab (entry x).0 some.0 here in
      let at : get slab key ≡ Some it.value = ap (get slab) (one key it.key x it.value is it.there (sym it.number_is)) ∙ it.there in
      let same : it.value ≡ x = cc in
      here ∙ ap (λ y. Some y) (sym it.seen ∙ ap (λ z. (entry z).1) same)

  -- two maps agree at a number if each value of that number stays under its key
  alike : (old new : Slab X) (number : ℕ) → HasOneEach entry old → HasOneEach entry new
      → ((key : ℕ) (x : X) → (entry x).0 ≡ number → get old key ≡ Some x → get new key ≡ Some x)
      → ((key : ℕ) (x : X) → (entry x).0 ≡ number → get new key ≡ Some x → get old key ≡ Some x)
      → finite.get (by_number entry new) number ≡ finite.get (by_number entry old) number
  alike old new number one one' to from = same_option _ _ (stays new old one from) (stays old new one' to)
    where
      stays : (a b : Slab X) → HasOneEach entry b → ((key : ℕ) (x : X) → (entry x).0 ≡ number → get a key ≡ Some x → get b key ≡ Some x)
          → (y : Y) → finite.get (by_number entry a) number ≡ Some y → finite.get (by_number entry b) number ≡ Some y
      stays a b one keeps y is =
          let it = under a number y is in
          let P : ℕ → Type 0 = λ n. finite.get (by_number entry b) n ≡ Some (entry it.value).1 in
          subst P it.number_is (found b it.key it.value one (keeps it.key it.value it.number_is it.there)) ∙ ap (λ v. Some v) it.seen

  module _ (old new : Slab X) (key : ℕ) (one : HasOneEach entry old) where
    -- a value of a new number is put under a free key
    module _ (x : X) (updates : Updates old new key (Some x)) (free : get old key ≡ None)
        (fresh : finite.get (by_number entry old) (entry x).0 ≡ None) where
      fresh_under : (other : ℕ) (z : X) → get old other ≡ Some z → (entry z).0 ≢ (entry x).0
      fresh_under other z is same = grind (arith, found)

      was_under : (other : ℕ) (z : X) → (entry z).0 ≢ (entry x).0 → get new other ≡ Some z → get old other ≡ Some z
      was_under other z differs is = grind (arith, cases_eq)

      stays_under : (other : ℕ) (z : X) → get old other ≡ Some z → get new other ≡ Some z
      stays_under other z is = updates.others other (λ same. let at : get old key ≡ Some z = ap (get old) (sym same) ∙ is in absurd (cc)) ∙ is

      pub added_one_each : HasOneEach entry new
      added_one_each first second z w is is' same = grind (arith, cases_eq, found, fresh_under)

      pub added : by_number entry new ≡ finite.insert (by_number entry old) (entry x).0 (entry x).1
      added = finite.same_map nat_cmp_total finite.nat_cmp-IsAntisymmetric _ _ (λ n. elim (cases_eq n (entry x).0) [
        | inl same ↦
            let P : ℕ → Type 0 = λ m. finite.get (by_number entry new) m ≡ finite.get (finite.insert (by_number entry old) (entry x).0 (entry x).1) m in
            subst P (sym same) (found new key x added_one_each updates.changed ∙ sym (get_new (by_number entry old) (entry x).0 (entry x).1))
        | inr other ↦
            alike old new n one added_one_each (λ k z is there. stays_under k z there) (λ k z is there. was_under k z (λ same. other (sym is ∙ same)) there)
            ∙ sym (get_other (by_number entry old) (entry x).0 (entry x).1 n other)
      ])

    module _ (x : X) (there : get old key ≡ Some x) where
      of_it : (n : ℕ) (at : ℕ) (z : X) → (n ≢ (entry x).0) → (entry z).0 ≡ n → get old at ≡ Some z → at ≢ key
      of_it n at z other is found same = grind (arith, found)

      -- the value under a key becomes another of the same number
      module _ (next : X) (updates : Updates old new key (Some next)) (number : (entry next).0 ≡ (entry x).0) where
        was : (at : ℕ) (z : X) → get new at ≡ Some z → (v : X) × (get old at ≡ Some v) × ((entry v).0 ≡ (entry z).0)
        was at z is = grind (arith, cases_eq)

        pub changed_one_each : HasOneEach entry new
        changed_one_each first second z w is is' same = grind (arith, was)

        was_other : (n : ℕ) (at : ℕ) (z : X) → n ≢ (entry x).0 → (entry z).0 ≡ n → get new at ≡ Some z → at ≢ key
        was_other n at z other is found same = grind (arith, found)

        pub changed : by_number entry new ≡ finite.insert (by_number entry old) (entry x).0 (entry next).1
        changed = finite.same_map nat_cmp_total finite.nat_cmp-IsAntisymmetric _ _ (λ n. elim (cases_eq n (entry x).0) [
          | inl same ↦
              let P : ℕ → Type 0 = λ m. finite.get (by_number entry new) m ≡ Some (entry next).1 in
              let Q : ℕ → Type 0 = λ m. finite.get (finite.insert (by_number entry old) (entry x).0 (entry next).1) m ≡ Some (entry next).1 in
              subst P (number ∙ sym same) (found new key next changed_one_each updates.changed)
              ∙ sym (subst Q (sym same) (get_new (by_number entry old) (entry x).0 (entry next).1))
          | inr other ↦
              alike old new n one changed_one_each
              (λ at z is found. updates.others at (of_it n at z other is found) ∙ found)
              (λ at z is found. sym (updates.others at (was_other n at z other is found)) ∙ found)
              ∙ sym (get_other (by_number entry old) (entry x).0 (entry next).1 n other)
        ])

      -- the value under a key is taken out
      module _ (updates : Updates old new key None) where
        still : (at : ℕ) (z : X) → get new at ≡ Some z → (at ≢ key) × (get old at ≡ Some z)
        still at z is = grind (arith, changed)

        pub removed_one_each : HasOneEach entry new
        removed_one_each first second z w is is' same = one first second z w (still first z is).1 (still second w is').1 same

        gone : (number : ℕ) → number ≡ (entry x).0 → finite.get (by_number entry new) number ≡ None
        gone number same = same_option (finite.get (by_number entry new) number) None not_found (λ y none. absurd (cc))
          where
            not_found : (y : Y) → finite.get (by_number entry new) number ≡ Some y → None ≡ Some y
            not_found y is =
                let it = under new number y is in
                let old_one = still it.key it.value it.there in
                absurd (old_one.0 (one it.key key it.value x old_one.1 there (it.number_is ∙ same)))

        pub removed : by_number entry new ≡ finite.remove (by_number entry old) (entry x).0
        removed = finite.same_map nat_cmp_total finite.nat_cmp-IsAntisymmetric _ _ (λ n. elim (cases_eq n (entry x).0) [
          | inl same ↦ gone n same ∙ sym (get_gone (by_number entry old) (entry x).0 n same)
          | inr other ↦
              alike old new n one removed_one_each
              (λ at z is found. updates.others at (of_it n at z other is found) ∙ found)
              (λ at z is found. (still at z found).1)
              ∙ sym (get_left (by_number entry old) (entry x).0 n other)
        ])
