-- Each step on the seats keeps their rule.
use Rattle.std.proofs.Common.{◌≡◌, ◌≢◌, ℕ, ◌<◌, true, false, true≢false, cond, eqb, Option, Some, None, List, [], ◌∷◌, ◌++◌, length, set, sym, refl, ap, ◌∙◌, ⊎_elim, arith, eq-eqb}
use Rattle.std.proofs.lemmas.Bool.{cases_lt, ne_eqb}
use Rattle.std.proofs.lemmas.List.{get_or_append_left, get_or_past, get_or_push, get_or-set_other, get_or-set_same}
use Rattle.std.proofs.lemmas.Option.{none-some}
use mathlib.Core.Option.{some, some-ne-none}
use lib.ListN.{get_elem?}
use prog.Atomic.{either}
use Rattle.atomic_table.proofs.Lists.{at_set}
use Rattle.atomic_table.specs.Table.{Allows, Joins, Splits, keeps}
use Rattle.xp_step.specs.declared.entry.Entry.{Entry}
use Rattle.xp_step.specs.Exchange.{Exchange}
use Rattle.xp_seats.specs.declared.seats_for_proofs.View.{View}
use Rattle.xp_seats.specs.Views.{seen_by}
use Rattle.xp_seats.specs.steps.Views.{Fits, IsReturned, IsShared, IsShown, first_part, keeping, nobody, one_further, part_of, with_part, without_part}
use Rattle.xp_seats.proofs.Lists.{Each, each_new, each_set}

off : false ≡ true → ⊥
off e = true≢false (sym e)

-- the owners, where the part of one holder is now in this seat
abbrev given_to : (ℕ → ℕ) → ℕ → ℕ → ℕ → ℕ
given_to owner holder seat other = cond (eqb other holder) seat (owner other)

given_here : (owner : ℕ → ℕ) (holder seat : ℕ) → given_to owner holder seat holder ≡ seat
given_here owner holder seat = ap (λ b. cond b seat (owner holder)) (eq-eqb holder holder refl)

given_else : (owner : ℕ → ℕ) (holder seat other : ℕ) → other ≢ holder → given_to owner holder seat other ≡ owner other
given_else owner holder seat other apart = ap (λ b. cond b seat (owner other)) (ne_eqb other holder apart)

module _ {A : Type 0} where
  -- a holder of whom something is known is there
  is_there : (known : List (Option (List (Entry A)))) (holder : ℕ) (seen : List (Entry A)) → seen_by known holder ≡ Some seen → holder < length known
  is_there known holder seen is = grind (arith, cases_lt, get_or_past, none-some)

  pub begins : IsShared {A = A} (keeping [] ∷ [])
  begins = record {
    keeper = 0;
    owner = λ _. 0;
    known = [];
    each = λ seat view e. each_new (Fits 0 (λ _. 0) []) [] (keeping []) (record { keeps = λ _. (refl, refl); holds = λ c. absurd (off c) })
        (λ j u none. absurd (some-ne-none u (sym none))) seat view e;
  }

  module _ (views : List (View A)) (h : IsShared views) where
    -- the part of a new holder is given out
    gives : (seat : ℕ) (v : View A) → get_elem? views seat ≡ some v → v.keeps ≡ true → IsShared (set views seat (one_further v) ++ first_part v ∷ [])
    gives seat v at may =
        let own = (h.each seat v at).keeps may in
        let vs : List (View A) = set views seat (one_further v) in
        let more : List (Option (List (Entry A))) = v.known ++ Some [] ∷ [] in
        let owner : ℕ → ℕ = given_to h.owner (length v.known) (length vs) in
        let F : ℕ → View A → Type 0 = Fits h.keeper owner more in
        record {
          keeper = h.keeper;
          owner = owner;
          known = more;
          each = each_new F vs (first_part v)
              (record {
                keeps = λ k. absurd (off k);
                holds = λ _. (given_here h.owner (length v.known) (length vs), get_or_push v.known (Some []) None (length v.known) refl);
              })
              (each_set F views seat (one_further v)
              (record { keeps = λ _. (own.0, refl); holds = λ c. absurd (off c) })
              (λ j u other e. record {
                keeps = λ k. absurd (other (((h.each j u e).keeps k).0 ∙ sym own.0));
                holds = λ c.
                    let was = (h.each j u e).holds c in
                    let same : seen_by v.known u.holder ≡ Some u.seen = ap (λ known. seen_by known u.holder) own.1 ∙ was.1 in
                    let within = is_there v.known u.holder u.seen same in (
                      given_else h.owner (length v.known) (length vs) u.holder (λ here. absurd (omega (arith, within, here))) ∙ was.0,
                      get_or_append_left v.known (Some [] ∷ []) None u.holder within ∙ same,
                    );
              }));
        }

    -- a part goes to a new seat
    leaves : (seat : ℕ) (v : View A) → get_elem? views seat ≡ some v → v.holds ≡ true → IsShared (set views seat (without_part v) ++ part_of v ∷ [])
    leaves seat v at may =
        let own = (h.each seat v at).holds may in
        let vs : List (View A) = set views seat (without_part v) in
        let owner : ℕ → ℕ = given_to h.owner v.holder (length vs) in
        let F : ℕ → View A → Type 0 = Fits h.keeper owner h.known in
        record {
          keeper = h.keeper;
          owner = owner;
          known = h.known;
          each = each_new F vs (part_of v)
              (record { keeps = λ k. absurd (off k); holds = λ _. (given_here h.owner v.holder (length vs), own.1) })
              (each_set F views seat (without_part v)
              (record { keeps = (h.each seat v at).keeps; holds = λ c. absurd (off c) })
              (λ j u other e. record {
                keeps = (h.each j u e).keeps;
                holds = λ c.
                    let was = (h.each j u e).holds c in
                    (given_else h.owner v.holder (length vs) u.holder (λ same. other (sym was.0 ∙ ap h.owner same ∙ own.0)) ∙ was.0, was.1);
              }));
        }

    -- a part comes to a seat
    comes : (seat : ℕ) (v : View A) (other : ℕ) (u : View A) → get_elem? views seat ≡ some v → (other ≡ seat → ⊥)
        → get_elem? (set views seat (with_part v u)) other ≡ some u → u.holds ≡ true → IsShared (set (set views seat (with_part v u)) other nobody)
    comes seat v other u at two at' may =
        let was_there : get_elem? views other ≡ some u = ⊎_elim (λ x. absurd (two x.0)) (λ x. x.1) (at_set views seat other (with_part v u) u at') in
        let theirs = (h.each other u was_there).holds may in
        let owner : ℕ → ℕ = given_to h.owner u.holder seat in
        let F : ℕ → View A → Type 0 = Fits h.keeper owner h.known in
        let G : ℕ → View A → Type 0 = λ j w. j ≢ other → F j w in
        let inner : Each G (set views seat (with_part v u)) = each_set G views seat (with_part v u)
        (λ _. record { keeps = (h.each seat v at).keeps; holds = λ _. (given_here h.owner u.holder seat, theirs.1) })
        (λ j w _ e apart. record {
          keeps = (h.each j w e).keeps;
          holds = λ c.
              let was = (h.each j w e).holds c in
              (given_else h.owner u.holder seat w.holder (λ same. apart (sym was.0 ∙ ap h.owner same ∙ theirs.0)) ∙ was.0, was.1);
        }) in
        record {
          keeper = h.keeper;
          owner = owner;
          known = h.known;
          each = each_set F (set views seat (with_part v u)) other nobody (record { keeps = λ k. absurd (off k); holds = λ c. absurd (off c) }) (λ j w apart e. inner j w e apart);
        }

    module _ (seat : ℕ) (v : View A) (at : get_elem? views seat ≡ some v) (keeps_all : v.keeps ≡ true) (has : v.holds ≡ true) where
      kept : (seat ≡ h.keeper) × (v.known ≡ h.known)
      kept = (h.each seat v at).keeps keeps_all

      -- what the keeper knows of the holder whose part it has
      agrees : seen_by v.known v.holder ≡ Some v.seen
      agrees = ap (λ known. seen_by known v.holder) kept.1 ∙ ((h.each seat v at).holds has).1

      -- that holder sees something else, or gives its part back
      changes : (now : Option (List (Entry A))) (after : View A) → after.known ≡ set v.known v.holder now
          → (after.holds ≡ true → (after.holder ≡ v.holder) × (now ≡ Some after.seen)) → IsShared (set views seat after)
      changes now after known holds =
          let all : List (Option (List (Entry A))) = set v.known v.holder now in
          let mine = (h.each seat v at).holds has in
          record {
            keeper = h.keeper;
            owner = h.owner;
            known = all;
            each = each_set (Fits h.keeper h.owner all) views seat after
                (record {
                  keeps = λ _. (kept.0, known);
                  holds = λ c.
                      let still = holds c in (
                        ap h.owner still.0 ∙ mine.0,
                        ap (seen_by all) still.0 ∙ get_or-set_same v.known v.holder now None (is_there v.known v.holder v.seen agrees) ∙ still.1,
                      );
                })
                (λ j u other e. record {
                  keeps = λ k. absurd (other (((h.each j u e).keeps k).0 ∙ sym kept.0));
                  holds = λ c.
                      let was = (h.each j u e).holds c in (
                        was.0,
                        get_or-set_other v.known v.holder u.holder now None (λ same. other (sym was.0 ∙ ap h.owner same ∙ mine.0))
                            ∙ ap (λ known. seen_by known u.holder) kept.1 ∙ was.1,
                      );
                });
          }

  -- ---- as steps of a table

  pub gives_at : {S : Type 0} (seat : ℕ) (v : View A) → v.keeps ≡ true → Splits {S = S} (λ s. IsShared s.views) seat v (one_further v) (first_part v)
  gives_at seat v may s h at = gives s.views h seat v at may

  pub leaves_at : {S : Type 0} (seat : ℕ) (v : View A) → v.holds ≡ true → Splits {S = S} (λ s. IsShared s.views) seat v (without_part v) (part_of v)
  leaves_at seat v may s h at = leaves s.views h seat v at may

  pub comes_at : {S : Type 0} (seat : ℕ) (v : View A) (other : ℕ) (u : View A) → u.holds ≡ true
      → Joins {S = S} (λ s. IsShared s.views) seat v other u (with_part v u) nobody
  comes_at seat v other u may s h at two at' = comes s.views h seat v other u at two at' may

  pub shows : (slots seat : ℕ) (me : View A × List (ℕ × Exchange A)) (core : Exchange A) → me.0.keeps ≡ true → me.0.holds ≡ true
      → Allows {S = Exchange A} (λ s. IsShared s.views) slots seat me 0 (λ n. either (eqb n 0) 0 n) (λ _ m. IsShown core.history me.0 m.0 × (m.1 ≡ me.1))
  shows slots seat me core may has s h count at below =
      let v = me.0 in
      let after : View A = record v { known = set v.known v.holder (Some core.history); seen = core.history } in (
        after,
        keeps,
        tt,
        changes s.views h seat v at may has (Some core.history) after refl (λ _. (refl, refl)),
        (record { shown = refl; agree = agrees s.views h seat v at may has }, refl),
      )

  pub returns : {S : Type 0} (slots seat : ℕ) (me : View A × List (ℕ × S)) → me.0.keeps ≡ true → me.0.holds ≡ true
      → Allows {S = S} (λ s. IsShared s.views) slots seat me 0 (λ n. n) (λ _ m. IsReturned me.0 m.0 × (m.1 ≡ me.1))
  returns slots seat me may has s h count at below =
      let v = me.0 in
      let after : View A = keeping (set v.known v.holder None) in (
        after,
        keeps,
        tt,
        changes s.views h seat v at may has None after refl (λ c. absurd (off c)),
        (record { left = refl; agree = agrees s.views h seat v at may has }, refl),
      )
