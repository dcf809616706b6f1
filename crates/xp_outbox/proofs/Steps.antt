-- Each step keeps the rule of an outbox.
use Rattle.std.proofs.Common.{◌≡◌, ◌≢◌, ℕ, zero, suc, true, false, true≢false, List, [], ◌∷◌, ◌++◌, ◌≤◌, arith, length, length-append, set, sym, refl, ap, ◌∙◌, subst, ⊎_elim, append_assoc}
use Rattle.std.proofs.lemmas.List.{append-nil, nil_from_length}
use mathlib.Core.List.{IsPrefix}
use mathlib.Core.Option.{some, some-ne-none}
use lib.ListN.{get_elem?}
use Rattle.crossbeam_queue.specs.Fifo.{Pushes, Pops, Forks, Merges, Learns}
use Rattle.crossbeam_queue.proofs.Lists.{at_set, at_snoc}
use Rattle.xp_outbox.specs.declared.rule.EndView.{EndView}
use Rattle.xp_outbox.specs.steps.Rule.{Fits, IsInOrder, putter, spent, taker, whole}

module _ {T : Type 0} where
  -- a place that the longer list has and the shorter has not is its end
  at_end : (l : List (EndView T)) (a b : EndView T) (j : ℕ) → get_elem? l j ≢ some b → get_elem? (l ++ a ∷ []) j ≡ some b → j ≡ length l
  at_end [] a b zero n e = refl
  at_end [] a b (suc j) n e = absurd (some-ne-none b (sym e))
  at_end (x ∷ xs) a b zero n e = absurd (n e)
  at_end (x ∷ xs) a b (suc j) n e = ap suc (at_end xs a b j n e)

  abbrev Each : (ℕ → EndView T → Type 0) → List (EndView T) → Type 0
  Each F views = (seat : ℕ) (v : EndView T) → get_elem? views seat ≡ some v → F seat v

  -- after a write, of the view written and of all others
  each_set : (F : ℕ → EndView T → Type 0) (views : List (EndView T)) (seat : ℕ) (w : EndView T) → F seat w → ((j : ℕ) (u : EndView T) → j ≢ seat → get_elem? views j ≡ some u → F j u) → Each F (set views seat w)
  each_set F views seat w mine others j u e =
      ⊎_elim (λ (x : (j ≡ seat) × (w ≡ u)). subst (λ (y : ℕ × EndView T). F y.0 y.1) (λ i. (sym x.0 i, x.1 i)) mine)
      (λ (x : (j ≢ seat) × (get_elem? views j ≡ some u)). others j u x.0 x.1) (at_set views seat j w u e)

  -- a front of some items is a front of more
  front_more : (l all more : List T) → IsPrefix l all → IsPrefix l (all ++ more)
  front_more l all more front = (front.0 ++ more, sym (append_assoc l front.0 more) ∙ ap (λ x. x ++ more) front.1)

  -- making the queue
  pub begins : IsInOrder {T = T} [] (whole [] [] ∷ [])
  begins = record {
    put_seat = 0;
    take_seat = 0;
    put = [];
    taken = [];
    held = refl;
    each = each_set (Fits 0 0 [] []) (whole [] [] ∷ []) 0 (whole [] []) (record { puts = λ _. (refl, refl); takes = λ _. (refl, refl, ([], refl)) })
        (λ j u other e. absurd (other (at_end [] _ u j (λ x. some-ne-none u (sym x)) e)));
  }

  -- a put
  pub puts : (n seat : ℕ) (v : EndView T) (x : T) → v.puts ≡ true → Pushes IsInOrder n seat v x (λ w. w ≡ putter (v.put ++ x ∷ []))
  puts n seat v x may items views _ h at =
      let mine = (h.each seat v at).puts may in
      let put : List T = h.put ++ x ∷ [] in
      let order : IsInOrder (items ++ x ∷ []) (set views seat (putter (v.put ++ x ∷ []))) = record {
        put_seat = h.put_seat;
        take_seat = h.take_seat;
        put = put;
        taken = h.taken;
        held = ap (λ l. l ++ x ∷ []) h.held ∙ append_assoc h.taken items (x ∷ []);
        each = each_set (Fits h.put_seat h.take_seat put h.taken) views seat (putter (v.put ++ x ∷ []))
            (record { puts = λ _. (mine.0, ap (λ l. l ++ x ∷ []) mine.1); takes = λ p. absurd (true≢false (sym p)) })
            (λ j u other e. record {
              puts = λ p. absurd (other (((h.each j u e).puts p).0 ∙ sym mine.0));
              takes = λ p. let was = (h.each j u e).takes p in (was.0, was.1, front_more u.owed h.put (x ∷ []) was.2);
            });
      } in
      (putter (v.put ++ x ∷ []), order, refl)

  -- a take that gives an item
  pub takes : (seat : ℕ) (v : EndView T) → v.takes ≡ true → Pops IsInOrder seat v (λ x w. w ≡ taker (v.taken ++ x ∷ []) v.owed)
  takes seat v may x items views h at =
      let mine = (h.each seat v at).takes may in
      let taken : List T = h.taken ++ x ∷ [] in
      let order : IsInOrder items (set views seat (taker (v.taken ++ x ∷ []) v.owed)) = record {
        put_seat = h.put_seat;
        take_seat = h.take_seat;
        put = h.put;
        taken = taken;
        held = h.held ∙ sym (append_assoc h.taken (x ∷ []) items);
        each = each_set (Fits h.put_seat h.take_seat h.put taken) views seat (taker (v.taken ++ x ∷ []) v.owed)
            (record { puts = λ p. absurd (true≢false (sym p)); takes = λ _. (mine.0, ap (λ l. l ++ x ∷ []) mine.1, mine.2) })
            (λ j u other e. record { puts = (h.each j u e).puts; takes = λ p. absurd (other (((h.each j u e).takes p).0 ∙ sym mine.0)) });
      } in
      (taker (v.taken ++ x ∷ []) v.owed, order, refl)

  -- a look of the put end
  pub looks : (seat : ℕ) (v : EndView T) → v.puts ≡ true → Learns IsInOrder seat v (λ items. length items ≤ length v.put)
  looks seat v may items views h at =
      let all = ap length (((h.each seat v at).puts may).1 ∙ h.held) in
      omega (arith, all, length-append h.taken items)

  -- a take that finds none
  pub finds_none : (seat : ℕ) (v : EndView T) → v.takes ≡ true → Learns IsInOrder seat v (λ items. length items ≡ 0 → IsPrefix v.owed v.taken)
  finds_none seat v may items views h at none =
      let mine = (h.each seat v at).takes may in
      let all : h.put ≡ h.taken = h.held ∙ ap (λ l. h.taken ++ l) (nil_from_length items none) ∙ append-nil h.taken in
      subst (IsPrefix v.owed) (all ∙ sym mine.1) mine.2

  -- a put that is refused
  pub learns_none : (seat : ℕ) (v : EndView T) → Learns {T = T} IsInOrder seat v (λ items. Unit {0})
  learns_none seat v items views h at = tt

  -- splitting into two ends
  pub splits : (seat : ℕ) (v : EndView T) → v.puts ≡ true → v.takes ≡ true → Forks IsInOrder seat v (putter v.put) (taker v.taken v.put)
  splits seat v may_put may_take items views h at =
      let put_here = (h.each seat v at).puts may_put in
      let taken_here = (h.each seat v at).takes may_take in
      let vs : List (EndView T) = set views seat (putter v.put) in
      let Old : ℕ → EndView T → Type 0 = λ j u. (u.puts ≡ true → (j ≡ h.put_seat) × (u.put ≡ h.put)) × (u.takes ≢ true) in
      let old : Each Old vs = each_set Old views seat (putter v.put) ((λ _. put_here), λ p. true≢false (sym p))
      (λ j u other e. ((h.each j u e).puts, λ p. other (((h.each j u e).takes p).0 ∙ sym taken_here.0))) in
      record {
        put_seat = h.put_seat;
        take_seat = length vs;
        put = h.put;
        taken = h.taken;
        held = h.held;
        each = λ j u e.
            ⊎_elim (λ x. record { puts = (old j u x).0; takes = λ p. absurd ((old j u x).1 p) })
            (λ (is : taker v.taken v.put ≡ u). record {
              puts = λ p. absurd (true≢false (sym (ap (λ (y : EndView T). y.puts) is ∙ p)));
              takes = λ p. (
                at_end vs (taker v.taken v.put) u j (λ x. (old j u x).1 p) e,
                ap (λ (y : EndView T). y.taken) (sym is) ∙ taken_here.1,
                ([], append-nil u.owed ∙ ap (λ (y : EndView T). y.owed) (sym is) ∙ put_here.1),
              );
            }) (at_snoc vs (taker v.taken v.put) u j e);
      }

  -- the part of the take end goes to a new pass
  pub moves : (seat : ℕ) (v : EndView T) → v.takes ≡ true → v.puts ≡ false → Forks IsInOrder seat v spent (taker v.taken v.owed)
  moves seat v may never items views h at =
      let taken_here = (h.each seat v at).takes may in
      let vs : List (EndView T) = set views seat spent in
      let Old : ℕ → EndView T → Type 0 = λ j u. (u.puts ≡ true → (j ≡ h.put_seat) × (u.put ≡ h.put)) × (u.takes ≢ true) in
      let old : Each Old vs = each_set Old views seat spent ((λ p. absurd (true≢false (sym p))), λ p. true≢false (sym p))
      (λ j u other e. ((h.each j u e).puts, λ p. other (((h.each j u e).takes p).0 ∙ sym taken_here.0))) in
      record {
        put_seat = h.put_seat;
        take_seat = length vs;
        put = h.put;
        taken = h.taken;
        held = h.held;
        each = λ j u e.
            ⊎_elim (λ x. record { puts = (old j u x).0; takes = λ p. absurd ((old j u x).1 p) })
            (λ (is : taker v.taken v.owed ≡ u). record {
              puts = λ p. absurd (true≢false (sym (ap (λ (y : EndView T). y.puts) is ∙ p)));
              takes = λ p. (
                at_end vs (taker v.taken v.owed) u j (λ x. (old j u x).1 p) e,
                ap (λ (y : EndView T). y.taken) (sym is) ∙ taken_here.1,
                subst (λ l. IsPrefix l h.put) (ap (λ (y : EndView T). y.owed) is) taken_here.2,
              );
            }) (at_snoc vs (taker v.taken v.owed) u j e);
      }

  -- joining the two ends
  pub joins : (seat : ℕ) (v : EndView T) (other : ℕ) (u : EndView T) → v.puts ≡ true → u.takes ≡ true → Merges IsInOrder seat v other u (whole v.put u.taken) spent
  joins seat v other u may_put may_take items views h at two at' =
      let both : EndView T = whole v.put u.taken in
      let put_here = (h.each seat v at).puts may_put in
      let vs : List (EndView T) = set views seat both in
      let was : get_elem? views other ≡ some u = ⊎_elim (λ x. absurd (two x.0)) (λ x. x.1) (at_set views seat other both u at') in
      let taken_there = (h.each other u was).takes may_take in
      let Now : ℕ → EndView T → Type 0 = λ j y. j ≢ other → Fits h.put_seat seat h.put h.taken j y in
      let now : Each Now vs = each_set Now views seat both (λ _. record { puts = λ _. put_here; takes = λ _. (refl, taken_there.1, (h.put, refl)) })
      (λ j y _ e apart. record { puts = (h.each j y e).puts; takes = λ p. absurd (apart (((h.each j y e).takes p).0 ∙ sym taken_there.0)) }) in
      record {
        put_seat = h.put_seat;
        take_seat = seat;
        put = h.put;
        taken = h.taken;
        held = h.held;
        each = each_set (Fits h.put_seat seat h.put h.taken) vs other spent
            (record { puts = λ p. absurd (true≢false (sym p)); takes = λ p. absurd (true≢false (sym p)) })
            (λ j y apart e. now j y e apart);
      }

  -- once joined, what was taken and what the outbox holds is what was put
  pub rests : (seat : ℕ) (v : EndView T) → v.puts ≡ true → v.takes ≡ true → Learns IsInOrder seat v (λ items. v.put ≡ v.taken ++ items)
  rests seat v may_put may_take items views h at =
      let mine = h.each seat v at in
      (mine.puts may_put).1 ∙ h.held ∙ ap (λ l. l ++ items) (sym (mine.takes may_take).1)
