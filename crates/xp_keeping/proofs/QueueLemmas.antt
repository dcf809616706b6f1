-- Records on their way through a queue.
use Rattle.std.proofs.Common.{◌≡◌, ◌⊎◌, ℕ, ◌-◌, ◌<◌, List, [], ◌∷◌, ◌++◌, Bool, true, false, ap, append-nil, append_assoc, arith, inl, inr, sym, take, true≢false, ◌∙◌}
use Rattle.std.proofs.lemmas.Grind.{common_steps}
use Rattle.xp_cdr.specs.declared.ended.EndedCall.{EndedCall}
use Rattle.xp_keeping.specs.steps.Queued.{IsHandedOn}

first_of : {X : Type 0} (x : X) (xs : List X) (count : ℕ) → 0 < count → take count (x ∷ xs) ≡ x ∷ take (count - 1) xs
first_of x xs count some = grind (arith, common_steps)

-- the first record is let go
pub one_gone : {X : Type 0} (put gone left rest : List X) (x : X) (sent : ℕ) → put ≡ gone ++ take sent left → left ≡ x ∷ rest → 0 < sent → put ≡ (gone ++ x ∷ []) ++ take (sent - 1) rest
one_gone put gone left rest x sent is first some =
    is
    ∙ ap (λ items. gone ++ take sent items) first
    ∙ ap (λ items. gone ++ items) (first_of x rest sent some)
    ∙ sym (append_assoc gone (x ∷ []) (take (sent - 1) rest))

-- one record more is handed on, or memory is wanting
pub hands_one : (handed now given : List EndedCall) (ended : EndedCall) (was_short is_short : Bool) → IsHandedOn handed given was_short
    → ((is_short ≡ true) × (now ≡ handed)) ⊎ ((was_short ≡ false) × (is_short ≡ false) × (now ≡ handed ++ ended ∷ []))
    → IsHandedOn now (given ++ ended ∷ []) is_short
hands_one handed now given ended was_short is_short is (inl short) = record {
  front = (
    is.front.0 ++ ended ∷ [],
    ap (λ all. all ++ ended ∷ []) is.front.1
        ∙ append_assoc handed is.front.0 (ended ∷ [])
        ∙ ap (λ front. front ++ (is.front.0 ++ ended ∷ [])) (sym short.1),
  );
  all = λ enough. absurd (true≢false (sym short.0 ∙ enough));
}
hands_one handed now given ended was_short is_short is (inr added) =
    let same = is.all added.0 in
    record {
      front = ([], ap (λ all. all ++ ended ∷ []) (sym same) ∙ sym added.2 ∙ sym (append-nil now));
      all = λ enough. added.2 ∙ ap (λ all. all ++ ended ∷ []) same;
    }
