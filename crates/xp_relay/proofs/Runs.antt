-- The data in the moves of a turn.
use Rattle.std.proofs.Common.{◌≡◌, ℕ, suc, ◌+◌, ◌%◌, Bool, true, false, not, ◌&&◌, List, [], ◌∷◌, ◌++◌, append_assoc, length, drop, refl, sym, ap, ◌∙◌, arith}
use Rattle.std.proofs.lemmas.Bool.{cond_both, or_parts, or_from}
use Rattle.xp_packets.specs.Numbers.{numbers}
use Rattle.xp_packets.specs.declared.end.End.{End}
use Rattle.xp_packets.specs.declared.end.End.TheVariants.{Caller, Called}
use Rattle.xp_relay.specs.declared.data.Data.{Data}
use Rattle.xp_relay.specs.declared.moves.Move.{Move}
use Rattle.xp_relay.specs.Direction.{Direction, far, is_open, numbered, released, to}
use Rattle.xp_relay.specs.Contents.{data_in, data_to, is_of_reset, resets, same_end, with_numbers}
use Rattle.xp_relay.specs.Turns.{flow_packet, flow_notice, indicating, indication, not_ready_notice}

pub same_self : (e : End) → same_end e e ≡ true
same_self Caller = refl
same_self Called = refl

pub far_is_other : (e : End) → same_end e (far e) ≡ false
far_is_other Caller = refl
far_is_other Called = refl

pub other_is_far : (e : End) → same_end (far e) e ≡ false
other_is_far Caller = refl
other_is_far Called = refl

module _ {A : Type 0} where
  pub data_to-append : (e : End) (xs ys : List (Move A)) → data_to e (xs ++ ys) ≡ data_to e xs ++ data_to e ys
  data_to-append e [] ys = refl
  data_to-append e (m ∷ xs) ys =
      ap (λ others. data_in (same_end e m.side) m.packet ++ others) (data_to-append e xs ys)
      ∙ sym (append_assoc (data_in (same_end e m.side) m.packet) (data_to e xs) (data_to e ys))

  pub resets-append : (xs ys : List (Move A)) → resets xs ≡ false → resets ys ≡ false → resets (xs ++ ys) ≡ false
  resets-append [] ys h k = k
  resets-append (m ∷ xs) ys h k =
      let parts = or_parts (is_of_reset m.packet) (resets xs) h in
      or_from (is_of_reset m.packet) (resets (xs ++ ys)) parts.0 (resets-append xs ys parts.1 k)

  pub resets-numbered : (side : End) (m pr count : ℕ) (xs : List (Data A)) → resets (numbered side m pr count xs) ≡ false
  resets-numbered side m pr count [] = refl
  resets-numbered side m pr count (x ∷ xs) = resets-numbered side m pr (suc count) xs

  pub data_to-numbered : (side : End) (m pr count : ℕ) (xs : List (Data A)) → data_to side (numbered side m pr count xs) ≡ with_numbers m count xs
  data_to-numbered side m pr count [] = refl
  data_to-numbered side m pr count (x ∷ xs) =
      rw (same_self side) (ap (λ others. (count % m, x) ∷ others) (data_to-numbered side m pr (suc count) xs))

  pub data_to-others : (e side : End) (m pr count : ℕ) (xs : List (Data A)) → same_end e side ≡ false → data_to e (numbered side m pr count xs) ≡ []
  data_to-others e side m pr count [] other = refl
  data_to-others e side m pr count (x ∷ xs) other = rw other (data_to-others e side m pr (suc count) xs other)

  pub with_numbers-append : (m count : ℕ) (xs ys : List (Data A)) → with_numbers m count (xs ++ ys) ≡ with_numbers m count xs ++ with_numbers m (count + length xs) ys
  with_numbers-append m count [] ys =
      let same : count ≡ count + 0 = omega arith in ap (λ n. with_numbers m n ys) same
  with_numbers-append m count (x ∷ xs) ys =
      let same : suc count + length xs ≡ count + suc (length xs) = omega arith in
      ap (λ others. (count % m, x) ∷ others) (with_numbers-append m (suc count) xs ys ∙ ap (λ n. with_numbers m (suc count) xs ++ with_numbers m n ys) same)

  pub length-with_numbers : (m count : ℕ) (xs : List (Data A)) → length (with_numbers m count xs) ≡ length xs
  length-with_numbers m count [] = refl
  length-with_numbers m count (x ∷ xs) = ap suc (length-with_numbers m (suc count) xs)

  -- moves that carry no data and no reset
  pub record IsQuiet (made : List (Move A)) : Type 0 where
    pub unreset : resets made ≡ false
    pub none : (e : End) → data_to e made ≡ []

  pub quiet_none : IsQuiet []
  quiet_none = record { unreset = refl; none = λ e. refl }

  quiet_flow : (side : End) (ready : Bool) (pr : ℕ) → IsQuiet (to side (flow_packet ready pr) ∷ [])
  quiet_flow side true pr = record { unreset = refl; none = λ e. refl }
  quiet_flow side false pr = record { unreset = refl; none = λ e. refl }

  pub quiet_telling : (here : End) (changed : Bool) (s r : Direction A) → IsQuiet (flow_notice here changed s r)
  quiet_telling here changed s r =
      cond_both (changed && not s.owes) _ _ (λ made. IsQuiet made) (λ _. quiet_flow (far here) r.ready _) (λ _. quiet_none)

  pub quiet_not_ready : (here : End) (s : Direction A) → IsQuiet (not_ready_notice here s)
  quiet_not_ready here s =
      cond_both s.ready _ _ (λ made. IsQuiet made) (λ _. quiet_none) (λ _. record { unreset = refl; none = λ e. refl })

  pub quiet-append : (xs ys : List (Move A)) → IsQuiet xs → IsQuiet ys → IsQuiet (xs ++ ys)
  quiet-append xs ys h k = record {
    unreset = resets-append xs ys h.unreset k.unreset;
    none = λ e. data_to-append e xs ys ∙ rw (h.none e) (k.none e);
  }

  pub resets-released : (side : End) (pr : ℕ) (d : Direction A) → resets (released side pr d) ≡ false
  resets-released side pr d =
      cond_both (is_open d) _ _ (λ made. resets made ≡ false) (λ _. resets-numbered side (numbers d.terms.receiver) pr d.put (drop d.put d.accepted)) (λ _. refl)

  pub others-released : (e side : End) (pr : ℕ) (d : Direction A) → same_end e side ≡ false → data_to e (released side pr d) ≡ []
  others-released e side pr d other =
      cond_both (is_open d) _ _ (λ made. data_to e made ≡ []) (λ _. data_to-others e side (numbers d.terms.receiver) pr d.put (drop d.put d.accepted) other) (λ _. refl)

  -- a reset indication carries no data
  pub no_data_indicated : (e here : End) (cause diagnostic : ℕ) (s : Direction A) → data_to e (indicating here cause diagnostic s) ≡ []
  no_data_indicated e here cause diagnostic s =
      cond_both s.owes [] (indication (far here) cause diagnostic ∷ []) (λ made. data_to e made ≡ []) (λ _. refl) (λ _. refl)
