-- What each turn does to one direction, and the data that its receiver gets.
use Rattle.std.proofs.Common.{◌≡◌, ℕ, ◌+◌, Bool, true, false, cond, List, [], ◌++◌, length, take, drop, refl, sym, ap, ◌∙◌, inl, inr, arith}
use Rattle.std.proofs.lemmas.Bool.{cases_Bool, cond_both, cond-true, cond-false}
use Rattle.std.proofs.lemmas.List.{append-nil, length-take, take_all, take-append-drop}
use Rattle.xp_packets.specs.Numbers.{numbers}
use Rattle.xp_packets.specs.declared.end.End.{End}
use Rattle.xp_relay.specs.declared.data.Data.{Data}
use Rattle.xp_relay.specs.declared.moves.Move.{Move}
use Rattle.xp_relay.specs.Direction.{Direction, IsSound, emptied, far, is_open, numbered, put_all, release, released}
use Rattle.xp_relay.specs.Contents.{data_to, resets, with_numbers}
use Rattle.xp_relay.specs.Turns.{Turn}
use Rattle.xp_relay.proofs.Runs.{data_to-numbered, with_numbers-append}

module _ {A : Type 0} where
  -- the data that the receiver was sent, with its numbers
  abbrev pub put_of : Direction A → List (ℕ × Data A)
  put_of d = with_numbers (numbers d.terms.receiver) 0 (take d.put d.accepted)

  -- A direction before and after moves. The packets `new` are accepted from its sender, and its receiver gets the data
  -- in the moves; a reset empties both, before that data.
  pub record GoesOn (d next : Direction A) (receiver : End) (new : List (Data A)) (made : List (Move A)) : Type 0 where
    pub terms : next.terms ≡ d.terms
    pub sound : IsSound next
    pub accepted : next.accepted ≡ cond (resets made) [] (d.accepted ++ new)
    pub put : put_of next ≡ cond (resets made) [] (put_of d) ++ data_to receiver made

  -- both directions before and after a turn
  pub record TakesOn (s r : Direction A) (here : End) (new : List (Data A)) (turn : Turn A) : Type 0 where
    pub sent : GoesOn s turn.sent (far here) new turn.moves
    pub received : GoesOn r turn.received here [] turn.moves

  pub sound_emptied : (owes : Bool) (d : Direction A) → IsSound d → IsSound (emptied owes d)
  sound_emptied owes d h = record { terms = h.terms; acknowledged = omega arith; put = omega arith; window = omega arith }

  pub goes_empty : (owes : Bool) (d : Direction A) (receiver : End) (new : List (Data A)) (made : List (Move A)) → IsSound d → resets made ≡ true → data_to receiver made ≡ [] → GoesOn d (emptied owes d) receiver new made
  goes_empty owes d receiver new made h e none = record {
    terms = refl;
    sound = sound_emptied owes d h;
    accepted = sym (cond-true (resets made) [] (d.accepted ++ new) e);
    put = sym (ap (λ xs. xs ++ data_to receiver made) (cond-true (resets made) [] (put_of d) e) ∙ none);
  }

  -- nothing is accepted, and the receiver gets nothing
  pub goes_still : (d next : Direction A) (receiver : End) (made : List (Move A)) → next.terms ≡ d.terms → IsSound next → next.accepted ≡ d.accepted → next.put ≡ d.put → resets made ≡ false → data_to receiver made ≡ [] → GoesOn d next receiver [] made
  goes_still d next receiver made terms sound accepted put unreset none = record {
    terms = terms;
    sound = sound;
    accepted = accepted ∙ sym (append-nil d.accepted) ∙ sym (cond-false (resets made) [] (d.accepted ++ []) unreset);
    put =
        let same : put_of next ≡ put_of d = cc in
        same
        ∙ sym (append-nil (put_of d))
        ∙ ap (λ others. put_of d ++ others) (sym none)
        ∙ ap (λ xs. xs ++ data_to receiver made) (sym (cond-false (resets made) [] (put_of d) unreset));
  }

  pub sound_release : (d : Direction A) → IsSound d → IsSound (release d)
  sound_release d h =
      cond_both (is_open d) (put_all d) d (λ x. IsSound x)
      (λ _. record { terms = h.terms; acknowledged = omega (arith, h.acknowledged, h.put); put = omega arith; window = h.window })
      (λ _. h)

  release-terms : (d : Direction A) → (release d).terms ≡ d.terms
  release-terms d = cond_both (is_open d) (put_all d) d (λ x. x.terms ≡ d.terms) (λ _. refl) (λ _. refl)

  release-accepted : (d : Direction A) → (release d).accepted ≡ d.accepted
  release-accepted d = cond_both (is_open d) (put_all d) d (λ x. x.accepted ≡ d.accepted) (λ _. refl) (λ _. refl)

  -- the data that is released follows the data that was sent
  put_all-front : (d : Direction A) (receiver : End) (pr : ℕ) → IsSound d → put_of (put_all d) ≡ put_of d ++ data_to receiver (numbered receiver (numbers d.terms.receiver) pr d.put (drop d.put d.accepted))
  put_all-front d receiver pr h =
      let m = numbers d.terms.receiver in
      let whole : take (length d.accepted) d.accepted ≡ take d.put d.accepted ++ drop d.put d.accepted = take_all (length d.accepted) d.accepted (omega arith) ∙ sym (take-append-drop d.put d.accepted) in
      let count : 0 + length (take d.put d.accepted) ≡ d.put = omega (arith, length-take d.put d.accepted, h.put) in
      ap (λ xs. with_numbers m 0 xs) whole
      ∙ with_numbers-append m 0 (take d.put d.accepted) (drop d.put d.accepted)
      ∙ ap (λ n. put_of d ++ with_numbers m n (drop d.put d.accepted)) count
      ∙ ap (λ others. put_of d ++ others) (sym (data_to-numbered receiver m pr d.put (drop d.put d.accepted)))

  pub release-front : (d : Direction A) (receiver : End) (pr : ℕ) → IsSound d → put_of (release d) ≡ put_of d ++ data_to receiver (released receiver pr d)
  release-front d receiver pr h =
      elim (cases_Bool (is_open d)) [
        | inl opened ↦
            ap put_of (cond-true (is_open d) (put_all d) d opened)
            ∙ put_all-front d receiver pr h
            ∙ ap (λ made. put_of d ++ data_to receiver made) (sym (cond-true (is_open d) (numbered receiver (numbers d.terms.receiver) pr d.put (drop d.put d.accepted)) [] opened))
        | inr closed ↦
            ap put_of (cond-false (is_open d) (put_all d) d closed)
            ∙ sym (append-nil (put_of d))
            ∙ ap (λ made. put_of d ++ data_to receiver made) (sym (cond-false (is_open d) (numbered receiver (numbers d.terms.receiver) pr d.put (drop d.put d.accepted)) [] closed))
      ]

  -- packets are accepted, and what waits is released; `more` is the direction with them, before the release
  pub goes_release : (d more : Direction A) (receiver : End) (pr : ℕ) (new : List (Data A)) (made : List (Move A)) → more.terms ≡ d.terms → IsSound more → more.accepted ≡ d.accepted ++ new → put_of more ≡ put_of d → resets made ≡ false → data_to receiver made ≡ data_to receiver (released receiver pr more) → GoesOn d (release more) receiver new made
  goes_release d more receiver pr new made terms sound accepted put unreset out = record {
    terms = release-terms more ∙ terms;
    sound = sound_release more sound;
    accepted = release-accepted more ∙ accepted ∙ sym (cond-false (resets made) [] (d.accepted ++ new) unreset);
    put =
        release-front more receiver pr sound
        ∙ ap (λ others. others ++ data_to receiver (released receiver pr more)) put
        ∙ ap (λ others. put_of d ++ others) (sym out)
        ∙ ap (λ xs. xs ++ data_to receiver made) (sym (cond-false (resets made) [] (put_of d) unreset));
  }
