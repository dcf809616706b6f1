-- What is seen of one direction after one packet more.
use Rattle.std.proofs.Common.{◌≡◌, ℕ, ◌%◌, Bool, true, false, not, ◌&&◌, ◌||◌, cond, List, [], ◌∷◌, ◌++◌, append_assoc, All, length, map, take, refl, sym, ap, subst, ◌∙◌, inl, inr, arith}
use Rattle.std.proofs.lemmas.Bool.{and_parts, cases_Bool, cond_both, cond-true, cond-false}
use Rattle.std.proofs.lemmas.List.{length-take}
use Rattle.std.proofs.lemmas.List.Elements.{All-append, All-map, All-nil}
use Rattle.xp_packets.specs.Numbers.{numbers}
use Rattle.xp_packets.specs.declared.end.End.{End}
use Rattle.xp_packets.specs.declared.packet.Packet.{Packet}
use Rattle.xp_relay.specs.declared.moves.Move.{Move}
use Rattle.xp_relay.specs.declared.terms.Terms.{Terms}
use Rattle.xp_relay.specs.declared.terms.DirectionTerms.{DirectionTerms}
use Rattle.xp_relay.specs.Contents.{count_after, data_to, interrupt_in, interrupts_to, is_of_reset, last_count, number_of, numbers_to, offered, ready_after, ready_told, resets, same_end}
use Rattle.xp_relay.specs.Direction.{Direction, IsSound, far}
use Rattle.xp_relay.specs.Observed.{Observed, forgotten, observe_moves, observe_packet}
use Rattle.xp_relay.specs.Runs.{Arrival}
use Rattle.xp_relay.specs.Terms.{terms_from}
use Rattle.xp_relay.proofs.Deliveries.{offered_none}
use Rattle.xp_relay.proofs.Owing.{none_indicated}
use Rattle.xp_relay.proofs.Readiness.{Stays}
use Rattle.xp_relay.proofs.Runs.{length-with_numbers}
use Rattle.xp_relay.proofs.Steps.{GoesOn, put_of}
use Rattle.xp_relay.proofs.Tellings.{last_count-append, last_told}
use Rattle.xp_relay.proofs.TellingTurns.{GoesAlong, waiting}

-- ---- what is seen after one packet more, field by field

-- a field of one of two values
field : {X Y : Type 0} (f : X → Y) (b : Bool) (x y : X) → f (cond b x y) ≡ cond b (f x) (f y)
field f true x y = refl
field f false x y = refl

cond_same : {X : Type 0} (b : Bool) (x : X) → cond b x x ≡ x
cond_same true x = refl
cond_same false x = refl

module _ {A : Type 0} where
  abbrev pub on : End → Packet A → Arrival A
  on here packet = record { here = here; packet = packet }

  -- a direction is as its two ends see it: its data, and whether its receiver is ready
  pub record Holds (way : DirectionTerms) (d : Direction A) (seen : Observed A) : Type 0 where
    pub terms : d.terms ≡ way
    pub accepted : d.accepted ≡ seen.accepted
    pub put : put_of d ≡ seen.put
    pub ready : d.ready ≡ seen.ready

  -- what its sender was told, and the interrupts that its receiver got
  pub record IsToldAsSeen (way : DirectionTerms) (d : Direction A) (seen : Observed A) : Type 0 where
    pub answered : d.acknowledged ≡ seen.acknowledged
    pub numbered : All (λ told. told.0 ≡ told.1 % numbers way.sender) seen.told
    pub all : last_count 0 seen.told ≡ seen.acknowledged
    pub ready : seen.told_ready ≡ cond seen.sender_owes true seen.ready
    pub interrupts : seen.interrupts ≡ seen.interrupts_put ++ waiting d
    pub held : d.owes ≡ false → waiting d ≡ []
    pub silent : seen.sender_owes ≡ true → seen.accepted ≡ []

  pub count_of : (terms : Terms) (sender : End) (d : Direction A) (seen : Observed A) → IsSound d → Holds (terms_from sender terms) d seen → d.put ≡ length seen.put
  count_of terms sender d seen sound h =
      omega (arith, length-with_numbers (numbers d.terms.receiver) 0 (take d.put d.accepted), length-take d.put d.accepted, ap length h.put, sound.put)

  -- ---- one packet more

  module _ (terms : Terms) (sender here : End) (packet : Packet A) (d next : Direction A) (made : List (Move A)) (seen : Observed A) where
    abbrev way : DirectionTerms
    way = terms_from sender terms

    abbrev came : Observed A
    came = observe_packet terms sender seen (on here packet)

    abbrev since : Observed A
    since = cond (resets made) (forgotten came) came

    abbrev pub later : Observed A
    later = observe_moves sender came made

    abbrev sends : Bool
    sends = same_end sender here && not seen.sender_owes

    abbrev answers : Bool
    answers = same_end (far sender) here && not seen.receiver_owes

    abbrev seen_of : {Y : Type 0} → (Observed A → Y) → Y
    seen_of f = f since

    since_is : {Y : Type 0} (f : Observed A → Y) → f since ≡ cond (resets made) (f (forgotten came)) (f came)
    since_is f = field f (resets made) (forgotten came) came

    pub holds_on : Holds way d seen → GoesOn d next (far sender) (offered sends packet) made → Stays next (ready_after answers packet d.ready) made → Holds way next later
    holds_on h g still = record {
      terms = g.terms ∙ h.terms;
      accepted = g.accepted ∙ ap (λ xs. cond (resets made) [] (xs ++ offered sends packet)) h.accepted ∙ sym (since_is (λ x. x.accepted));
      put = g.put ∙ ap (λ xs. cond (resets made) [] xs ++ data_to (far sender) made) h.put ∙ ap (λ xs. xs ++ data_to (far sender) made) (sym (since_is (λ x. x.put)));
      ready = still.ready ∙ ap (λ ready. cond (resets made) true (ready_after answers packet ready)) h.ready ∙ sym (since_is (λ x. x.ready));
    }

    -- who owes a reset confirmation stays with a reset
    pub owing_since : (f : Observed A → Bool) → f (forgotten came) ≡ f came → f since ≡ f came
    owing_since f same = since_is f ∙ ap (λ b. cond (resets made) b (f came)) same ∙ cond_same (resets made) (f came)

    -- a sender that owes a reset confirmation sends no data
    silent_on : (seen.sender_owes ≡ true → seen.accepted ≡ []) → later.sender_owes ≡ true → later.accepted ≡ []
    silent_on silent owes = elim (cases_Bool (resets made)) [
      | inl reset ↦ since_is (λ x. x.accepted) ∙ cond-true (resets made) [] came.accepted reset
      | inr unreset ↦
          let came_owes : came.sender_owes ≡ true =
          sym (owing_since (λ x. x.sender_owes) refl)
          ∙ ap (λ b. b || since.sender_owes) (sym (none_indicated sender made unreset)) ∙ owes in
          let owed : seen.sender_owes ≡ true = (and_parts seen.sender_owes (not (same_end sender here && is_of_reset packet)) came_owes).0 in
          since_is (λ x. x.accepted) ∙ cond-false (resets made) [] came.accepted unreset
          ∙ ap (λ xs. xs ++ offered sends packet) (silent owed)
          ∙ ap (λ b. offered (same_end sender here && not b) packet) owed
          ∙ ap (λ b. offered b packet) (and_false_right (same_end sender here))
          ∙ offered_none packet
    ]
      where
        and_false_right : (b : Bool) → (b && not true) ≡ false
        and_false_right true = refl
        and_false_right false = refl

    module _ (sound : IsSound d) (h : Holds way d seen) (g : GoesOn d next (far sender) (offered sends packet) made) (t : IsToldAsSeen way d seen)
        (owes_next : Bool) (owes_is : owes_next ≡ later.sender_owes) (ready_is : next.ready ≡ later.ready) (receiver_owes : d.owes ≡ seen.receiver_owes)
        (a : GoesAlong d next sender (far sender) seen.sender_owes owes_next
        (cond (same_end (far sender) here && not d.owes) (count_after (numbers d.terms.receiver) d.put (number_of packet) d.acknowledged) d.acknowledged)
        (interrupt_in sends packet) made) where
      count_is : cond (same_end (far sender) here && not d.owes) (count_after (numbers d.terms.receiver) d.put (number_of packet) d.acknowledged) d.acknowledged ≡ came.acknowledged
      count_is =
          ap (λ b. cond (same_end (far sender) here && not b) (count_after (numbers d.terms.receiver) d.put (number_of packet) d.acknowledged) d.acknowledged) receiver_owes
          ∙ ap (λ m. cond answers (count_after (numbers m.receiver) d.put (number_of packet) d.acknowledged) d.acknowledged) h.terms
          ∙ ap (λ n. cond answers (count_after (numbers way.receiver) n (number_of packet) d.acknowledged) d.acknowledged) (count_of terms sender d seen sound h)
          ∙ ap (λ n. cond answers (count_after (numbers way.receiver) (length seen.put) (number_of packet) n) n) t.answered

      answered_on : next.acknowledged ≡ since.acknowledged
      answered_on = a.acknowledged ∙ ap (λ n. cond (resets made) 0 n) count_is ∙ sym (since_is (λ x. x.acknowledged))

      -- while the sender owes a reset confirmation, there is nothing to acknowledge
      unchanged_owing : seen.sender_owes ≡ true → next.acknowledged ≡ cond (resets made) 0 d.acknowledged
      unchanged_owing owed =
          let none : d.accepted ≡ [] = h.accepted ∙ t.silent owed in
          let nothing : offered sends packet ≡ [] =
          ap (λ b. offered (same_end sender here && not b) packet) owed ∙ ap (λ b. offered b packet) (false_right (same_end sender here)) ∙ offered_none packet in
          let rest : next.accepted ≡ [] =
          g.accepted ∙ ap (λ xs. cond (resets made) [] (xs ++ offered sends packet)) none ∙ ap (λ xs. cond (resets made) [] xs) nothing ∙ cond_same (resets made) [] in
          let before : d.acknowledged ≡ 0 = omega (arith, sound.acknowledged, sound.put, ap length none) in
          let later_none : next.acknowledged ≡ 0 = omega (arith, g.sound.acknowledged, g.sound.put, ap length rest) in
          later_none ∙ sym (cond_same (resets made) 0) ∙ ap (λ n. cond (resets made) 0 n) (sym before)
        where
          false_right : (b : Bool) → (b && not true) ≡ false
          false_right true = refl
          false_right false = refl

      -- if the sender is told nothing, nothing new is acknowledged
      uninformed : numbers_to sender made ≡ [] → next.acknowledged ≡ cond (resets made) 0 d.acknowledged
      uninformed none = elim (cases_Bool seen.sender_owes) [
        | inl owed ↦ unchanged_owing owed
        | inr free ↦ a.informed free none
      ]

      last_before : last_count 0 since.told ≡ cond (resets made) 0 d.acknowledged
      last_before =
          since_is (λ x. last_count 0 x.told) ∙ ap (λ n. cond (resets made) 0 n) (t.all ∙ sym t.answered)

      all_on : last_count 0 (since.told ++ map (λ number. (number, since.acknowledged)) (numbers_to sender made)) ≡ since.acknowledged
      all_on = last_count-append 0 since.told (map (λ number. (number, since.acknowledged)) (numbers_to sender made)) ∙ by (numbers_to sender made) refl where
        by : (ns : List ℕ) → numbers_to sender made ≡ ns → last_count (last_count 0 since.told) (map (λ number. (number, since.acknowledged)) ns) ≡ since.acknowledged
        by [] none = last_before ∙ sym (uninformed none) ∙ answered_on
        by (n ∷ ns) some = last_told since.acknowledged (last_count 0 since.told) n ns

      abbrev Numbered : ℕ × ℕ → Type 0
      Numbered told = told.0 ≡ told.1 % numbers way.sender

      numbered_on : All Numbered later.told
      numbered_on =
          All-append Numbered since.told (map (λ number. (number, since.acknowledged)) (numbers_to sender made))
          (cond_both (resets made) (forgotten came) came (λ x. All Numbered x.told) (λ _. All-nil Numbered) (λ _. t.numbered))
          (All-map Numbered (λ number. (number, since.acknowledged)) (numbers_to sender made)
          (subst (λ n. All (λ number. number ≡ n % numbers way.sender) (numbers_to sender made)) answered_on
          (subst (λ w. All (λ number. number ≡ next.acknowledged % numbers w.sender) (numbers_to sender made)) h.terms a.numbered)))

      ready_on : later.told_ready ≡ cond later.sender_owes true later.ready
      ready_on =
          ap (ready_told sender made) (since_is (λ x. x.told_ready))
          ∙ ap (λ b. ready_told sender made (cond (resets made) true b)) (t.ready ∙ ap (λ b. cond seen.sender_owes true b) (sym h.ready))
          ∙ a.ready
          ∙ ap (λ b. cond b true next.ready) owes_is
          ∙ ap (λ b. cond later.sender_owes true b) ready_is

      interrupts_on : later.interrupts ≡ later.interrupts_put ++ waiting next
      interrupts_on = elim (cases_Bool (resets made)) [
        | inl reset ↦
            since_is (λ x. x.interrupts) ∙ cond-true (resets made) [] came.interrupts reset
            ∙ sym (cond-true (resets made) [] (waiting d ++ interrupt_in sends packet) reset) ∙ a.interrupts
            ∙ ap (λ is. (is ++ interrupts_to (far sender) made) ++ waiting next) (sym (since_is (λ x. x.interrupts_put) ∙ cond-true (resets made) [] came.interrupts_put reset))
        | inr unreset ↦
            since_is (λ x. x.interrupts) ∙ cond-false (resets made) [] came.interrupts unreset
            ∙ ap (λ is. is ++ interrupt_in sends packet) t.interrupts
            ∙ append_assoc seen.interrupts_put (waiting d) (interrupt_in sends packet)
            ∙ ap (λ is. seen.interrupts_put ++ is) (sym (cond-false (resets made) [] (waiting d ++ interrupt_in sends packet) unreset) ∙ a.interrupts)
            ∙ sym (append_assoc seen.interrupts_put (interrupts_to (far sender) made) (waiting next))
            ∙ ap (λ is. (is ++ interrupts_to (far sender) made) ++ waiting next) (sym (since_is (λ x. x.interrupts_put) ∙ cond-false (resets made) [] came.interrupts_put unreset))
      ]

      pub told_on : IsToldAsSeen way next later
      told_on = record {
        answered = answered_on;
        numbered = numbered_on;
        all = all_on;
        ready = ready_on;
        interrupts = interrupts_on;
        held = a.held t.held;
        silent = silent_on t.silent;
      }
