-- Over any run, each receiver gets what was accepted from its sender, and each sender is told of it.
use Rattle.std.proofs.Common.{◌≡◌, ℕ, ◌%◌, true, not, ◌&&◌, ◌||◌, cond, List, [], ◌∷◌, length, take, option_to_list, Option, Some, None, refl, sym, ap, subst, ◌∙◌, arith}
use Rattle.std.proofs.lemmas.Bool.{cond-false}
use Rattle.std.proofs.lemmas.List.{take_all}
use Rattle.std.proofs.lemmas.List.Elements.{All-nil}
use Rattle.xp_packets.specs.Numbers.{numbers}
use Rattle.xp_packets.specs.declared.end.End.{End}
use Rattle.xp_packets.specs.declared.end.End.TheVariants.{Caller, Called}
use Rattle.xp_packets.specs.declared.packet.Packet.{Packet}
use Rattle.xp_relay.specs.declared.terms.Terms.{Terms}
use Rattle.xp_relay.specs.Contents.{count_after, interrupt_in, is_indicated, number_of, offered, ready_after, same_end, still_owes, with_numbers}
use Rattle.xp_relay.specs.Coupled.{Coupled, after, coupled, received_by, sent_by}
use Rattle.xp_relay.specs.Direction.{IsSound, far, is_open}
use Rattle.xp_relay.specs.Observed.{AreInterruptsDelivered, IsDelivered, IsTold, Observed, nothing_observed, observe_moves, observe_packet, observed, observed_over}
use Rattle.xp_relay.specs.Runs.{Arrival, handled_over, run, turn_on}
use Rattle.xp_relay.specs.Terms.{IsWithinTerms, terms_from}
use Rattle.xp_relay.specs.Turns.{held_interrupt, turn_of}
use Rattle.xp_relay.proofs.Deliveries.{AreSound, goes_on, sound_after, sound_opening}
use Rattle.xp_relay.proofs.Owing.{and_true, owe_turn}
use Rattle.xp_relay.proofs.Readiness.{IsWhole, Stays, stay_turn}
use Rattle.xp_relay.proofs.Steps.{GoesOn}
use Rattle.xp_relay.proofs.Observing.{Holds, IsToldAsSeen, count_of, holds_on, later, on, owing_since, told_on}
use Rattle.xp_relay.proofs.Tellings.{interrupt_none, ready_still}
use Rattle.xp_relay.proofs.TellingPackets.{along_turn}
use Rattle.xp_relay.proofs.TellingTurns.{GoesAlong}

module _ {A : Type 0} where
  -- both directions are whole: a receiver that takes data was sent all of it
  record AreWhole (call : Coupled A) : Type 0 where
    pub from_caller : IsWhole call.from_caller
    pub from_called : IsWhole call.from_called

  -- which ends owe a reset confirmation is as the two ends see it
  record OwesAsSeen (sender : End) (call : Coupled A) (seen : Observed A) : Type 0 where
    by_sender : (received_by sender call).owes ≡ seen.sender_owes
    by_receiver : (sent_by sender call).owes ≡ seen.receiver_owes

  stays_on : (sender here : End) (packet : Packet A) (call : Coupled A) → AreWhole call → Stays (sent_by sender (after here (turn_on call (record { here = here; packet = packet })))) (ready_after (same_end (far sender) here && not (sent_by sender call).owes) packet (sent_by sender call).ready) (turn_on call (record { here = here; packet = packet })).moves
  stays_on Caller Called packet call h = (stay_turn call.from_called call.from_caller Called packet h.from_called h.from_caller).received
  stays_on Called Caller packet call h = (stay_turn call.from_caller call.from_called Caller packet h.from_caller h.from_called).received
  stays_on Caller Caller packet call h =
      let turn = turn_of Caller packet call.from_caller call.from_called in
      subst (λ ready. Stays turn.sent ready turn.moves) (sym (ready_still packet call.from_caller.ready))
      (stay_turn call.from_caller call.from_called Caller packet h.from_caller h.from_called).sent
  stays_on Called Called packet call h =
      let turn = turn_of Called packet call.from_called call.from_caller in
      subst (λ ready. Stays turn.sent ready turn.moves) (sym (ready_still packet call.from_called.ready))
      (stay_turn call.from_called call.from_caller Called packet h.from_called h.from_caller).sent

  whole_after : (here : End) (packet : Packet A) (call : Coupled A) → AreWhole call → AreWhole (after here (turn_on call (record { here = here; packet = packet })))
  whole_after here packet call h = record {
    from_caller = (stays_on Caller here packet call h).whole;
    from_called = (stays_on Called here packet call h).whole;
  }

  -- ---- both ends

  received_far : (sender : End) (call : Coupled A) → received_by (far sender) call ≡ sent_by sender call
  received_far Caller call = refl
  received_far Called call = refl

  -- whether an end owes a reset confirmation, after a packet
  owes_on : (end here : End) (packet : Packet A) (call : Coupled A) → (received_by end (after here (turn_on call (on here packet)))).owes
      ≡ (is_indicated end (turn_on call (on here packet)).moves || still_owes (same_end end here) packet (received_by end call).owes)
  owes_on Caller Caller packet call = (owe_turn Caller call.from_caller call.from_called packet).received
  owes_on Called Called packet call = (owe_turn Called call.from_called call.from_caller packet).received
  owes_on Caller Called packet call =
      (owe_turn Called call.from_called call.from_caller packet).sent
      ∙ ap (λ b. is_indicated Caller (turn_of Called packet call.from_called call.from_caller).moves || b) (and_true call.from_called.owes)
  owes_on Called Caller packet call =
      (owe_turn Caller call.from_caller call.from_called packet).sent
      ∙ ap (λ b. is_indicated Called (turn_of Caller packet call.from_caller call.from_called).moves || b) (and_true call.from_caller.owes)

  seen_on : (terms : Terms) (sender here : End) (packet : Packet A) (call : Coupled A) (seen : Observed A) → OwesAsSeen sender call seen
      → OwesAsSeen sender (after here (turn_on call (on here packet))) (later terms sender here packet call.from_caller call.from_caller (turn_on call (on here packet)).moves seen)
  seen_on terms sender here packet call seen h =
      let moves = (turn_on call (on here packet)).moves in
      let next = after here (turn_on call (on here packet)) in
      let d = call.from_caller in
      record {
        by_sender =
            owes_on sender here packet call
            ∙ ap (λ b. is_indicated sender moves || still_owes (same_end sender here) packet b) h.by_sender
            ∙ ap (λ b. is_indicated sender moves || b) (sym (owing_since terms sender here packet d d moves seen (λ x. x.sender_owes) refl));
        by_receiver =
            ap (λ d. d.owes) (sym (received_far sender next))
            ∙ owes_on (far sender) here packet call
            ∙ ap (λ d. is_indicated (far sender) moves || still_owes (same_end (far sender) here) packet d.owes) (received_far sender call)
            ∙ ap (λ b. is_indicated (far sender) moves || still_owes (same_end (far sender) here) packet b) h.by_receiver
            ∙ ap (λ b. is_indicated (far sender) moves || b) (sym (owing_since terms sender here packet d d moves seen (λ x. x.receiver_owes) refl));
      }

  along_on : (sender here : End) (packet : Packet A) (call : Coupled A) → AreSound call
      → GoesAlong (sent_by sender call) (sent_by sender (after here (turn_on call (on here packet)))) sender (far sender) (received_by sender call).owes (received_by sender (after here (turn_on call (on here packet)))).owes
      (cond (same_end (far sender) here && not (sent_by sender call).owes) (count_after (numbers (sent_by sender call).terms.receiver) (sent_by sender call).put (number_of packet) (sent_by sender call).acknowledged) (sent_by sender call).acknowledged)
      (interrupt_in (same_end sender here && not (received_by sender call).owes) packet) (turn_on call (on here packet)).moves
  along_on Caller Caller packet call h = (along_turn Caller call.from_caller call.from_called packet h.from_caller).sent
  along_on Called Called packet call h = (along_turn Called call.from_called call.from_caller packet h.from_called).sent
  along_on Caller Called packet call h =
      let turn = turn_of Called packet call.from_called call.from_caller in
      let d = call.from_caller in
      subst (λ new. GoesAlong d turn.received Caller Called call.from_called.owes turn.sent.owes
      (cond (not d.owes) (count_after (numbers d.terms.receiver) d.put (number_of packet) d.acknowledged) d.acknowledged) new turn.moves) (sym (interrupt_none packet))
      (along_turn Called call.from_called call.from_caller packet h.from_called).received
  along_on Called Caller packet call h =
      let turn = turn_of Caller packet call.from_caller call.from_called in
      let d = call.from_called in
      subst (λ new. GoesAlong d turn.received Called Caller call.from_caller.owes turn.sent.owes
      (cond (not d.owes) (count_after (numbers d.terms.receiver) d.put (number_of packet) d.acknowledged) d.acknowledged) new turn.moves) (sym (interrupt_none packet))
      (along_turn Caller call.from_caller call.from_called packet h.from_caller).received

  -- ---- whole runs

  -- what is known of a call, and of what is seen of one direction
  record Knows (terms : Terms) (sender : End) (call : Coupled A) (seen : Observed A) : Type 0 where
    pub sound : AreSound call
    pub whole : AreWhole call
    pub holds : Holds (terms_from sender terms) (sent_by sender call) seen
    pub owes : OwesAsSeen sender call seen
    pub told : IsToldAsSeen (terms_from sender terms) (sent_by sender call) seen

  sound_of : (sender : End) (call : Coupled A) → AreSound call → IsSound (sent_by sender call)
  sound_of Caller call h = h.from_caller
  sound_of Called call h = h.from_called

  whole_of : (sender : End) (call : Coupled A) → AreWhole call → IsWhole (sent_by sender call)
  whole_of Caller call h = h.from_caller
  whole_of Called call h = h.from_called

  knows_on : (terms : Terms) (sender here : End) (packet : Packet A) (call : Coupled A) (seen : Observed A) → Knows terms sender call seen
      → Knows terms sender (after here (turn_on call (on here packet))) (observe_moves sender (observe_packet terms sender seen (on here packet)) (turn_on call (on here packet)).moves)
  knows_on terms sender here packet call seen k =
      let d = sent_by sender call in
      let next = after here (turn_on call (on here packet)) in
      let dn = sent_by sender next in
      let made = (turn_on call (on here packet)).moves in
      let g = subst (λ b. GoesOn d dn (far sender) (offered (same_end sender here && not b) packet) made) k.owes.by_sender (goes_on sender here packet call k.sound) in
      let still = subst (λ b. Stays dn (ready_after (same_end (far sender) here && not b) packet d.ready) made) k.owes.by_receiver (stays_on sender here packet call k.whole) in
      let holds = holds_on terms sender here packet d dn made seen k.holds g still in
      let owes = seen_on terms sender here packet call seen k.owes in
      let count = cond (same_end (far sender) here && not d.owes) (count_after (numbers d.terms.receiver) d.put (number_of packet) d.acknowledged) d.acknowledged in
      let a = subst (λ b. GoesAlong d dn sender (far sender) b (received_by sender next).owes count (interrupt_in (same_end sender here && not b) packet) made) k.owes.by_sender (along_on sender here packet call k.sound) in
      record {
        sound = sound_after here packet call k.sound;
        whole = whole_after here packet call k.whole;
        holds = holds;
        owes = owes;
        told = told_on terms sender here packet d dn made seen (sound_of sender call k.sound) k.holds g k.told (received_by sender next).owes owes.by_sender holds.ready k.owes.by_receiver a;
      }

  known_over : (terms : Terms) (sender : End) (call : Coupled A) (seen : Observed A) (arrivals : List (Arrival A)) → Knows terms sender call seen
      → Knows terms sender (run call arrivals) (observed_over terms sender seen (handled_over call arrivals))
  known_over terms sender call seen [] k = k
  known_over terms sender call seen (arrival ∷ rest) k =
      known_over terms sender (after arrival.here (turn_on call arrival)) _ rest (knows_on terms sender arrival.here arrival.packet call seen k)

  opened : (terms : Terms) (sender : End) → Holds (terms_from sender terms) (sent_by sender (coupled {A = A} terms)) nothing_observed
  opened terms Caller = record { terms = refl; accepted = refl; put = refl; ready = refl }
  opened terms Called = record { terms = refl; accepted = refl; put = refl; ready = refl }

  opened_owing : (terms : Terms) (sender : End) → OwesAsSeen sender (coupled {A = A} terms) nothing_observed
  opened_owing terms Caller = record { by_sender = refl; by_receiver = refl }
  opened_owing terms Called = record { by_sender = refl; by_receiver = refl }

  opened_told : (terms : Terms) (sender : End) → IsToldAsSeen (terms_from sender terms) (sent_by sender (coupled {A = A} terms)) nothing_observed
  opened_told terms Caller = record { answered = refl; numbered = All-nil (λ told. told.0 ≡ told.1 % numbers (terms_from Caller terms).sender); all = refl; ready = refl; interrupts = refl; held = λ free. refl; silent = λ owes. refl }
  opened_told terms Called = record { answered = refl; numbered = All-nil (λ told. told.0 ≡ told.1 % numbers (terms_from Called terms).sender); all = refl; ready = refl; interrupts = refl; held = λ free. refl; silent = λ owes. refl }

  known : (terms : Terms) → IsWithinTerms terms → (arrivals : List (Arrival A)) (sender : End)
      → Knows terms sender (run (coupled terms) arrivals) (observed terms sender (handled_over (coupled terms) arrivals))
  known terms within arrivals sender = known_over terms sender (coupled terms) nothing_observed arrivals (record {
    sound = record { from_caller = sound_opening (terms_from Caller terms) within.from_caller; from_called = sound_opening (terms_from Called terms) within.from_called };
    whole = record { from_caller = record { all = λ _. refl }; from_called = record { all = λ _. refl } };
    holds = opened terms sender;
    owes = opened_owing terms sender;
    told = opened_told terms sender;
  })

  delivered : (terms : Terms) (sender : End) (call : Coupled A) (seen : Observed A) → Knows terms sender call seen → IsDelivered terms sender call seen
  delivered terms sender call seen k =
      let d = sent_by sender call in
      let h = k.holds in
      let sound = sound_of sender call k.sound in
      let m = numbers (terms_from sender terms).receiver in
      let count : d.put ≡ length seen.put = count_of terms sender d seen sound h in
      let front : seen.put ≡ with_numbers m 0 (take (length seen.put) seen.accepted) =
      sym h.put
      ∙ ap (λ way. with_numbers (numbers way.receiver) 0 (take d.put d.accepted)) h.terms
      ∙ ap (λ n. with_numbers m 0 (take n d.accepted)) count
      ∙ ap (λ xs. with_numbers m 0 (take (length seen.put) xs)) h.accepted in
      record {
        agreed = h.terms;
        kept = h.accepted;
        counted = count;
        answered = k.told.answered;
        readiness = h.ready;
        owing = k.owes.by_receiver;
        front = front;
        whole = λ ready settled.
            let opened : is_open d ≡ true = ap (λ b. b && not d.owes) (h.ready ∙ ready) ∙ ap (λ b. true && not b) (k.owes.by_receiver ∙ settled) in
            let all : length seen.put ≡ length seen.accepted = sym count ∙ (whole_of sender call k.whole).all opened ∙ ap length h.accepted in
            front ∙ ap (λ xs. with_numbers m 0 xs) (take_all (length seen.put) seen.accepted (omega (arith, all)));
        acknowledged = omega (arith, sound.acknowledged, count, k.told.answered);
        window = omega (arith, sound.window, ap length h.accepted, ap (λ way. way.window) h.terms, k.told.answered);
      }

  pub everything_is_delivered : (terms : Terms) → IsWithinTerms terms → (arrivals : List (Arrival A)) (sender : End)
      → IsDelivered {A = A} terms sender (run (coupled terms) arrivals) (observed terms sender (handled_over (coupled terms) arrivals))
  everything_is_delivered terms within arrivals sender = delivered terms sender (run (coupled terms) arrivals) (observed terms sender (handled_over (coupled terms) arrivals)) (known terms within arrivals sender)

  pub senders_are_told : (terms : Terms) → IsWithinTerms terms → (arrivals : List (Arrival A)) (sender : End)
      → IsTold {A = A} terms sender (observed terms sender (handled_over (coupled terms) arrivals))
  senders_are_told terms within arrivals sender =
      let seen = observed terms sender (handled_over (coupled terms) arrivals) in
      let told = (known terms within arrivals sender).told in
      record { numbered = told.numbered; all = told.all; readiness = λ free. told.ready ∙ cond-false seen.sender_owes true seen.ready free }

  pub interrupts_are_delivered : (terms : Terms) → IsWithinTerms terms → (arrivals : List (Arrival A)) (sender : End)
      → AreInterruptsDelivered {A = A} (observed terms sender (handled_over (coupled terms) arrivals))
  interrupts_are_delivered terms within arrivals sender =
      let k = known terms within arrivals sender in
      let d = sent_by sender (run (coupled terms) arrivals) in
      record { held = held_interrupt d.interrupt; all = k.told.interrupts; waits = λ free. no_octets (held_interrupt d.interrupt) (k.told.held (k.owes.by_receiver ∙ free)) }
    where
      no_octets : (held : Option (List ℕ)) → option_to_list held ≡ [] → held ≡ None
      no_octets None e = refl
      no_octets (Some octets) e = absurd (cc)
