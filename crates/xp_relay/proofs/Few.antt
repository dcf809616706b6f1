-- How many moves a turn has.
use Rattle.std.proofs.Common.{◌≡◌, ℕ, suc, ◌+◌, ◌-◌, ◌<◌, ◌≤◌, max, Bool, true, false, not, ◌&&◌, ◌==◌, cond, ltb, List, [], ◌∷◌, ◌++◌, length, drop, Option, Some, None, is_none, refl, sym, ap, subst, inl, inr, arith}
use Rattle.std.proofs.lemmas.Bool.{cases_Bool, cond_both}
use Rattle.std.proofs.lemmas.List.{length-append, length-drop}
use Rattle.xp_causes.specs.declared.diagnostic.TheConstants.{INVALID_SEND_NUMBER, INVALID_RECEIVE_NUMBER, PACKET_TOO_LONG, INVALID_IN_D1, REJECT_NOT_SUBSCRIBED, UNAUTHORIZED_INTERRUPT_CONFIRMATION, UNAUTHORIZED_INTERRUPT}
use Rattle.xp_causes.specs.Indicated.{indicated_cause, indicated_diagnostic}
use Rattle.xp_causes.specs.declared.resetting_cause.TheConstants.{REMOTE_PROCEDURE_ERROR}
use Rattle.xp_packets.specs.Numbers.{numbers}
use Rattle.xp_packets.specs.declared.end.End.{End}
use Rattle.xp_packets.specs.declared.end.End.TheVariants.{Caller, Called}
use Rattle.xp_packets.specs.declared.packet.Packet.{Packet}
use Rattle.xp_packets.specs.declared.packet.Packet.TheVariants.{DataPacket, Ready, NotReady, Reject, Interrupt, InterruptConfirm, Reset, ResetConfirm}
use Rattle.xp_relay.specs.declared.data.Data.{Data}
use Rattle.xp_relay.specs.declared.moves.Move.{Move}
use Rattle.xp_relay.specs.declared.terms.Terms.{Terms}
use Rattle.xp_relay.specs.Coupled.{coupled}
use Rattle.xp_relay.specs.Direction.{Direction, IsSound, far, is_open, numbered, received_number, released, acknowledged_count}
use Rattle.xp_relay.specs.Judgement.{is_awaited, most_octets}
use Rattle.xp_relay.specs.Runs.{Arrival, run, turn_on}
use Rattle.xp_relay.specs.Terms.{IsWithinTerms}
use Rattle.xp_relay.specs.Turns.{Turn, accepting, acknowledged_to, acknowledging, data_as, failing, flow, flow_as, held_interrupt, indicating, interrupts, interrupting, is_idle, is_news, is_put_out, resetting, settled, settling, flow_notice, not_ready_notice, turn_of, unchanged, with_data}
use Rattle.xp_relay.proofs.Deliveries.{judged_by, room_of, sound_run}
use Rattle.xp_relay.proofs.Observations.{everything_is_delivered}

length-interrupts : (A : Type 0) (side : End) (octets : Option (List ℕ)) → length (interrupts {A = A} side octets) ≤ 1
length-interrupts A side None = omega arith
length-interrupts A side (Some octets) = omega arith

module _ {A : Type 0} where
  length-numbered : (side : End) (m pr count : ℕ) (xs : List (Data A)) → length (numbered side m pr count xs) ≡ length xs
  length-numbered side m pr count [] = refl
  length-numbered side m pr count (x ∷ xs) = ap suc (length-numbered side m pr (suc count) xs)

  length-released : (side : End) (pr : ℕ) (d : Direction A) → length (released side pr d) ≤ length d.accepted - d.put
  length-released side pr d =
      cond_both (is_open d) (numbered side (numbers d.terms.receiver) pr d.put (drop d.put d.accepted)) [] (λ made. length made ≤ length d.accepted - d.put)
      (λ _. omega (arith, length-numbered side (numbers d.terms.receiver) pr d.put (drop d.put d.accepted), length-drop d.put d.accepted))
      (λ _. omega arith)

  length-flow_notice : (here : End) (changed : Bool) (s r : Direction A) → length (flow_notice here changed s r) ≤ 1
  length-flow_notice here changed s r = cond_both (changed && not s.owes) _ _ (λ made. length made ≤ 1) (λ _. omega arith) (λ _. omega arith)

  length-not_ready : (here : End) (s : Direction A) → length (not_ready_notice here s) ≤ 1
  length-not_ready here s = cond_both s.ready _ _ (λ made. length made ≤ 1) (λ _. omega arith) (λ _. omega arith)

  length-indicating : (here : End) (cause diagnostic : ℕ) (s : Direction A) → length (indicating here cause diagnostic s) ≤ 1
  length-indicating here cause diagnostic s = cond_both s.owes _ _ (λ made. length made ≤ 1) (λ _. omega arith) (λ _. omega arith)

  -- a turn has no more moves than a window and two
  record IsFew (s r : Direction A) (turn : Turn A) : Type 0 where
    pub few : length turn.moves ≤ max s.terms.window r.terms.window + 2

  few_either : (s r : Direction A) (b : Bool) (x y : Turn A) → (b ≡ true → IsFew s r x) → (b ≡ false → IsFew s r y) → IsFew s r (cond b x y)
  few_either s r b x y h k = cond_both b x y (λ t. IsFew s r t) h k

  few_on : {X : Type 0} (s r : Direction A) (f : X → Turn A) {x y : X} → x ≡ y → IsFew s r (f y) → IsFew s r (f x)
  few_on s r f e h = subst (λ z. IsFew s r (f z)) (sym e) h

  few_unchanged : (s r : Direction A) → IsFew s r (unchanged s r)
  few_unchanged s r = record { few = omega arith }

  few_failing : (s r : Direction A) (here : End) (diagnostic : ℕ) → IsFew s r (failing here diagnostic s r)
  few_failing s r here diagnostic = record { few = omega (arith, length-indicating here REMOTE_PROCEDURE_ERROR diagnostic s) }

  few_resetting : (s r : Direction A) (here : End) (cause diagnostic : ℕ) → IsFew s r (resetting here cause diagnostic s r)
  few_resetting s r here cause diagnostic = record { few = omega (arith, length-indicating here (indicated_cause cause) diagnostic s) }

  few_acknowledging : (s r : Direction A) (here : End) (ready : Bool) (count : ℕ) → IsSound r → IsFew s r (acknowledging here ready count s r)
  few_acknowledging s r here ready count hr =
      let less = acknowledged_to ready count r in
      let out = released here (received_number s) less in
      let tells = flow_notice here (is_news ready count r) s less in
      record { few = omega (arith, length-append out tells, length-released here (received_number s) less, length-flow_notice here (is_news ready count r) s less, hr.acknowledged, hr.put, hr.window) }

  few_accepting : (s r : Direction A) (here : End) (packet : Data A) (count : ℕ) → IsSound s → length s.accepted < s.acknowledged + s.terms.window → IsFew s r (accepting here packet count s r)
  few_accepting s r here packet count hs room =
      let more = with_data packet s in
      let less = acknowledged_to r.ready count r in
      let changed = not (count == r.acknowledged) && not (is_open s) in
      let out = released (far here) (received_number less) more in
      let tells = flow_notice here changed s less in
      record { few = omega (arith, length-append out tells, length-released (far here) (received_number less) more, length-append s.accepted (packet ∷ []), length-flow_notice here changed s less, hs.acknowledged, hs.put) }

  few_settling : (s r : Direction A) (here : End) → IsSound r → IsFew s r (settling here s r)
  few_settling s r here hr =
      let first = not_ready_notice here s in
      let second : List (Move A) = interrupts here (held_interrupt r.interrupt) in
      let out = released here (received_number s) (settled r) in
      record { few = omega (arith, length-append (first ++ second) out, length-append first second, length-not_ready here s, length-interrupts A here (held_interrupt r.interrupt), length-released here (received_number s) (settled r), hr.acknowledged, hr.put, hr.window) }

  few_judged : (s r : Direction A) (here : End) (x : Data A) (ps pr : ℕ) → IsSound s → (owing long : Bool) (o : Option ℕ) → IsFew s r (data_as here x (judged_by owing (is_awaited ps s) (is_none o) long) o s r)
  few_judged s r here x ps pr hs true long o = few_unchanged s r
  few_judged s r here x ps pr hs false long None =
      elim (cases_Bool (is_awaited ps s)) [
        | inl awaited ↦ few_on s r (λ b. data_as here x (judged_by false b true long) None s r) awaited (few_failing s r here INVALID_RECEIVE_NUMBER)
        | inr wrong ↦ few_on s r (λ b. data_as here x (judged_by false b true long) None s r) wrong (few_failing s r here INVALID_SEND_NUMBER)
      ]
  few_judged s r here x ps pr hs false true (Some c) =
      elim (cases_Bool (is_awaited ps s)) [
        | inl awaited ↦ few_on s r (λ b. data_as here x (judged_by false b false true) (Some c) s r) awaited (few_failing s r here PACKET_TOO_LONG)
        | inr wrong ↦ few_on s r (λ b. data_as here x (judged_by false b false true) (Some c) s r) wrong (few_failing s r here INVALID_SEND_NUMBER)
      ]
  few_judged s r here x ps pr hs false false (Some c) =
      elim (cases_Bool (is_awaited ps s)) [
        | inl awaited ↦ few_on s r (λ b. data_as here x (judged_by false b false false) (Some c) s r) awaited (few_accepting s r here x c hs (room_of ps s hs awaited))
        | inr wrong ↦ few_on s r (λ b. data_as here x (judged_by false b false false) (Some c) s r) wrong (few_failing s r here INVALID_SEND_NUMBER)
      ]

  few_flow_as : (s r : Direction A) (here : End) (ready : Bool) (o : Option ℕ) → IsSound r → IsFew s r (flow_as here ready o s r)
  few_flow_as s r here ready None hr = few_failing s r here INVALID_RECEIVE_NUMBER
  few_flow_as s r here ready (Some c) hr = few_acknowledging s r here ready c hr

  few_flow : (s r : Direction A) (here : End) (ready : Bool) (pr : ℕ) → IsSound r → IsFew s r (flow here ready pr s r)
  few_flow s r here ready pr hr = few_either s r r.owes _ _ (λ _. few_unchanged s r) (λ _. few_flow_as s r here ready (acknowledged_count pr r) hr)

  few_interrupting : (s r : Direction A) (here : End) (octets : List ℕ) → IsFew s r (interrupting here octets s r)
  few_interrupting s r here octets = record { few = omega (arith, length-interrupts A (far here) (cond s.owes None (Some octets))) }

  few_turn : (s r : Direction A) (here : End) (packet : Packet A) → IsSound s → IsSound r → IsFew s r (turn_of here packet s r)
  few_turn s r here (DataPacket q d more ps pr octets) hs hr =
      few_judged s r here (record { q = q; d = d; more = more; octets = octets }) ps pr hs r.owes (ltb (most_octets s.terms) (length octets)) (acknowledged_count pr r)
  few_turn s r here (Ready pr) hs hr = few_flow s r here true pr hr
  few_turn s r here (NotReady pr) hs hr = few_flow s r here false pr hr
  few_turn s r here (Reject pr) hs hr = few_either s r r.owes _ _ (λ _. few_unchanged s r) (λ _. few_failing s r here REJECT_NOT_SUBSCRIBED)
  few_turn s r here (Interrupt octets) hs hr =
      few_either s r r.owes _ _ (λ _. few_unchanged s r) (λ _.
      few_either s r (is_idle s.interrupt) _ _ (λ _. few_interrupting s r here octets)
      (λ _. few_failing s r here UNAUTHORIZED_INTERRUPT))
  few_turn s r here InterruptConfirm hs hr =
      few_either s r r.owes _ _ (λ _. few_unchanged s r) (λ _.
      few_either s r (is_put_out r.interrupt) _ _ (λ _. record { few = omega arith }) (λ _. few_failing s r here UNAUTHORIZED_INTERRUPT_CONFIRMATION))
  few_turn s r here (Reset cause diagnostic) hs hr =
      few_either s r r.owes _ _ (λ _. few_settling s r here hr) (λ _. few_resetting s r here cause (indicated_diagnostic diagnostic))
  few_turn s r here ResetConfirm hs hr =
      few_either s r r.owes _ _ (λ _. few_settling s r here hr) (λ _. few_failing s r here INVALID_IN_D1)
  few_turn s r here _ hs hr = few_unchanged s r

  few_at : (terms : Terms) → IsWithinTerms terms → (arrivals : List (Arrival A)) (here : End) (packet : Packet A) → length (turn_on (run (coupled terms) arrivals) (record { here = here; packet = packet })).moves ≤ max terms.from_caller.window terms.from_called.window + 2
  few_at terms within arrivals Caller packet =
      let call = run (coupled terms) arrivals in
      let sound = sound_run terms within arrivals in
      let turn = few_turn call.from_caller call.from_called Caller packet sound.from_caller sound.from_called in
      let caller = ap (λ way. way.window) (everything_is_delivered terms within arrivals Caller).agreed in
      let called = ap (λ way. way.window) (everything_is_delivered terms within arrivals Called).agreed in
      omega (arith, turn.few, caller, called)
  few_at terms within arrivals Called packet =
      let call = run (coupled terms) arrivals in
      let sound = sound_run terms within arrivals in
      let turn = few_turn call.from_called call.from_caller Called packet sound.from_called sound.from_caller in
      let caller = ap (λ way. way.window) (everything_is_delivered terms within arrivals Caller).agreed in
      let called = ap (λ way. way.window) (everything_is_delivered terms within arrivals Called).agreed in
      omega (arith, turn.few, caller, called)

  pub puts_out_few : (terms : Terms) → IsWithinTerms terms → (arrivals : List (Arrival A)) (arrival : Arrival A) → length (turn_on (run (coupled terms) arrivals) arrival).moves ≤ max terms.from_caller.window terms.from_called.window + 2
  puts_out_few terms within arrivals arrival = few_at terms within arrivals arrival.here arrival.packet
