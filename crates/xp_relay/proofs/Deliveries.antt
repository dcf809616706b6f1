-- What each packet does to both directions: the data that they accept, and that their receivers get.
use Rattle.std.proofs.Common.{◌≡◌, ℕ, ◌+◌, ◌-◌, ◌<◌, Bool, true, false, not, ◌&&◌, cond, ltb, List, [], ◌∷◌, length, Option, Some, None, is_none, refl, sym, ap, subst, inl, inr, arith}
use Rattle.std.proofs.lemmas.Bool.{and_parts, cases_Bool, cond_both, ltb-true}
use Rattle.xp_causes.specs.declared.diagnostic.TheConstants.{INVALID_SEND_NUMBER, INVALID_RECEIVE_NUMBER, PACKET_TOO_LONG, INVALID_IN_D1, REJECT_NOT_SUBSCRIBED, UNAUTHORIZED_INTERRUPT_CONFIRMATION, UNAUTHORIZED_INTERRUPT}
use Rattle.xp_causes.specs.Indicated.{indicated_diagnostic}
use Rattle.xp_packets.specs.declared.end.End.{End}
use Rattle.xp_packets.specs.declared.end.End.TheVariants.{Caller, Called}
use Rattle.xp_packets.specs.declared.packet.Packet.{Packet}
use Rattle.xp_packets.specs.declared.packet.Packet.TheVariants.{DataPacket, Ready, NotReady, Reject, Interrupt, InterruptConfirm, Reset, ResetConfirm}
use Rattle.xp_relay.specs.declared.data.Data.{Data}
use Rattle.xp_relay.specs.declared.data.Interruption.TheVariants.{Idle, Held, PutOut}
use Rattle.xp_relay.specs.declared.judged.Judged.{Judged}
use Rattle.xp_relay.specs.declared.judged.Judged.TheVariants.{Accept, Discard, Reset as ResetWith}
use Rattle.xp_relay.specs.declared.terms.Terms.{Terms}
use Rattle.xp_relay.specs.declared.terms.DirectionTerms.{DirectionTerms}
use Rattle.xp_relay.specs.Coupled.{Coupled, after, coupled, received_by, sent_by}
use Rattle.xp_relay.specs.Direction.{Direction, IsSound, far, has_room, opening, acknowledged_count}
use Rattle.xp_relay.specs.Judgement.{is_awaited, most_octets}
use Rattle.xp_relay.specs.Contents.{offered, same_end}
use Rattle.xp_relay.specs.Runs.{Arrival, run, turn_on}
use Rattle.xp_relay.specs.Terms.{IsWithinTerms, AreDirectionTerms, terms_from}
use Rattle.xp_relay.specs.Turns.{Turn, carries, data_as, flow, flow_as, interrupting, interrupts, is_idle, is_put_out, turn_of}
use Rattle.xp_relay.proofs.Steps.{GoesOn, TakesOn}
use Rattle.xp_relay.proofs.Takes.{quiet_interrupts, takes_accepting, takes_acknowledging, takes_failing, takes_quiet, takes_resetting, takes_settling, takes_unchanged, acknowledged_range}

-- the decision on a data packet, by its tests
abbrev pub judged_by : Bool → Bool → Bool → Bool → Judged
judged_by owing awaited unknown long =
    cond owing Discard (cond (not awaited) (ResetWith INVALID_SEND_NUMBER) (cond unknown (ResetWith INVALID_RECEIVE_NUMBER) (cond long (ResetWith PACKET_TOO_LONG) Accept)))

module _ {A : Type 0} where
  on : {X : Type 0} (s r : Direction A) (here : End) (new : List (Data A)) (f : X → Turn A) {x y : X} → x ≡ y → TakesOn s r here new (f y) → TakesOn s r here new (f x)
  on s r here new f e h = subst (λ z. TakesOn s r here new (f z)) (sym e) h

  either : (s r : Direction A) (here : End) (new : List (Data A)) (b : Bool) (x y : Turn A) → (b ≡ true → TakesOn s r here new x) → (b ≡ false → TakesOn s r here new y) → TakesOn s r here new (cond b x y)
  either s r here new b x y h k = cond_both b x y (λ t. TakesOn s r here new t) h k

  -- the window has room for one more packet, by the test
  pub room_of : (ps : ℕ) (s : Direction A) → IsSound s → is_awaited ps s ≡ true → length s.accepted < s.acknowledged + s.terms.window
  room_of ps s h e =
      let parts = and_parts _ (has_room s) e in
      let below = ltb-true (length s.accepted - s.acknowledged) s.terms.window parts.1 in
      omega (arith, below, h.acknowledged, h.put)

  -- a data packet of an end that owes no reset confirmation
  takes_judged : (s r : Direction A) (here : End) (x : Data A) (ps pr : ℕ) → IsSound s → IsSound r → r.owes ≡ false → (o : Option ℕ) → acknowledged_count pr r ≡ o → TakesOn s r here (x ∷ []) (data_as here x (judged_by r.owes (is_awaited ps s) (is_none o) (ltb (most_octets s.terms) (length x.octets))) o s r)
  takes_judged s r here x ps pr hs hr free None e =
      let long = ltb (most_octets s.terms) (length x.octets) in
      on s r here (x ∷ []) (λ b. data_as here x (judged_by b (is_awaited ps s) true long) None s r) free
      (elim (cases_Bool (is_awaited ps s)) [
        | inl awaited ↦ on s r here (x ∷ []) (λ b. data_as here x (judged_by false b true long) None s r) awaited (takes_failing s r here INVALID_RECEIVE_NUMBER (x ∷ []) hs hr)
        | inr wrong ↦ on s r here (x ∷ []) (λ b. data_as here x (judged_by false b true long) None s r) wrong (takes_failing s r here INVALID_SEND_NUMBER (x ∷ []) hs hr)
      ])
  takes_judged s r here x ps pr hs hr free (Some c) e =
      let long = ltb (most_octets s.terms) (length x.octets) in
      on s r here (x ∷ []) (λ b. data_as here x (judged_by b (is_awaited ps s) false long) (Some c) s r) free
      (elim (cases_Bool (is_awaited ps s)) [
        | inl awaited ↦
            on s r here (x ∷ []) (λ b. data_as here x (judged_by false b false long) (Some c) s r) awaited
            (elim (cases_Bool long) [
              | inl over ↦ on s r here (x ∷ []) (λ b. data_as here x (judged_by false true false b) (Some c) s r) over (takes_failing s r here PACKET_TOO_LONG (x ∷ []) hs hr)
              | inr within ↦ on s r here (x ∷ []) (λ b. data_as here x (judged_by false true false b) (Some c) s r) within (takes_accepting s r here x c hs hr (acknowledged_range r pr c hr e) (room_of ps s hs awaited))
            ])
        | inr wrong ↦ on s r here (x ∷ []) (λ b. data_as here x (judged_by false b false long) (Some c) s r) wrong (takes_failing s r here INVALID_SEND_NUMBER (x ∷ []) hs hr)
      ])

  takes_carries : (s r : Direction A) (here : End) (x : Data A) (ps pr : ℕ) → IsSound s → IsSound r → TakesOn s r here (cond (not r.owes) (x ∷ []) []) (carries here x ps pr s r)
  takes_carries s r here x ps pr hs hr =
      elim (cases_Bool r.owes) [
        | inl owing ↦
            subst (λ new. TakesOn s r here new (carries here x ps pr s r)) (sym (ap (λ b. cond (not b) (x ∷ []) []) owing))
            (on s r here [] (λ b. data_as here x (judged_by b (is_awaited ps s) (is_none (acknowledged_count pr r)) (ltb (most_octets s.terms) (length x.octets))) (acknowledged_count pr r) s r) owing (takes_unchanged s r here hs hr))
        | inr free ↦
            subst (λ new. TakesOn s r here new (carries here x ps pr s r)) (sym (ap (λ b. cond (not b) (x ∷ []) []) free))
            (takes_judged s r here x ps pr hs hr free (acknowledged_count pr r) refl)
      ]

  takes_flow_as : (s r : Direction A) (here : End) (ready : Bool) (pr : ℕ) → IsSound s → IsSound r → (o : Option ℕ) → acknowledged_count pr r ≡ o → TakesOn s r here [] (flow_as here ready o s r)
  takes_flow_as s r here ready pr hs hr None e = takes_failing s r here INVALID_RECEIVE_NUMBER [] hs hr
  takes_flow_as s r here ready pr hs hr (Some c) e = takes_acknowledging s r here ready c hs hr (acknowledged_range r pr c hr e)

  takes_flow : (s r : Direction A) (here : End) (ready : Bool) (pr : ℕ) → IsSound s → IsSound r → TakesOn s r here [] (flow here ready pr s r)
  takes_flow s r here ready pr hs hr =
      either s r here [] r.owes _ _ (λ _. takes_unchanged s r here hs hr) (λ _. takes_flow_as s r here ready pr hs hr (acknowledged_count pr r) refl)

  takes_interrupting : (s r : Direction A) (here : End) (octets : List ℕ) → IsSound s → IsSound r → TakesOn s r here [] (interrupting here octets s r)
  takes_interrupting s r here octets hs hr =
      takes_quiet s r here (cond s.owes (Held octets) PutOut) r.interrupt (interrupts (far here) (cond s.owes None (Some octets))) hs hr (quiet_interrupts (far here) (cond s.owes None (Some octets)))

  -- what each packet does to both directions: data is accepted where its sender may send it
  takes_turn : (s r : Direction A) (here : End) (packet : Packet A) → IsSound s → IsSound r → TakesOn s r here (offered (not r.owes) packet) (turn_of here packet s r)
  takes_turn s r here (DataPacket q d more ps pr octets) hs hr =
      takes_carries s r here (record { q = q; d = d; more = more; octets = octets }) ps pr hs hr
  takes_turn s r here (Ready pr) hs hr = takes_flow s r here true pr hs hr
  takes_turn s r here (NotReady pr) hs hr = takes_flow s r here false pr hs hr
  takes_turn s r here (Reject pr) hs hr =
      either s r here [] r.owes _ _ (λ _. takes_unchanged s r here hs hr) (λ _. takes_failing s r here REJECT_NOT_SUBSCRIBED [] hs hr)
  takes_turn s r here (Interrupt octets) hs hr =
      either s r here [] r.owes _ _ (λ _. takes_unchanged s r here hs hr) (λ _.
      either s r here [] (is_idle s.interrupt) _ _ (λ _. takes_interrupting s r here octets hs hr) (λ _. takes_failing s r here UNAUTHORIZED_INTERRUPT [] hs hr))
  takes_turn s r here InterruptConfirm hs hr =
      either s r here [] r.owes _ _ (λ _. takes_unchanged s r here hs hr) (λ _.
      either s r here [] (is_put_out r.interrupt) _ _
      (λ _. takes_quiet s r here s.interrupt Idle _ hs hr (record { unreset = refl; none = λ e. refl }))
      (λ _. takes_failing s r here UNAUTHORIZED_INTERRUPT_CONFIRMATION [] hs hr))
  takes_turn s r here (Reset cause diagnostic) hs hr =
      either s r here [] r.owes _ _ (λ _. takes_settling s r here hs hr) (λ _. takes_resetting s r here cause (indicated_diagnostic diagnostic) hs hr)
  takes_turn s r here ResetConfirm hs hr =
      either s r here [] r.owes _ _ (λ _. takes_settling s r here hs hr) (λ _. takes_failing s r here INVALID_IN_D1 [] hs hr)
  takes_turn s r here _ hs hr = takes_unchanged s r here hs hr

  pub offered_none : (packet : Packet A) → offered false packet ≡ []
  offered_none (DataPacket q d more ps pr octets) = refl
  offered_none _ = refl

  -- in both directions the counts are in order
  pub record AreSound (call : Coupled A) : Type 0 where
    pub from_caller : IsSound call.from_caller
    pub from_called : IsSound call.from_called

  pub goes_on : (sender here : End) (packet : Packet A) (call : Coupled A) → AreSound call → GoesOn (sent_by sender call) (sent_by sender (after here (turn_on call (record { here = here; packet = packet })))) (far sender) (offered (same_end sender here && not (received_by sender call).owes) packet) (turn_on call (record { here = here; packet = packet })).moves
  goes_on Caller Caller packet call h = (takes_turn call.from_caller call.from_called Caller packet h.from_caller h.from_called).sent
  goes_on Called Called packet call h = (takes_turn call.from_called call.from_caller Called packet h.from_called h.from_caller).sent
  goes_on Caller Called packet call h =
      subst (λ new. GoesOn call.from_caller (turn_of Called packet call.from_called call.from_caller).received Called new (turn_of Called packet call.from_called call.from_caller).moves) (sym (offered_none packet))
      (takes_turn call.from_called call.from_caller Called packet h.from_called h.from_caller).received
  goes_on Called Caller packet call h =
      subst (λ new. GoesOn call.from_called (turn_of Caller packet call.from_caller call.from_called).received Caller new (turn_of Caller packet call.from_caller call.from_called).moves) (sym (offered_none packet))
      (takes_turn call.from_caller call.from_called Caller packet h.from_caller h.from_called).received

  pub sound_after : (here : End) (packet : Packet A) (call : Coupled A) → AreSound call → AreSound (after here (turn_on call (record { here = here; packet = packet })))
  sound_after here packet call h = record {
    from_caller = (goes_on Caller here packet call h).sound;
    from_called = (goes_on Called here packet call h).sound;
  }

  pub sound_opening : (way : DirectionTerms) → AreDirectionTerms way → IsSound (opening {A = A} way)
  sound_opening way h = record { terms = h; acknowledged = omega arith; put = omega arith; window = omega arith }

  -- after any run the counts are in order
  sound_over : (call : Coupled A) (arrivals : List (Arrival A)) → AreSound call → AreSound (run call arrivals)
  sound_over call [] h = h
  sound_over call (arrival ∷ rest) h = sound_over (after arrival.here (turn_on call arrival)) rest (sound_after arrival.here arrival.packet call h)

  pub sound_run : (terms : Terms) → IsWithinTerms terms → (arrivals : List (Arrival A)) → AreSound (run (coupled terms) arrivals)
  sound_run terms within arrivals =
      sound_over (coupled terms) arrivals (record { from_caller = sound_opening (terms_from Caller terms) within.from_caller; from_called = sound_opening (terms_from Called terms) within.from_called })
