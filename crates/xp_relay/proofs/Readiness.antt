-- After each turn a receiver that takes data was sent all of it, and a receiver is ready as its RR and RNR said.
use Rattle.std.proofs.Common.{◌≡◌, ℕ, Bool, true, false, not, ◌&&◌, ◌==◌, cond, List, [], ◌++◌, length, Option, Some, None, refl, sym, ◌∙◌}
use Rattle.std.proofs.lemmas.Bool.{cond_both, cond-true, cond-false}
use Rattle.xp_causes.specs.declared.diagnostic.TheConstants.{INVALID_RECEIVE_NUMBER, INVALID_IN_D1, REJECT_NOT_SUBSCRIBED, UNAUTHORIZED_INTERRUPT_CONFIRMATION, UNAUTHORIZED_INTERRUPT}
use Rattle.xp_causes.specs.Indicated.{indicated_diagnostic}
use Rattle.xp_packets.specs.declared.end.End.{End}
use Rattle.xp_packets.specs.declared.packet.Packet.{Packet}
use Rattle.xp_packets.specs.declared.packet.Packet.TheVariants.{DataPacket, Ready, NotReady, Reject, Interrupt, InterruptConfirm, Reset, ResetConfirm}
use Rattle.xp_relay.specs.declared.data.Data.{Data}
use Rattle.xp_relay.specs.declared.data.Interruption.{Interruption}
use Rattle.xp_relay.specs.declared.data.Interruption.TheVariants.{Idle, Held, PutOut}
use Rattle.xp_relay.specs.declared.judged.Judged.{Judged}
use Rattle.xp_relay.specs.declared.judged.Judged.TheVariants.{Accept, Discard, Reset as ResetWith}
use Rattle.xp_relay.specs.declared.moves.Move.{Move}
use Rattle.xp_relay.specs.Direction.{Direction, acknowledged_count, emptied, far, is_open, put_all, received_number, release}
use Rattle.xp_relay.specs.Judgement.{judgement}
use Rattle.xp_relay.specs.Contents.{ready_after, resets}
use Rattle.xp_relay.specs.Turns.{Turn, accepting, acknowledged_to, acknowledging, data_as, failing, flow_as, flow_notice, held_interrupt, interrupting, interrupts, is_idle, is_news, is_put_out, not_ready_notice, resetting, settled, settling, turn_of, unchanged, with_data}
use Rattle.xp_relay.proofs.Runs.{IsQuiet, quiet-append, quiet_not_ready, quiet_telling}
use Rattle.xp_relay.proofs.Takes.{after_release, before_release, quiet_interrupts}

module _ {A : Type 0} where
  -- a direction is whole: if its receiver takes data, the receiver was sent all that was accepted
  pub record IsWhole (d : Direction A) : Type 0 where
    pub all : is_open d ≡ true → d.put ≡ length d.accepted

  -- a direction after moves: it is whole, and its receiver is ready if it said so or if the call was reset
  pub record Stays (next : Direction A) (said : Bool) (made : List (Move A)) : Type 0 where
    pub whole : IsWhole next
    pub ready : next.ready ≡ cond (resets made) true said

  -- both directions after a turn
  pub record BothStay (s r : Direction A) (said : Bool) (turn : Turn A) : Type 0 where
    pub sent : Stays turn.sent s.ready turn.moves
    pub received : Stays turn.received said turn.moves

  pub whole_release : (d : Direction A) → IsWhole (release d)
  whole_release d =
      cond_both (is_open d) (put_all d) d (λ x. IsWhole x)
      (λ _. record { all = λ _. refl })
      (λ closed. record { all = λ opened. let never : true ≡ false = sym opened ∙ closed in cc })

  pub release-ready : (d : Direction A) → (release d).ready ≡ d.ready
  release-ready d = cond_both (is_open d) (put_all d) d (λ x. x.ready ≡ d.ready) (λ _. refl) (λ _. refl)

  -- the call is not reset, and the receiver is ready as it said
  stays : (next : Direction A) (said : Bool) (made : List (Move A)) → IsWhole next → next.ready ≡ said → resets made ≡ false → Stays next said made
  stays next said made whole ready unreset = record { whole = whole; ready = ready ∙ sym (cond-false (resets made) true said unreset) }

  -- a reset empties the direction, and its receiver is ready
  stays_emptied : (owes : Bool) (d : Direction A) (said : Bool) (made : List (Move A)) → resets made ≡ true → Stays (emptied owes d) said made
  stays_emptied owes d said made reset = record { whole = record { all = λ _. refl }; ready = sym (cond-true (resets made) true said reset) }

  stay_unchanged : (s r : Direction A) → IsWhole s → IsWhole r → BothStay s r r.ready (unchanged s r)
  stay_unchanged s r hs hr = record { sent = stays s s.ready [] hs refl refl; received = stays r r.ready [] hr refl refl }

  stay_failing : (s r : Direction A) (here : End) (diagnostic : ℕ) (said : Bool) → BothStay s r said (failing here diagnostic s r)
  stay_failing s r here diagnostic said =
      let made = (failing here diagnostic s r).moves in
      record { sent = stays_emptied true s s.ready made refl; received = stays_emptied true r said made refl }

  stay_resetting : (s r : Direction A) (here : End) (cause diagnostic : ℕ) (said : Bool) → BothStay s r said (resetting here cause diagnostic s r)
  stay_resetting s r here cause diagnostic said =
      let made = (resetting here cause diagnostic s r).moves in
      record { sent = stays_emptied true s s.ready made refl; received = stays_emptied false r said made refl }

  stay_acknowledging : (s r : Direction A) (here : End) (ready : Bool) (count : ℕ) → IsWhole s → BothStay s r ready (acknowledging here ready count s r)
  stay_acknowledging s r here ready count hs =
      let less = acknowledged_to ready count r in
      let news = is_news ready count r in
      let unreset = (after_release here (received_number s) less (flow_notice here news s less) (quiet_telling here news s less)).0 in
      let made = (acknowledging here ready count s r).moves in
      record { sent = stays s s.ready made hs refl unreset; received = stays (release less) ready made (whole_release less) (release-ready less) unreset }

  stay_accepting : (s r : Direction A) (here : End) (packet : Data A) (count : ℕ) → IsWhole r → BothStay s r r.ready (accepting here packet count s r)
  stay_accepting s r here packet count hr =
      let more = with_data packet s in
      let less = acknowledged_to r.ready count r in
      let news = not (count == r.acknowledged) && not (is_open s) in
      let unreset = (after_release (far here) (received_number less) more (flow_notice here news s less) (quiet_telling here news s less)).0 in
      let made = (accepting here packet count s r).moves in
      record {
        sent = stays (release more) s.ready made (whole_release more) (release-ready more) unreset;
        received = stays less r.ready made (record { all = hr.all }) refl unreset;
      }

  stay_settling : (s r : Direction A) (here : End) → IsWhole s → BothStay s r r.ready (settling here s r)
  stay_settling s r here hs =
      let waited = held_interrupt r.interrupt in
      let first = not_ready_notice here s ++ interrupts here waited in
      let quiet = quiet-append (not_ready_notice here s) (interrupts here waited) (quiet_not_ready here s) (quiet_interrupts here waited) in
      let unreset = (before_release here (received_number s) (settled r) first quiet).0 in
      let made = (settling here s r).moves in
      record { sent = stays s s.ready made hs refl unreset; received = stays (release (settled r)) r.ready made (whole_release (settled r)) (release-ready (settled r)) unreset }

  -- a turn that changes only interrupts, with quiet moves
  stay_quiet : (s r : Direction A) (there back : Interruption A) (made : List (Move A)) → IsWhole s → IsWhole r → IsQuiet made → BothStay s r r.ready (record { sent = record s { interrupt = there }; received = record r { interrupt = back }; moves = made })
  stay_quiet s r there back made hs hr quiet = record {
    sent = stays (record s { interrupt = there }) s.ready made (record { all = hs.all }) refl quiet.unreset;
    received = stays (record r { interrupt = back }) r.ready made (record { all = hr.all }) refl quiet.unreset;
  }

  stay_interrupting : (s r : Direction A) (here : End) (octets : List ℕ) → IsWhole s → IsWhole r → BothStay s r r.ready (interrupting here octets s r)
  stay_interrupting s r here octets hs hr =
      let goes = cond s.owes None (Some octets) in
      stay_quiet s r (cond s.owes (Held octets) PutOut) r.interrupt (interrupts (far here) goes) hs hr (quiet_interrupts (far here) goes)

  -- a data packet, for each decision on it
  stay_judged : (s r : Direction A) (here : End) (packet : Data A) → IsWhole s → IsWhole r → (judged : Judged) (count : Option ℕ) → BothStay s r r.ready (data_as here packet judged count s r)
  stay_judged s r here packet hs hr Discard count = stay_unchanged s r hs hr
  stay_judged s r here packet hs hr (ResetWith diagnostic) count = stay_failing s r here diagnostic r.ready
  stay_judged s r here packet hs hr Accept None = stay_unchanged s r hs hr
  stay_judged s r here packet hs hr Accept (Some count) = stay_accepting s r here packet count hr

  stay_flow_as : (s r : Direction A) (here : End) (ready : Bool) → IsWhole s → (count : Option ℕ) → BothStay s r ready (flow_as here ready count s r)
  stay_flow_as s r here ready hs None = stay_failing s r here INVALID_RECEIVE_NUMBER ready
  stay_flow_as s r here ready hs (Some count) = stay_acknowledging s r here ready count hs

  stay_either : (s r : Direction A) (said b : Bool) (x y : Turn A) → BothStay s r said x → BothStay s r said y → BothStay s r said (cond b x y)
  stay_either s r said b x y h k = cond_both b x y (λ turn. BothStay s r said turn) (λ _. h) (λ _. k)

  -- RR or RNR, which changes nothing where its end owes a reset confirmation
  stay_flow : (s r : Direction A) (ready : Bool) (turn : Turn A) → IsWhole s → IsWhole r → BothStay s r ready turn → (owes : Bool) → BothStay s r (cond (not owes) ready r.ready) (cond owes (unchanged s r) turn)
  stay_flow s r ready turn hs hr h true = stay_unchanged s r hs hr
  stay_flow s r ready turn hs hr h false = h

  -- what each packet does to both directions, of which its end receives `r`
  pub stay_turn : (s r : Direction A) (here : End) (packet : Packet A) → IsWhole s → IsWhole r → BothStay s r (ready_after (not r.owes) packet r.ready) (turn_of here packet s r)
  stay_turn s r here (DataPacket q d more ps pr octets) hs hr =
      stay_judged s r here (record { q = q; d = d; more = more; octets = octets }) hs hr (judgement ps pr (length octets) s r) (acknowledged_count pr r)
  stay_turn s r here (Ready pr) hs hr =
      stay_flow s r true (flow_as here true (acknowledged_count pr r) s r) hs hr (stay_flow_as s r here true hs (acknowledged_count pr r)) r.owes
  stay_turn s r here (NotReady pr) hs hr =
      stay_flow s r false (flow_as here false (acknowledged_count pr r) s r) hs hr (stay_flow_as s r here false hs (acknowledged_count pr r)) r.owes
  stay_turn s r here (Reject pr) hs hr =
      stay_either s r r.ready r.owes _ _ (stay_unchanged s r hs hr) (stay_failing s r here REJECT_NOT_SUBSCRIBED r.ready)
  stay_turn s r here (Interrupt octets) hs hr =
      stay_either s r r.ready r.owes _ _ (stay_unchanged s r hs hr)
      (stay_either s r r.ready (is_idle s.interrupt) _ _ (stay_interrupting s r here octets hs hr) (stay_failing s r here UNAUTHORIZED_INTERRUPT r.ready))
  stay_turn s r here InterruptConfirm hs hr =
      stay_either s r r.ready r.owes _ _ (stay_unchanged s r hs hr)
      (stay_either s r r.ready (is_put_out r.interrupt) _ _
      (stay_quiet s r s.interrupt Idle _ hs hr (record { unreset = refl; none = λ e. refl }))
      (stay_failing s r here UNAUTHORIZED_INTERRUPT_CONFIRMATION r.ready))
  stay_turn s r here (Reset cause diagnostic) hs hr =
      stay_either s r r.ready r.owes _ _ (stay_settling s r here hs) (stay_resetting s r here cause (indicated_diagnostic diagnostic) r.ready)
  stay_turn s r here ResetConfirm hs hr =
      stay_either s r r.ready r.owes _ _ (stay_settling s r here hs) (stay_failing s r here INVALID_IN_D1 r.ready)
  stay_turn s r here _ hs hr = stay_unchanged s r hs hr
