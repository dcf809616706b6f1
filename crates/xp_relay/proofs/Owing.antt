-- After each turn an end owes a reset confirmation as the packets say.
use Rattle.std.proofs.Common.{◌≡◌, Bool, true, false, not, ◌&&◌, ◌||◌, ◌==◌, cond, List, [], ◌∷◌, ◌++◌, length, Option, Some, None, refl, sym, ap, ◌∙◌, inl, inr, ℕ}
use Rattle.std.proofs.lemmas.Bool.{cases_Bool, cond_both, or_parts}
use Rattle.xp_causes.specs.declared.diagnostic.TheConstants.{INVALID_RECEIVE_NUMBER, INVALID_IN_D1, REJECT_NOT_SUBSCRIBED, UNAUTHORIZED_INTERRUPT_CONFIRMATION, UNAUTHORIZED_INTERRUPT}
use Rattle.xp_causes.specs.declared.resetting_cause.TheConstants.{REMOTE_PROCEDURE_ERROR}
use Rattle.xp_causes.specs.Indicated.{indicated_cause, indicated_diagnostic}
use Rattle.xp_packets.specs.declared.end.End.{End}
use Rattle.xp_packets.specs.declared.packet.Packet.{Packet}
use Rattle.xp_packets.specs.declared.packet.Packet.TheVariants.{DataPacket, Ready, NotReady, Reject, Interrupt, InterruptConfirm, Reset, ResetConfirm}
use Rattle.xp_relay.specs.declared.data.Data.{Data}
use Rattle.xp_relay.specs.declared.judged.Judged.{Judged}
use Rattle.xp_relay.specs.declared.judged.Judged.TheVariants.{Accept, Discard, Reset as ResetWith}
use Rattle.xp_relay.specs.declared.moves.Move.{Move}
use Rattle.xp_relay.specs.Direction.{Direction, acknowledged_count, far, is_open, put_all, received_number, release}
use Rattle.xp_relay.specs.Judgement.{judgement}
use Rattle.xp_relay.specs.Contents.{is_indicated, is_of_reset, is_reset, resets, same_end}
use Rattle.xp_relay.specs.Turns.{Turn, accepting, acknowledged_to, acknowledging, data_as, failing, flow_as, flow_notice, held_interrupt, indicating, indication, interrupting, interrupts, is_idle, is_news, is_put_out, not_ready_notice, resetting, settled, settling, turn_of, unchanged, with_data}
use Rattle.xp_relay.proofs.Runs.{far_is_other, other_is_far, quiet-append, quiet_not_ready, quiet_telling, same_self}
use Rattle.xp_relay.proofs.Takes.{after_release, before_release, quiet_interrupts}

pub and_true : (b : Bool) → b ≡ (b && not false)
and_true true = refl
and_true false = refl

and_false : (b : Bool) → false ≡ (b && not true)
and_false true = refl
and_false false = refl

and_none : (b : Bool) → ((b && false) || false) ≡ false
and_none true = refl
and_none false = refl

module _ {A : Type 0} where
  reset_is : (packet : Packet A) → is_of_reset packet ≡ false → is_reset packet ≡ false
  reset_is (Reset cause diagnostic) e = e
  reset_is _ e = refl

  -- moves without a reset bring no reset indication
  pub none_indicated : (end : End) (made : List (Move A)) → resets made ≡ false → is_indicated end made ≡ false
  none_indicated end [] e = refl
  none_indicated end (m ∷ rest) e =
      let parts = or_parts (is_of_reset m.packet) (resets rest) e in
      rw (reset_is m.packet parts.0, none_indicated end rest parts.1) (and_none (same_end end m.side))

  -- Both ends after a turn, of which this end, which receives `r`, sent the packet. `gives` says that the packet is a
  -- reset confirmation, or a reset request.
  pub record BothOwe (here : End) (s r : Direction A) (gives : Bool) (turn : Turn A) : Type 0 where
    pub sent : turn.sent.owes ≡ (is_indicated (far here) turn.moves || s.owes)
    pub received : turn.received.owes ≡ (is_indicated here turn.moves || (r.owes && not gives))

  -- nobody is sent a reset indication, and nobody gives a reset confirmation
  owe_still : (here : End) (s r : Direction A) (turn : Turn A) → turn.sent.owes ≡ s.owes → turn.received.owes ≡ r.owes → resets turn.moves ≡ false → BothOwe here s r false turn
  owe_still here s r turn sent received unreset = record {
    sent = sent ∙ ap (λ b. b || s.owes) (sym (none_indicated (far here) turn.moves unreset));
    received = received ∙ and_true r.owes ∙ ap (λ b. b || (r.owes && not false)) (sym (none_indicated here turn.moves unreset));
  }

  owe_unchanged : (here : End) (s r : Direction A) → BothOwe here s r false (unchanged s r)
  owe_unchanged here s r = owe_still here s r (unchanged s r) refl refl refl

  pub release-owes : (d : Direction A) → (release d).owes ≡ d.owes
  release-owes d = cond_both (is_open d) (put_all d) d (λ x. x.owes ≡ d.owes) (λ _. refl) (λ _. refl)

  -- the far end owes a reset confirmation: it is sent an indication now, or owed one before
  far_owes : (here : End) (cause diagnostic : ℕ) (s : Direction A) → (is_indicated (far here) (indicating here cause diagnostic s) || s.owes) ≡ true
  far_owes here cause diagnostic s =
      elim (cases_Bool s.owes) [
        | inl owes ↦ rw owes refl
        | inr free ↦ rw (free, same_self (far here)) refl
      ]

  -- this end is not sent what is indicated to the far end
  not_here : (here : End) (cause diagnostic : ℕ) (s : Direction A) → is_indicated here (indicating here cause diagnostic s) ≡ false
  not_here here cause diagnostic s =
      cond_both s.owes [] (indication (far here) cause diagnostic ∷ []) (λ made. is_indicated here made ≡ false) (λ _. refl) (λ _. rw (far_is_other here) refl)

  owe_failing : (here : End) (s r : Direction A) (diagnostic : ℕ) (gives : Bool) → BothOwe here s r gives (failing here diagnostic s r)
  owe_failing here s r diagnostic gives = record {
    sent = rw (other_is_far here) (sym (far_owes here REMOTE_PROCEDURE_ERROR diagnostic s));
    received = rw (same_self here) refl;
  }

  owe_resetting : (here : End) (s r : Direction A) (cause diagnostic : ℕ) → BothOwe here s r true (resetting here cause diagnostic s r)
  owe_resetting here s r cause diagnostic = record {
    sent = rw (other_is_far here) (sym (far_owes here (indicated_cause cause) diagnostic s));
    received = rw (same_self here, not_here here (indicated_cause cause) diagnostic s) (and_false r.owes);
  }

  owe_settling : (here : End) (s r : Direction A) → BothOwe here s r true (settling here s r)
  owe_settling here s r =
      let waited = held_interrupt r.interrupt in
      let first = not_ready_notice here s ++ interrupts here waited in
      let quiet = quiet-append (not_ready_notice here s) (interrupts here waited) (quiet_not_ready here s) (quiet_interrupts here waited) in
      let unreset = (before_release here (received_number s) (settled r) first quiet).0 in
      let made = (settling here s r).moves in
      record {
        sent = ap (λ b. b || s.owes) (sym (none_indicated (far here) made unreset));
        received = release-owes (settled r) ∙ and_false r.owes ∙ ap (λ b. b || (r.owes && not true)) (sym (none_indicated here made unreset));
      }

  owe_acknowledging : (here : End) (s r : Direction A) (ready : Bool) (count : ℕ) → BothOwe here s r false (acknowledging here ready count s r)
  owe_acknowledging here s r ready count =
      let less = acknowledged_to ready count r in
      let news = is_news ready count r in
      let unreset = (after_release here (received_number s) less (flow_notice here news s less) (quiet_telling here news s less)).0 in
      owe_still here s r (acknowledging here ready count s r) refl (release-owes less) unreset

  owe_accepting : (here : End) (s r : Direction A) (packet : Data A) (count : ℕ) → BothOwe here s r false (accepting here packet count s r)
  owe_accepting here s r packet count =
      let more = with_data packet s in
      let less = acknowledged_to r.ready count r in
      let news = not (count == r.acknowledged) && not (is_open s) in
      let unreset = (after_release (far here) (received_number less) more (flow_notice here news s less) (quiet_telling here news s less)).0 in
      owe_still here s r (accepting here packet count s r) (release-owes more) refl unreset

  owe_interrupting : (here : End) (s r : Direction A) (octets : List ℕ) → BothOwe here s r false (interrupting here octets s r)
  owe_interrupting here s r octets =
      owe_still here s r (interrupting here octets s r) refl refl (quiet_interrupts (far here) (cond s.owes None (Some octets))).unreset

  owe_judged : (here : End) (s r : Direction A) (packet : Data A) (judged : Judged) (count : Option ℕ) → BothOwe here s r false (data_as here packet judged count s r)
  owe_judged here s r packet Discard count = owe_unchanged here s r
  owe_judged here s r packet (ResetWith diagnostic) count = owe_failing here s r diagnostic false
  owe_judged here s r packet Accept None = owe_unchanged here s r
  owe_judged here s r packet Accept (Some count) = owe_accepting here s r packet count

  owe_flow_as : (here : End) (s r : Direction A) (ready : Bool) (count : Option ℕ) → BothOwe here s r false (flow_as here ready count s r)
  owe_flow_as here s r ready None = owe_failing here s r INVALID_RECEIVE_NUMBER false
  owe_flow_as here s r ready (Some count) = owe_acknowledging here s r ready count

  owe_either : (here : End) (s r : Direction A) (gives b : Bool) (x y : Turn A) → BothOwe here s r gives x → BothOwe here s r gives y → BothOwe here s r gives (cond b x y)
  owe_either here s r gives b x y h k = cond_both b x y (λ turn. BothOwe here s r gives turn) (λ _. h) (λ _. k)

  pub owe_turn : (here : End) (s r : Direction A) (packet : Packet A) → BothOwe here s r (is_of_reset packet) (turn_of here packet s r)
  owe_turn here s r (DataPacket q d more ps pr octets) =
      owe_judged here s r (record { q = q; d = d; more = more; octets = octets }) (judgement ps pr (length octets) s r) (acknowledged_count pr r)
  owe_turn here s r (Ready pr) = owe_either here s r false r.owes _ _ (owe_unchanged here s r) (owe_flow_as here s r true (acknowledged_count pr r))
  owe_turn here s r (NotReady pr) = owe_either here s r false r.owes _ _ (owe_unchanged here s r) (owe_flow_as here s r false (acknowledged_count pr r))
  owe_turn here s r (Reject pr) = owe_either here s r false r.owes _ _ (owe_unchanged here s r) (owe_failing here s r REJECT_NOT_SUBSCRIBED false)
  owe_turn here s r (Interrupt octets) =
      owe_either here s r false r.owes _ _ (owe_unchanged here s r)
      (owe_either here s r false (is_idle s.interrupt) _ _ (owe_interrupting here s r octets) (owe_failing here s r UNAUTHORIZED_INTERRUPT false))
  owe_turn here s r InterruptConfirm =
      owe_either here s r false r.owes _ _ (owe_unchanged here s r)
      (owe_either here s r false (is_put_out r.interrupt) _ _ (owe_still here s r _ refl refl refl) (owe_failing here s r UNAUTHORIZED_INTERRUPT_CONFIRMATION false))
  owe_turn here s r (Reset cause diagnostic) =
      owe_either here s r true r.owes _ _ (owe_settling here s r) (owe_resetting here s r cause (indicated_diagnostic diagnostic))
  owe_turn here s r ResetConfirm =
      owe_either here s r true r.owes _ _ (owe_settling here s r) (owe_failing here s r INVALID_IN_D1 true)
  owe_turn here s r _ = owe_unchanged here s r
