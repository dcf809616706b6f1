-- What the two ends see of one direction of a call, by the packets alone, and what holds of it.
use Rattle.std.specs.Prelude.{◌≡◌, ℕ, ◌+◌, ◌%◌, ◌≤◌, Bool, true, false, not, ◌&&◌, ◌||◌, if◌then◌else◌, Option, Some, None, option_to_list, List, [], ◌∷◌, ◌++◌, All, length, map, take}
use Rattle.xp_packets.specs.Numbers.{numbers}
use Rattle.xp_packets.specs.declared.end.End.{End}
use Rattle.xp_relay.specs.declared.data.Data.{Data}
use Rattle.xp_relay.specs.declared.moves.Move.{Move}
use Rattle.xp_relay.specs.declared.terms.Terms.{Terms}
use Rattle.xp_relay.specs.Contents.{count_after, data_to, interrupt_in, interrupts_to, is_indicated, last_count, number_of, numbers_to, offered, ready_after, ready_told, resets, same_end, still_owes, with_numbers}
use Rattle.xp_relay.specs.Coupled.{Coupled, coupled, sent_by}
use Rattle.xp_relay.specs.Direction.{far}
use Rattle.xp_relay.specs.Runs.{Arrival, Handled, handled_over, run}
use Rattle.xp_relay.specs.Terms.{IsWithinTerms, terms_from}

-- what the two ends see of one direction since the call was last reset
pub record Observed (A : Type 0) : Type 0 where
  -- the data that its sender sent, without packets that were dropped
  pub accepted : List (Data A)
  -- the data that its receiver received, with the numbers
  pub put : List (ℕ × Data A)
  -- how many of these its receiver acknowledged, by the P(R) of the data, RR and RNR that it sent
  pub acknowledged : ℕ
  -- each P(R) that its sender received, and how many packets were acknowledged then
  pub told : List (ℕ × ℕ)
  -- its receiver is ready for data: the last RR or RNR of the receiver said so, or there was none
  pub ready : Bool
  -- its sender was told so: the last RR or RNR that the sender received said so, or there was none
  pub told_ready : Bool
  -- the interrupts that its sender sent, without those that were dropped, and those that its receiver received
  pub interrupts : List (List ℕ)
  pub interrupts_put : List (List ℕ)
  -- its sender owes a reset confirmation, and its receiver does
  pub sender_owes : Bool
  pub receiver_owes : Bool

module _ {A : Type 0} where
  abbrev pub nothing_observed : Observed A
  nothing_observed = record {
    accepted = [];
    put = [];
    acknowledged = 0;
    told = [];
    ready = true;
    told_ready = true;
    interrupts = [];
    interrupts_put = [];
    sender_owes = false;
    receiver_owes = false;
  }

  -- what is seen after a reset: nothing, but who owes a reset confirmation
  abbrev pub forgotten : Observed A → Observed A
  forgotten seen = record nothing_observed { sender_owes = seen.sender_owes; receiver_owes = seen.receiver_owes }

  -- What is seen as a packet comes from an end. While an end owes a reset confirmation, its data, RR, RNR and interrupts
  -- are dropped (X.25 clause 4.4.3.2).
  abbrev pub observe_packet : Terms → End → Observed A → Arrival A → Observed A
  observe_packet terms sender seen arrival =
      let sends = same_end sender arrival.here && not seen.sender_owes in
      let answers = same_end (far sender) arrival.here && not seen.receiver_owes in
      let count = count_after (numbers (terms_from sender terms).receiver) (length seen.put) (number_of arrival.packet) seen.acknowledged in
      record seen {
        accepted = seen.accepted ++ offered sends arrival.packet;
        acknowledged = if answers then count else seen.acknowledged;
        ready = ready_after answers arrival.packet seen.ready;
        interrupts = seen.interrupts ++ interrupt_in sends arrival.packet;
        sender_owes = still_owes (same_end sender arrival.here) arrival.packet seen.sender_owes;
        receiver_owes = still_owes (same_end (far sender) arrival.here) arrival.packet seen.receiver_owes;
      }

  -- if one comes
  abbrev pub observe_arrival : Terms → End → Observed A → Option (Arrival A) → Observed A
  observe_arrival terms sender seen None = seen
  observe_arrival terms sender seen (Some arrival) = observe_packet terms sender seen arrival

  -- What is seen as packets are put out. Where one of them tells an end of a reset, they follow the reset.
  abbrev pub observe_moves : End → Observed A → List (Move A) → Observed A
  observe_moves sender came moves =
      let seen = if resets moves then forgotten came else came in
      record seen {
        put = seen.put ++ data_to (far sender) moves;
        told = seen.told ++ map (λ number. (number, seen.acknowledged)) (numbers_to sender moves);
        told_ready = ready_told sender moves seen.told_ready;
        interrupts_put = seen.interrupts_put ++ interrupts_to (far sender) moves;
        sender_owes = is_indicated sender moves || seen.sender_owes;
        receiver_owes = is_indicated (far sender) moves || seen.receiver_owes;
      }

  -- what is seen of the direction that an end sends, as its call goes on
  abbrev pub observed_over : Terms → End → Observed A → List (Handled A) → Observed A
  observed_over terms sender seen [] = seen
  observed_over terms sender seen (handled ∷ rest) =
      observed_over terms sender (observe_moves sender (observe_arrival terms sender seen handled.came) handled.moves) rest

  -- what is seen since the call was connected
  abbrev pub observed : Terms → End → List (Handled A) → Observed A
  observed terms sender handled = observed_over terms sender nothing_observed handled

  -- The receiver received a front of what was accepted from the sender since the last reset: each packet once, in
  -- order, unchanged, numbered from 0 as its line numbers. If the receiver is ready, by its own RR and RNR, and owes no
  -- reset confirmation, by the packets that it received and sent, it received all of it. No more than a window is
  -- unacknowledged, by the P(R) that it sent.
  pub record IsDelivered (terms : Terms) (sender : End) (call : Coupled A) (seen : Observed A) : Type 0 where
    pub agreed : (sent_by sender call).terms ≡ terms_from sender terms
    pub kept : (sent_by sender call).accepted ≡ seen.accepted
    pub counted : (sent_by sender call).put ≡ length seen.put
    pub answered : (sent_by sender call).acknowledged ≡ seen.acknowledged
    pub readiness : (sent_by sender call).ready ≡ seen.ready
    pub owing : (sent_by sender call).owes ≡ seen.receiver_owes
    pub front : seen.put ≡ with_numbers (numbers (terms_from sender terms).receiver) 0 (take (length seen.put) seen.accepted)
    pub whole : seen.ready ≡ true → seen.receiver_owes ≡ false → seen.put ≡ with_numbers (numbers (terms_from sender terms).receiver) 0 seen.accepted
    pub acknowledged : seen.acknowledged ≤ length seen.put
    pub window : length seen.accepted ≤ seen.acknowledged + (terms_from sender terms).window

  -- Each P(R) that the sender received, in data, RR or RNR, is the number of packets that the receiver had acknowledged
  -- then, as the sender's line numbers (clause 4.4.1.3). The last one is that of all that are acknowledged. A sender
  -- that owes no reset confirmation was told last whether the receiver is ready (clauses 4.4.1.4 and 4.4.1.5).
  pub record IsTold (terms : Terms) (sender : End) (seen : Observed A) : Type 0 where
    pub numbered : All (λ told. told.0 ≡ told.1 % numbers (terms_from sender terms).sender) seen.told
    pub all : last_count 0 seen.told ≡ seen.acknowledged
    pub readiness : seen.sender_owes ≡ false → seen.told_ready ≡ seen.ready

  -- The receiver received each interrupt of the sender since the last reset, once and in order. Only the last one may
  -- wait, and only while the receiver owes a reset confirmation.
  pub record AreInterruptsDelivered (seen : Observed A) : Type 0 where
    pub held : Option (List ℕ)
    pub all : seen.interrupts ≡ seen.interrupts_put ++ option_to_list held
    pub waits : seen.receiver_owes ≡ false → held ≡ None

-- so it is after any packets, in any order, from both ends
abbrev pub EverythingIsDelivered : (A : Type 0) → Type 0
EverythingIsDelivered A =
    (terms : Terms) → IsWithinTerms terms → (arrivals : List (Arrival A)) (sender : End) →
    IsDelivered {A = A} terms sender (run (coupled terms) arrivals) (observed terms sender (handled_over (coupled terms) arrivals))

abbrev pub SendersAreTold : (A : Type 0) → Type 0
SendersAreTold A =
    (terms : Terms) → IsWithinTerms terms → (arrivals : List (Arrival A)) (sender : End) →
    IsTold {A = A} terms sender (observed terms sender (handled_over (coupled terms) arrivals))

abbrev pub InterruptsAreDelivered : (A : Type 0) → Type 0
InterruptsAreDelivered A =
    (terms : Terms) → IsWithinTerms terms → (arrivals : List (Arrival A)) (sender : End) →
    AreInterruptsDelivered {A = A} (observed terms sender (handled_over (coupled terms) arrivals))
