-- What each packet of one end does to the two directions of its call, and the packets that it leads to.
use Rattle.std.specs.Prelude.{ℕ, ◌==◌, Bool, true, false, not, ◌&&◌, ◌||◌, if◌then◌else◌, List, [], ◌∷◌, ◌++◌, length, Option, Some, None}
use Rattle.xp_packets.specs.declared.end.End.{End}
use Rattle.xp_packets.specs.declared.packet.Packet.{Packet}
use Rattle.xp_packets.specs.declared.packet.Packet.TheVariants.{DataPacket, Ready, NotReady, Reject, Interrupt, InterruptConfirm, Reset, ResetConfirm}
use Rattle.xp_relay.specs.declared.data.Data.{Data}
use Rattle.xp_relay.specs.declared.data.Interruption.{Interruption}
use Rattle.xp_relay.specs.declared.data.Interruption.TheVariants.{Idle, Held, PutOut}
use Rattle.xp_relay.specs.declared.judged.Judged.{Judged}
use Rattle.xp_relay.specs.declared.judged.Judged.TheVariants.{Accept, Discard, Reset as ResetWith}
use Rattle.xp_relay.specs.declared.moves.Move.{Move}
use Rattle.xp_causes.specs.Indicated.{indicated_cause, indicated_diagnostic}
use Rattle.xp_causes.specs.declared.diagnostic.TheConstants.{INVALID_RECEIVE_NUMBER, INVALID_IN_D1, REJECT_NOT_SUBSCRIBED, UNAUTHORIZED_INTERRUPT_CONFIRMATION, UNAUTHORIZED_INTERRUPT}
use Rattle.xp_causes.specs.declared.resetting_cause.TheConstants.{REMOTE_PROCEDURE_ERROR, LOCAL_PROCEDURE_ERROR}
use Rattle.xp_relay.specs.Direction.{Direction, far, to, received_number, acknowledged_count, is_open, release, released, emptied}
use Rattle.xp_relay.specs.Judgement.{judgement}

-- what a packet of one end leads to: the direction that this end sends, the one that it receives, and the moves
pub record Turn (A : Type 0) : Type 0 where
  pub sent : Direction A
  pub received : Direction A
  pub moves : List (Move A)

-- a reset indication (X.25 clause 4.4.3.2)
abbrev pub indication : {A : Type 0} → End → ℕ → ℕ → Move A
indication side cause diagnostic = to side (Reset cause (Some diagnostic))

-- the octets of an interrupt that waits
abbrev pub held_interrupt : {A : Type 0} → Interruption A → Option (List ℕ)
held_interrupt Idle = None
held_interrupt (Held octets) = Some octets
held_interrupt PutOut = None

-- the interrupt after its receiver gave the reset confirmation that it owed
abbrev pub put_out : {A : Type 0} → Interruption A → Interruption A
put_out Idle = Idle
put_out (Held octets) = PutOut
put_out PutOut = PutOut

-- there is no interrupt
abbrev pub is_idle : {A : Type 0} → Interruption A → Bool
is_idle Idle = true
is_idle (Held octets) = false
is_idle PutOut = false

-- the receiver was sent the interrupt, and has not confirmed it
abbrev pub is_put_out : {A : Type 0} → Interruption A → Bool
is_put_out Idle = false
is_put_out (Held octets) = false
is_put_out PutOut = true

-- the interrupt packet, where there are octets to send
abbrev pub interrupts : {A : Type 0} → End → Option (List ℕ) → List (Move A)
interrupts side None = []
interrupts side (Some octets) = to side (Interrupt octets) ∷ []

-- the two are not the same
abbrev pub differs : Bool → Bool → Bool
differs a b = if a then not b else b

-- receive ready or receive not ready, with P(R) (clauses 4.4.1.4 and 4.4.1.5)
abbrev pub flow_packet : {A : Type 0} → Bool → ℕ → Packet A
flow_packet ready pr = if ready then Ready pr else NotReady pr

module _ {A : Type 0} where
  -- nothing happens
  abbrev pub unchanged : Direction A → Direction A → Turn A
  unchanged s r = record { sent = s; received = r; moves = [] }

  -- Where something changed, the far end is sent P(R) of this end and whether this end is ready. A far end that owes a
  -- reset confirmation is sent nothing.
  abbrev pub flow_notice : End → Bool → Direction A → Direction A → List (Move A)
  flow_notice here changed s r =
      if changed && not s.owes then to (far here) (flow_packet r.ready (received_number r)) ∷ [] else []

  -- the far end is sent a reset indication, unless it owes a reset confirmation already
  abbrev pub indicating : End → ℕ → ℕ → Direction A → List (Move A)
  indicating here cause diagnostic s = if s.owes then [] else indication (far here) cause diagnostic ∷ []

  -- after a reset, an end is told that its far end is not ready, where it is not
  abbrev pub not_ready_notice : End → Direction A → List (Move A)
  not_ready_notice here s = if s.ready then [] else to here (NotReady (received_number s)) ∷ []

  -- a procedure error of this end resets the call, and then both ends owe a reset confirmation (clause 4.4.3.2)
  abbrev pub failing : End → ℕ → Direction A → Direction A → Turn A
  failing here diagnostic s r = record {
    sent = emptied true s;
    received = emptied true r;
    moves = indication here LOCAL_PROCEDURE_ERROR diagnostic ∷ indicating here REMOTE_PROCEDURE_ERROR diagnostic s;
  }

  -- this end acknowledges packets up to a count, and is ready or not
  abbrev pub acknowledged_to : Bool → ℕ → Direction A → Direction A
  acknowledged_to ready count d = record d { acknowledged = count; ready = ready }

  -- that changes something for the far end
  abbrev pub is_news : Bool → ℕ → Direction A → Bool
  is_news ready count d = not (count == d.acknowledged) || differs ready d.ready

  -- P(R) of this end acknowledges packets up to a count, and this end is ready or not. If it takes data now, it is sent
  -- what waited for it. Its far end is told what changed.
  abbrev pub acknowledging : End → Bool → ℕ → Direction A → Direction A → Turn A
  acknowledging here ready count s r =
      let less = acknowledged_to ready count r in
      record {
        sent = s;
        received = release less;
        moves = released here (received_number s) less ++ flow_notice here (is_news ready count r) s less;
      }

  -- RR or RNR, whose P(R) stands for a count or is not valid (clauses 4.4.1.3 to 4.4.1.5)
  abbrev pub flow_as : End → Bool → Option ℕ → Direction A → Direction A → Turn A
  flow_as here ready None s r = failing here INVALID_RECEIVE_NUMBER s r
  flow_as here ready (Some count) s r = acknowledging here ready count s r

  -- RR or RNR. From an end that owes a reset confirmation, it changes nothing.
  abbrev pub flow : End → Bool → ℕ → Direction A → Direction A → Turn A
  flow here ready pr s r = if r.owes then unchanged s r else flow_as here ready (acknowledged_count pr r) s r

  -- one more packet is accepted
  abbrev pub with_data : Data A → Direction A → Direction A
  with_data packet d = record d { accepted = d.accepted ++ packet ∷ [] }

  -- An accepted data packet, whose P(R) acknowledges packets up to a count. Where the far end takes data, it is sent
  -- the packet, with the new P(R). Else it is told the new P(R).
  abbrev pub accepting : End → Data A → ℕ → Direction A → Direction A → Turn A
  accepting here packet count s r =
      let more = with_data packet s in
      let less = record r { acknowledged = count } in
      record {
        sent = release more;
        received = less;
        moves = released (far here) (received_number less) more
            ++ flow_notice here (not (count == r.acknowledged) && not (is_open s)) s less;
      }

  -- a data packet, by the decision on it; one that is accepted has a P(R) that stands for a count
  abbrev pub data_as : End → Data A → Judged → Option ℕ → Direction A → Direction A → Turn A
  data_as here packet Discard count s r = unchanged s r
  data_as here packet (ResetWith diagnostic) count s r = failing here diagnostic s r
  data_as here packet Accept None s r = unchanged s r
  data_as here packet Accept (Some count) s r = accepting here packet count s r

  -- a data packet with P(S) and P(R)
  abbrev pub carries : End → Data A → ℕ → ℕ → Direction A → Direction A → Turn A
  carries here packet ps pr s r =
      data_as here packet (judgement ps pr (length packet.octets) s r) (acknowledged_count pr r) s r

  -- REJ, to which no line subscribes (clause 6.4)
  abbrev pub reject : End → Direction A → Direction A → Turn A
  reject here s r = if r.owes then unchanged s r else failing here REJECT_NOT_SUBSCRIBED s r

  -- an interrupt, which goes to its receiver, or waits while the receiver owes a reset confirmation (clause 4.3.7)
  abbrev pub interrupting : End → List ℕ → Direction A → Direction A → Turn A
  interrupting here octets s r = record {
    sent = record s { interrupt = if s.owes then Held octets else PutOut };
    received = r;
    moves = interrupts (far here) (if s.owes then None else Some octets);
  }

  -- an interrupt; an end may have only one that is not confirmed (clause 4.3.7)
  abbrev pub interrupt : End → List ℕ → Direction A → Direction A → Turn A
  interrupt here octets s r =
      if r.owes then unchanged s r
      else (if is_idle s.interrupt then interrupting here octets s r else failing here UNAUTHORIZED_INTERRUPT s r)

  -- an interrupt confirmation, allowed where this end was sent an interrupt that it has not confirmed (clause 4.3.7)
  abbrev pub interrupt_confirm : End → Direction A → Direction A → Turn A
  interrupt_confirm here s r =
      if r.owes then unchanged s r
      else (if is_put_out r.interrupt
      then record { sent = s; received = record r { interrupt = Idle }; moves = to (far here) InterruptConfirm ∷ [] }
      else failing here UNAUTHORIZED_INTERRUPT_CONFIRMATION s r)

  -- a reset request: it is confirmed at once, and the far end owes a reset confirmation (clauses 4.4.3.1 and 4.4.3.2)
  abbrev pub resetting : End → ℕ → ℕ → Direction A → Direction A → Turn A
  resetting here cause diagnostic s r = record {
    sent = emptied true s;
    received = emptied false r;
    moves = to here ResetConfirm ∷ indicating here (indicated_cause cause) diagnostic s;
  }

  -- the receiver gave its reset confirmation, and is sent the interrupt that waited for it
  abbrev pub settled : Direction A → Direction A
  settled d = record d { owes = false; interrupt = put_out d.interrupt }

  -- This end gives the reset confirmation that it owed. It is told if its far end is not ready, and is sent what waited
  -- for it (clauses 4.4.3.3 and 4.4.3.4).
  abbrev pub settling : End → Direction A → Direction A → Turn A
  settling here s r = record {
    sent = s;
    received = release (settled r);
    moves = not_ready_notice here s
        ++ interrupts here (held_interrupt r.interrupt)
        ++ released here (received_number s) (settled r);
  }

  -- a reset request; from an end that owes a reset confirmation, it counts as that confirmation (clause 4.4.3.3)
  abbrev pub reset : End → ℕ → Option ℕ → Direction A → Direction A → Turn A
  reset here cause diagnostic s r =
      if r.owes then settling here s r
      else resetting here cause (indicated_diagnostic diagnostic) s r

  -- a reset confirmation, allowed where this end owes it (clause 4.4.3.4)
  abbrev pub reset_confirm : End → Direction A → Direction A → Turn A
  reset_confirm here s r =
      if r.owes then settling here s r else failing here INVALID_IN_D1 s r

-- What a packet of this end leads to. Packets of call set-up and clearing change nothing here.
abbrev pub turn_of : {A : Type 0} → End → Packet A → Direction A → Direction A → Turn A
turn_of here (DataPacket q d more ps pr octets) = carries here (record { q = q; d = d; more = more; octets = octets }) ps pr
turn_of here (Ready pr) = flow here true pr
turn_of here (NotReady pr) = flow here false pr
turn_of here (Reject pr) = reject here
turn_of here (Interrupt octets) = interrupt here octets
turn_of here InterruptConfirm = interrupt_confirm here
turn_of here (Reset cause diagnostic) = reset here cause diagnostic
turn_of here ResetConfirm = reset_confirm here
turn_of here _ = unchanged
