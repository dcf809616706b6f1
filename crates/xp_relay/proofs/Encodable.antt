-- Each packet that a call sends to an end can be encoded by the modulus of that end's line.
use Rattle.std.proofs.Common.{◌≡◌, ℕ, suc, ◌%◌, ◌≤◌, Bool, true, false, not, ◌&&◌, ◌||◌, ◌==◌, cond, eqb, ltb, List, [], ◌∷◌, ◌++◌, All, length, drop, Option, Some, None, refl, subst, arith}
use Rattle.std.proofs.lemmas.Bool.{cond_both, eqb-false, le-ltb, lt-leb, ltb-false, ne_eqb, or_from}
use Rattle.std.proofs.lemmas.List.Elements.{All-append, All-cons, All-drop, All-head, All-nil, All-push, All-tail}
use Rattle.xp_causes.specs.declared.diagnostic.TheConstants.{INVALID_RECEIVE_NUMBER, INVALID_IN_D1, REJECT_NOT_SUBSCRIBED, UNAUTHORIZED_INTERRUPT_CONFIRMATION, UNAUTHORIZED_INTERRUPT}
use Rattle.xp_causes.specs.declared.resetting_cause.TheConstants.{REMOTE_PROCEDURE_ERROR}
use Rattle.xp_causes.specs.Indicated.{indicated_cause, indicated_diagnostic}
use Rattle.xp_packets.specs.declared.end.End.{End}
use Rattle.xp_packets.specs.declared.end.End.TheVariants.{Caller, Called}
use Rattle.xp_packets.specs.declared.fault.Malformed.{Malformed}
use Rattle.xp_packets.specs.declared.fault.Malformed.TheVariants as faults
use Rattle.xp_packets.specs.declared.modulus.Modulus.{Modulus}
use Rattle.xp_packets.specs.declared.modulus.Modulus.TheVariants.{Eight, Long}
use Rattle.xp_packets.specs.declared.packet.Packet.{Packet}
use Rattle.xp_packets.specs.declared.packet.Packet.TheVariants.{DataPacket, Ready, NotReady, Reject, Interrupt, InterruptConfirm, Reset, ResetConfirm}
use Rattle.xp_packets.specs.Examination.{first_of}
use Rattle.xp_packets.specs.Encodability.{CanBeEncoded}
use Rattle.xp_packets.specs.Numbers.{is_over, numbers}
use Rattle.xp_relay.specs.declared.data.Data.{Data}
use Rattle.xp_relay.specs.declared.data.Interruption.{Interruption}
use Rattle.xp_relay.specs.declared.data.Interruption.TheVariants.{Idle, Held, PutOut}
use Rattle.xp_relay.specs.declared.judged.Judged.{Judged}
use Rattle.xp_relay.specs.declared.judged.Judged.TheVariants.{Accept, Discard, Reset as ResetWith}
use Rattle.xp_relay.specs.declared.moves.Move.{Move}
use Rattle.xp_relay.specs.declared.terms.Terms.{Terms}
use Rattle.xp_relay.specs.Coupled.{Coupled, after, coupled}
use Rattle.xp_relay.specs.Direction.{Direction, emptied, far, is_open, numbered, put_all, received_number, release, released, acknowledged_count}
use Rattle.xp_relay.specs.Encodable.{CameEncoded}
use Rattle.xp_relay.specs.Judgement.{judgement}
use Rattle.xp_relay.specs.Runs.{Arrival, run, turn_on}
use Rattle.xp_relay.specs.Terms.{modulus_at}
use Rattle.xp_relay.specs.Turns.{Turn, accepting, acknowledged_to, acknowledging, data_as, failing, flow, flow_as, flow_packet, held_interrupt, indicating, interrupts, interrupting, is_idle, is_news, is_put_out, put_out, resetting, settled, settling, flow_notice, not_ready_notice, turn_of, unchanged, with_data}

-- ---- a packet can be encoded if none of four faults applies

abbrev four : Bool → Bool → Bool → Bool → List (Bool × Malformed)
four short format facilities long = (short, faults.Short) ∷ (format, faults.Format) ∷ (facilities, faults.Facilities) ∷ (long, faults.Long) ∷ []

none_holds : (short format facilities long : Bool) → short ≡ false → format ≡ false → facilities ≡ false → long ≡ false → first_of (four short format facilities long) ≡ None
none_holds short format facilities long a b c d = rw (a, b, c, d) refl

not_short : (a b c d : Bool) → first_of (four a b c d) ≡ None → a ≡ false
not_short true b c d e = absurd cc
not_short false b c d e = refl

not_long : (a b c d : Bool) → first_of (four a b c d) ≡ None → d ≡ false
not_long true b c d e = absurd cc
not_long false true c d e = absurd cc
not_long false false true d e = absurd cc
not_long false false false true e = absurd cc
not_long false false false false e = refl

-- ---- packets

-- a count modulo the numbers of a line is a number of that line
is_number : (modulus : Modulus) (count : ℕ) → is_over modulus (count % numbers modulus) ≡ false
is_number Eight count = lt-leb 8 (count % 8) (omega arith)
is_number Long count = lt-leb 128 (count % 128) (omega arith)

is_number_of : (modulus same : Modulus) (count : ℕ) → same ≡ modulus → is_over modulus (count % numbers same) ≡ false
is_number_of modulus same count e = subst (λ m. is_over m (count % numbers same) ≡ false) e (is_number same count)

-- an interrupt that waits has 1 to 32 octets
abbrev InterruptFits : Option (List ℕ) → Type 0
InterruptFits None = Unit {0}
InterruptFits (Some octets) = (1 ≤ length octets) × (length octets ≤ 32)

data_came : (A : Type 0) (identifier ps pr : ℕ) (q d more : Bool) (octets : List ℕ) → CanBeEncoded {A = A} Long identifier (DataPacket q d more ps pr octets) → length octets ≤ 1024
data_came A identifier ps pr q d more octets e =
    ltb-false 1024 (length octets) (not_long false ((is_over Long ps || is_over Long pr) || ltb 4095 identifier) false (ltb 1024 (length octets)) e)

interrupt_came : (A : Type 0) (identifier : ℕ) (octets : List ℕ) → CanBeEncoded {A = A} Long identifier (Interrupt octets) → InterruptFits (Some octets)
interrupt_came A identifier octets e =
    let some = eqb-false (length octets) 0 (not_short (eqb (length octets) 0) (ltb 4095 identifier) false (ltb 32 (length octets)) e) in
    (omega (arith, some), ltb-false 32 (length octets) (not_long (eqb (length octets) 0) (ltb 4095 identifier) false (ltb 32 (length octets)) e))

fine_flow : (A : Type 0) (modulus : Modulus) (identifier : ℕ) → ltb 4095 identifier ≡ false → (ready : Bool) (pr : ℕ) → is_over modulus pr ≡ false → CanBeEncoded {A = A} modulus identifier (flow_packet ready pr)
fine_flow A modulus identifier small ready pr under =
    cond_both ready (Ready pr) (NotReady pr) (λ packet. CanBeEncoded {A = A} modulus identifier packet)
    (λ _. none_holds _ _ _ _ refl (or_from (is_over modulus pr) (ltb 4095 identifier) under small) refl refl)
    (λ _. none_holds _ _ _ _ refl (or_from (is_over modulus pr) (ltb 4095 identifier) under small) refl refl)

module _ {A : Type 0} where
  record DataFits (x : Data A) : Type 0 where
    most : length x.octets ≤ 1024

  -- All that waits in a direction can be encoded by each modulus, without its numbers. The lines of the direction have
  -- these moduli.
  record Fits (sender receiver : Modulus) (d : Direction A) : Type 0 where
    by_sender : d.terms.sender ≡ sender
    by_receiver : d.terms.receiver ≡ receiver
    accepted : All DataFits d.accepted
    interrupt : InterruptFits (held_interrupt d.interrupt)

  none_waits : (interrupt : Interruption A) → InterruptFits (held_interrupt (put_out interrupt))
  none_waits Idle = tt
  none_waits (Held octets) = tt
  none_waits PutOut = tt

  fits_release : (sender receiver : Modulus) (d : Direction A) → Fits sender receiver d → Fits sender receiver (release d)
  fits_release sender receiver d h =
      cond_both (is_open d) (put_all d) d (λ x. Fits sender receiver x)
      (λ _. record { by_sender = h.by_sender; by_receiver = h.by_receiver; accepted = h.accepted; interrupt = h.interrupt })
      (λ _. h)

  fits_emptied : (sender receiver : Modulus) (owes : Bool) (d : Direction A) → Fits sender receiver d → Fits sender receiver (emptied owes d)
  fits_emptied sender receiver owes d h =
      record { by_sender = h.by_sender; by_receiver = h.by_receiver; accepted = All-nil DataFits; interrupt = tt }

  fits_acknowledged : (sender receiver : Modulus) (ready : Bool) (count : ℕ) (d : Direction A) → Fits sender receiver d → Fits sender receiver (acknowledged_to ready count d)
  fits_acknowledged sender receiver ready count d h =
      record { by_sender = h.by_sender; by_receiver = h.by_receiver; accepted = h.accepted; interrupt = h.interrupt }

-- ---- turns, by the terms of the call and under an identifier

module _ {A : Type 0} (terms : Terms) (identifier : ℕ) (small : ltb 4095 identifier ≡ false) where
  -- a packet that can be encoded by the modulus of the line that it goes to
  abbrev Fine : Move A → Type 0
  Fine move = CanBeEncoded (modulus_at move.side terms) identifier move.packet

  -- the directions that an end sends and receives
  abbrev FitsSent : End → Direction A → Type 0
  FitsSent here s = Fits (modulus_at here terms) (modulus_at (far here) terms) s

  abbrev FitsReceived : End → Direction A → Type 0
  FitsReceived here r = Fits (modulus_at (far here) terms) (modulus_at here terms) r

  -- after a turn all that waits can be encoded, and each of its moves can
  record TurnFits (here : End) (turn : Turn A) : Type 0 where
    sent : FitsSent here turn.sent
    received : FitsReceived here turn.received
    moves : All Fine turn.moves

  one : (move : Move A) → Fine move → All Fine (move ∷ [])
  one move h = All-cons Fine move [] h (All-nil Fine)

  -- P(R) to an end
  is_received_number : (side : End) (other : Modulus) (d : Direction A) → Fits (modulus_at side terms) other d → is_over (modulus_at side terms) (received_number d) ≡ false
  is_received_number side other d h = is_number_of (modulus_at side terms) d.terms.sender d.acknowledged h.by_sender

  fine_data : (modulus : Modulus) (x : Data A) (ps pr : ℕ) → is_over modulus ps ≡ false → is_over modulus pr ≡ false → DataFits x → CanBeEncoded {A = A} modulus identifier (DataPacket x.q x.d x.more ps pr x.octets)
  fine_data modulus x ps pr sent received h =
      none_holds _ _ _ _ refl
      (or_from (is_over modulus ps || is_over modulus pr) (ltb 4095 identifier) (or_from (is_over modulus ps) (is_over modulus pr) sent received) small)
      refl (le-ltb _ _ h.most)

  fine_numbered : (side : End) (modulus : Modulus) (pr count : ℕ) → modulus ≡ modulus_at side terms → is_over (modulus_at side terms) pr ≡ false → (xs : List (Data A)) → All DataFits xs → All Fine (numbered side (numbers modulus) pr count xs)
  fine_numbered side modulus pr count same under [] h = All-nil Fine
  fine_numbered side modulus pr count same under (x ∷ xs) h =
      All-cons Fine _ (numbered side (numbers modulus) pr (suc count) xs)
      (fine_data (modulus_at side terms) x (count % numbers modulus) pr (is_number_of (modulus_at side terms) modulus count same) under (All-head DataFits x xs h))
      (fine_numbered side modulus pr (suc count) same under xs (All-tail DataFits x xs h))

  fine_released : (side : End) (other : Modulus) (pr : ℕ) (d : Direction A) → is_over (modulus_at side terms) pr ≡ false → Fits other (modulus_at side terms) d → All Fine (released side pr d)
  fine_released side other pr d under h =
      cond_both (is_open d) (numbered side (numbers d.terms.receiver) pr d.put (drop d.put d.accepted)) [] (λ made. All Fine made)
      (λ _. fine_numbered side d.terms.receiver pr d.put h.by_receiver under (drop d.put d.accepted) (All-drop DataFits d.put d.accepted h.accepted))
      (λ _. All-nil Fine)

  fine_interrupts : (side : End) (octets : Option (List ℕ)) → InterruptFits octets → All Fine (interrupts side octets)
  fine_interrupts side None h = All-nil Fine
  fine_interrupts side (Some octets) h =
      one _ (none_holds _ _ _ _ (ne_eqb _ _ (λ e. absurd (omega (arith, h.0)))) small refl (le-ltb _ _ h.1))

  fits_either : (here : End) (b : Bool) (x y : Turn A) → TurnFits here x → TurnFits here y → TurnFits here (cond b x y)
  fits_either here b x y h k = cond_both b x y (λ turn. TurnFits here turn) (λ _. h) (λ _. k)

  fine_notice : (here : End) (changed : Bool) (s r : Direction A) → FitsReceived here r → All Fine (flow_notice here changed s r)
  fine_notice here changed s r h =
      cond_both (changed && not s.owes) _ _ (λ made. All Fine made)
      (λ _. one _ (fine_flow A (modulus_at (far here) terms) identifier small r.ready (received_number r) (is_received_number (far here) (modulus_at here terms) r h)))
      (λ _. All-nil Fine)

  fine_not_ready : (here : End) (s : Direction A) → FitsSent here s → All Fine (not_ready_notice here s)
  fine_not_ready here s h =
      cond_both s.ready _ _ (λ made. All Fine made)
      (λ _. All-nil Fine)
      (λ _. one _ (fine_flow A (modulus_at here terms) identifier small false (received_number s) (is_received_number here (modulus_at (far here) terms) s h)))

  fine_indicating : (here : End) (cause diagnostic : ℕ) (s : Direction A) → All Fine (indicating here cause diagnostic s)
  fine_indicating here cause diagnostic s =
      cond_both s.owes _ _ (λ made. All Fine made)
      (λ _. All-nil Fine)
      (λ _. one _ (none_holds _ _ _ _ refl small refl refl))

  module _ (here : End) (s r : Direction A) (hs : FitsSent here s) (hr : FitsReceived here r) where
    abbrev mine : Modulus
    mine = modulus_at here terms

    abbrev theirs : Modulus
    theirs = modulus_at (far here) terms

    fits_unchanged : TurnFits here (unchanged s r)
    fits_unchanged = record { sent = hs; received = hr; moves = All-nil Fine }

    fits_failing : (diagnostic : ℕ) → TurnFits here (failing here diagnostic s r)
    fits_failing diagnostic = record {
      sent = fits_emptied mine theirs true s hs;
      received = fits_emptied theirs mine true r hr;
      moves = All-cons Fine _ _ (none_holds _ _ _ _ refl small refl refl) (fine_indicating here REMOTE_PROCEDURE_ERROR diagnostic s);
    }

    fits_resetting : (cause diagnostic : ℕ) → TurnFits here (resetting here cause diagnostic s r)
    fits_resetting cause diagnostic = record {
      sent = fits_emptied mine theirs true s hs;
      received = fits_emptied theirs mine false r hr;
      moves = All-cons Fine _ _ (none_holds _ _ _ _ refl small refl refl) (fine_indicating here (indicated_cause cause) diagnostic s);
    }

    fits_acknowledging : (ready : Bool) (count : ℕ) → TurnFits here (acknowledging here ready count s r)
    fits_acknowledging ready count =
        let less = acknowledged_to ready count r in
        let fit : FitsReceived here less = fits_acknowledged theirs mine ready count r hr in
        record {
          sent = hs;
          received = fits_release theirs mine less fit;
          moves =
              All-append Fine (released here (received_number s) less) (flow_notice here (is_news ready count r) s less)
              (fine_released here theirs (received_number s) less (is_received_number here theirs s hs) fit)
              (fine_notice here (is_news ready count r) s less fit);
        }

    fits_accepting : (x : Data A) (count : ℕ) → DataFits x → TurnFits here (accepting here x count s r)
    fits_accepting x count h =
        let more = with_data x s in
        let less = acknowledged_to r.ready count r in
        let changed = not (count == r.acknowledged) && not (is_open s) in
        let fit_more : FitsSent here more = record { by_sender = hs.by_sender; by_receiver = hs.by_receiver; accepted = All-push DataFits s.accepted x hs.accepted h; interrupt = hs.interrupt } in
        let fit_less : FitsReceived here less = fits_acknowledged theirs mine r.ready count r hr in
        record {
          sent = fits_release mine theirs more fit_more;
          received = fit_less;
          moves =
              All-append Fine (released (far here) (received_number less) more) (flow_notice here changed s less)
              (fine_released (far here) mine (received_number less) more (is_received_number (far here) mine less fit_less) fit_more)
              (fine_notice here changed s less fit_less);
        }

    fits_settling : TurnFits here (settling here s r)
    fits_settling =
        let fit : FitsReceived here (settled r) = record { by_sender = hr.by_sender; by_receiver = hr.by_receiver; accepted = hr.accepted; interrupt = none_waits r.interrupt } in
        let first = not_ready_notice here s in
        let second : List (Move A) = interrupts here (held_interrupt r.interrupt) in
        record {
          sent = hs;
          received = fits_release theirs mine (settled r) fit;
          moves =
              All-append Fine (first ++ second) (released here (received_number s) (settled r))
              (All-append Fine first second (fine_not_ready here s hs) (fine_interrupts here (held_interrupt r.interrupt) hr.interrupt))
              (fine_released here theirs (received_number s) (settled r) (is_received_number here theirs s hs) fit);
        }

    fits_data_as : (x : Data A) (judged : Judged) (count : Option ℕ) → DataFits x → TurnFits here (data_as here x judged count s r)
    fits_data_as x Discard count h = fits_unchanged
    fits_data_as x (ResetWith diagnostic) count h = fits_failing diagnostic
    fits_data_as x Accept None h = fits_unchanged
    fits_data_as x Accept (Some count) h = fits_accepting x count h

    fits_flow_as : (ready : Bool) (count : Option ℕ) → TurnFits here (flow_as here ready count s r)
    fits_flow_as ready None = fits_failing INVALID_RECEIVE_NUMBER
    fits_flow_as ready (Some count) = fits_acknowledging ready count

    fits_flow : (ready : Bool) (pr : ℕ) → TurnFits here (flow here ready pr s r)
    fits_flow ready pr = fits_either here r.owes _ _ fits_unchanged (fits_flow_as ready (acknowledged_count pr r))

    fits_interrupting : (octets : List ℕ) → InterruptFits (Some octets) → TurnFits here (interrupting here octets s r)
    fits_interrupting octets h = record {
      sent = record {
        by_sender = hs.by_sender;
        by_receiver = hs.by_receiver;
        accepted = hs.accepted;
        interrupt = cond_both s.owes (Held octets) PutOut (λ interrupt. InterruptFits (held_interrupt interrupt)) (λ _. h) (λ _. tt);
      };
      received = hr;
      moves = fine_interrupts (far here) (cond s.owes None (Some octets)) (cond_both s.owes None (Some octets) (λ goes. InterruptFits goes) (λ _. tt) (λ _. h));
    }

    fits_turn : (packet : Packet A) (came : ℕ) → CanBeEncoded Long came packet → TurnFits here (turn_of here packet s r)
    fits_turn (DataPacket q d more ps pr octets) came fit =
        let x : Data A = record { q = q; d = d; more = more; octets = octets } in
        fits_data_as x (judgement ps pr (length octets) s r) (acknowledged_count pr r) (record { most = data_came A came ps pr q d more octets fit })
    fits_turn (Ready pr) came fit = fits_flow true pr
    fits_turn (NotReady pr) came fit = fits_flow false pr
    fits_turn (Reject pr) came fit = fits_either here r.owes _ _ fits_unchanged (fits_failing REJECT_NOT_SUBSCRIBED)
    fits_turn (Interrupt octets) came fit =
        fits_either here r.owes _ _ fits_unchanged
        (fits_either here (is_idle s.interrupt) _ _ (fits_interrupting octets (interrupt_came A came octets fit)) (fits_failing UNAUTHORIZED_INTERRUPT))
    fits_turn InterruptConfirm came fit =
        fits_either here r.owes _ _ fits_unchanged
        (fits_either here (is_put_out r.interrupt) _ _
        (record {
          sent = hs;
          received = record { by_sender = hr.by_sender; by_receiver = hr.by_receiver; accepted = hr.accepted; interrupt = tt };
          moves = one _ (none_holds _ _ _ _ refl small refl refl);
        })
        (fits_failing UNAUTHORIZED_INTERRUPT_CONFIRMATION))
    fits_turn (Reset cause diagnostic) came fit = fits_either here r.owes _ _ fits_settling (fits_resetting cause (indicated_diagnostic diagnostic))
    fits_turn ResetConfirm came fit = fits_either here r.owes _ _ fits_settling (fits_failing INVALID_IN_D1)
    fits_turn _ came fit = fits_unchanged

-- ---- runs

module _ {A : Type 0} (terms : Terms) where
  record CallFits (call : Coupled A) : Type 0 where
    from_caller : Fits terms.caller terms.called call.from_caller
    from_called : Fits terms.called terms.caller call.from_called

  fits_after : (here : End) (packet : Packet A) (came : ℕ) → CanBeEncoded Long came packet → (call : Coupled A) → CallFits call → CallFits (after here (turn_on call (record { here = here; packet = packet })))
  fits_after Caller packet came fit call h =
      let turn = fits_turn terms 0 refl Caller call.from_caller call.from_called h.from_caller h.from_called packet came fit in
      record { from_caller = turn.sent; from_called = turn.received }
  fits_after Called packet came fit call h =
      let turn = fits_turn terms 0 refl Called call.from_called call.from_caller h.from_called h.from_caller packet came fit in
      record { from_caller = turn.received; from_called = turn.sent }

  fits_over : (call : Coupled A) (arrivals : List (Arrival A)) → All CameEncoded arrivals → CallFits call → CallFits (run call arrivals)
  fits_over call [] came h = h
  fits_over call (arrival ∷ rest) came h =
      let first = All-head CameEncoded arrival rest came in
      fits_over (after arrival.here (turn_on call arrival)) rest (All-tail CameEncoded arrival rest came)
      (fits_after arrival.here arrival.packet first.0 first.1 call h)

  fits_coupled : CallFits (coupled terms)
  fits_coupled = record {
    from_caller = record { by_sender = refl; by_receiver = refl; accepted = All-nil DataFits; interrupt = tt };
    from_called = record { by_sender = refl; by_receiver = refl; accepted = All-nil DataFits; interrupt = tt };
  }

  fine_at : (identifier : ℕ) → ltb 4095 identifier ≡ false → (here : End) (packet : Packet A) (came : ℕ) → CanBeEncoded Long came packet → (call : Coupled A) → CallFits call
      → All (λ move. CanBeEncoded (modulus_at move.side terms) identifier move.packet) (turn_on call (record { here = here; packet = packet })).moves
  fine_at identifier small Caller packet came fit call h =
      (fits_turn terms identifier small Caller call.from_caller call.from_called h.from_caller h.from_called packet came fit).moves
  fine_at identifier small Called packet came fit call h =
      (fits_turn terms identifier small Called call.from_called call.from_caller h.from_called h.from_caller packet came fit).moves

  pub puts_out_encodable : (arrivals : List (Arrival A)) (arrival : Arrival A) → All CameEncoded arrivals → CameEncoded arrival → (identifier : ℕ) → identifier ≤ 4095
      → All (λ move. CanBeEncoded (modulus_at move.side terms) identifier move.packet) (turn_on (run (coupled terms) arrivals) arrival).moves
  puts_out_encodable arrivals arrival came last identifier small =
      fine_at identifier (le-ltb 4095 identifier small) arrival.here arrival.packet last.0 last.1 (run (coupled terms) arrivals) (fits_over (coupled terms) arrivals came fits_coupled)
