-- What each turn does to both directions: the packets that they accept, and the packets that their receivers get.
use Rattle.std.proofs.Common.{◌≡◌, ℕ, suc, zero, ◌+◌, ◌-◌, ◌%◌, ◌<◌, ◌≤◌, Bool, true, false, not, ◌&&◌, ◌==◌, List, [], ◌∷◌, ◌++◌, length, take, Option, Some, None, refl, sym, ap, ◌∙◌, inl, inr, arith}
use Rattle.std.proofs.lemmas.Bool.{cases_Bool, cond-true, cond-false}
use Rattle.std.proofs.lemmas.List.{append-nil, length-append, take-append-le}
use Rattle.xp_causes.specs.Indicated.{indicated_cause}
use Rattle.xp_causes.specs.declared.resetting_cause.TheConstants.{REMOTE_PROCEDURE_ERROR}
use Rattle.xp_packets.specs.Numbers.{numbers}
use Rattle.xp_packets.specs.declared.end.End.{End}
use Rattle.xp_relay.specs.declared.data.Data.{Data}
use Rattle.xp_relay.specs.declared.data.Interruption.{Interruption}
use Rattle.xp_relay.specs.declared.moves.Move.{Move}
use Rattle.xp_relay.specs.Direction.{Direction, IsSound, far, first_count, is_open, received_number, released, acknowledged_count}
use Rattle.xp_relay.specs.Contents.{data_to, resets, with_numbers}
use Rattle.xp_relay.specs.Turns.{accepting, acknowledged_to, acknowledging, failing, is_news, held_interrupt, interrupts, resetting, settled, settling, flow_notice, not_ready_notice, unchanged, with_data}
use Rattle.xp_relay.proofs.Runs.{IsQuiet, data_to-append, no_data_indicated, far_is_other, other_is_far, others-released, quiet-append, quiet_none, quiet_not_ready, quiet_telling, resets-append, resets-released}
use Rattle.xp_relay.proofs.Steps.{TakesOn, goes_empty, goes_release, goes_still}

-- a number stands for a count in the range that is searched
pub first_count-range : (modulus number count most c : ℕ) → first_count modulus number count most ≡ Some c → (count ≤ c) × (c ≤ count + most)
first_count-range modulus number count zero c e =
    elim (cases_Bool (count % modulus == number)) [
      | inl found ↦
          let same : Some count ≡ Some c = sym (cond-true (count % modulus == number) (Some count) None found) ∙ e in
          let equal : count ≡ c = cc in
          (omega arith, omega arith)
      | inr other ↦
          let never : None ≡ Some c = sym (cond-false (count % modulus == number) (Some count) None other) ∙ e in
          cc
    ]
first_count-range modulus number count (suc most) c e =
    elim (cases_Bool (count % modulus == number)) [
      | inl found ↦
          let same : Some count ≡ Some c = sym (cond-true (count % modulus == number) (Some count) (first_count modulus number (suc count) most) found) ∙ e in
          let equal : count ≡ c = cc in
          (omega arith, omega arith)
      | inr other ↦
          let rest = first_count-range modulus number (suc count) most c (sym (cond-false (count % modulus == number) (Some count) (first_count modulus number (suc count) most) other) ∙ e) in
          (omega (arith, rest.0), omega (arith, rest.1))
    ]

module _ {A : Type 0} where
  -- the count that a P(R) stands for was sent, and was not acknowledged before
  pub acknowledged_range : (d : Direction A) (number c : ℕ) → IsSound d → acknowledged_count number d ≡ Some c → (d.acknowledged ≤ c) × (c ≤ d.put)
  acknowledged_range d number c h e =
      let range = first_count-range (numbers d.terms.receiver) number d.acknowledged (d.put - d.acknowledged) c e in
      (range.0, omega (arith, range.1, h.acknowledged))

  pub takes_unchanged : (s r : Direction A) (here : End) → IsSound s → IsSound r → TakesOn s r here [] (unchanged s r)
  takes_unchanged s r here hs hr = record {
    sent = goes_still s s (far here) [] refl hs refl refl refl refl;
    received = goes_still r r here [] refl hr refl refl refl refl;
  }

  pub takes_failing : (s r : Direction A) (here : End) (diagnostic : ℕ) (new : List (Data A)) → IsSound s → IsSound r → TakesOn s r here new (failing here diagnostic s r)
  takes_failing s r here diagnostic new hs hr = record {
    sent = goes_empty true s (far here) new (failing here diagnostic s r).moves hs refl (no_data_indicated (far here) here REMOTE_PROCEDURE_ERROR diagnostic s);
    received = goes_empty true r here [] (failing here diagnostic s r).moves hr refl (no_data_indicated here here REMOTE_PROCEDURE_ERROR diagnostic s);
  }

  pub takes_resetting : (s r : Direction A) (here : End) (cause diagnostic : ℕ) → IsSound s → IsSound r → TakesOn s r here [] (resetting here cause diagnostic s r)
  takes_resetting s r here cause diagnostic hs hr = record {
    sent = goes_empty true s (far here) [] (resetting here cause diagnostic s r).moves hs refl (no_data_indicated (far here) here (indicated_cause cause) diagnostic s);
    received = goes_empty false r here [] (resetting here cause diagnostic s r).moves hr refl (no_data_indicated here here (indicated_cause cause) diagnostic s);
  }

  -- what is released to one end, before and after quiet moves
  pub after_release : (side : End) (pr : ℕ) (d : Direction A) (quiet : List (Move A)) → IsQuiet quiet → (resets (released side pr d ++ quiet) ≡ false) × ((e : End) → data_to e (released side pr d ++ quiet) ≡ data_to e (released side pr d))
  after_release side pr d quiet h =
      (resets-append (released side pr d) quiet (resets-released side pr d) h.unreset, λ e. data_to-append e (released side pr d) quiet ∙ rw (h.none e) (append-nil (data_to e (released side pr d))))

  pub before_release : (side : End) (pr : ℕ) (d : Direction A) (quiet : List (Move A)) → IsQuiet quiet → (resets (quiet ++ released side pr d) ≡ false) × ((e : End) → data_to e (quiet ++ released side pr d) ≡ data_to e (released side pr d))
  before_release side pr d quiet h =
      (resets-append quiet (released side pr d) h.unreset (resets-released side pr d), λ e. data_to-append e quiet (released side pr d) ∙ rw (h.none e) refl)

  sound_acknowledged : (ready : Bool) (count : ℕ) (d : Direction A) → IsSound d → (d.acknowledged ≤ count) × (count ≤ d.put) → IsSound (acknowledged_to ready count d)
  sound_acknowledged ready count d h range = record {
    terms = h.terms;
    acknowledged = range.1;
    put = h.put;
    window = omega (arith, h.window, range.0);
  }

  pub takes_acknowledging : (s r : Direction A) (here : End) (ready : Bool) (count : ℕ) → IsSound s → IsSound r → (r.acknowledged ≤ count) × (count ≤ r.put) → TakesOn s r here [] (acknowledging here ready count s r)
  takes_acknowledging s r here ready count hs hr range =
      let less = acknowledged_to ready count r in
      let quiet = quiet_telling here (is_news ready count r) s less in
      let out = after_release here (received_number s) less (flow_notice here (is_news ready count r) s less) quiet in
      let made = (acknowledging here ready count s r).moves in
      record {
        sent = goes_still s s (far here) made refl hs refl refl out.0 (out.1 (far here) ∙ others-released (far here) here (received_number s) less (other_is_far here));
        received = goes_release r less here (received_number s) [] made refl (sound_acknowledged ready count r hr range) (sym (append-nil r.accepted)) refl out.0 (out.1 here);
      }

  -- what was sent stays a front of what was accepted, with one more packet
  with_data-front : (packet : Data A) (d : Direction A) → IsSound d → take d.put (d.accepted ++ packet ∷ []) ≡ take d.put d.accepted
  with_data-front packet d h = let within : d.put ≤ length d.accepted = h.put in rw take-append-le refl

  pub takes_accepting : (s r : Direction A) (here : End) (packet : Data A) (count : ℕ) → IsSound s → IsSound r → (r.acknowledged ≤ count) × (count ≤ r.put) → length s.accepted < s.acknowledged + s.terms.window → TakesOn s r here (packet ∷ []) (accepting here packet count s r)
  takes_accepting s r here packet count hs hr range room =
      let more = with_data packet s in
      let less = acknowledged_to r.ready count r in
      let changed = not (count == r.acknowledged) && not (is_open s) in
      let quiet = quiet_telling here changed s less in
      let out = after_release (far here) (received_number less) more (flow_notice here changed s less) quiet in
      let made = (accepting here packet count s r).moves in
      let sound : IsSound more = record { terms = hs.terms; acknowledged = hs.acknowledged; put = omega (arith, hs.put, length-append s.accepted (packet ∷ [])); window = omega (arith, length-append s.accepted (packet ∷ [])) } in
      record {
        sent = goes_release s more (far here) (received_number less) (packet ∷ []) made refl sound refl (ap (λ xs. with_numbers (numbers s.terms.receiver) 0 xs) (with_data-front packet s hs)) out.0 (out.1 (far here));
        received = goes_still r less here made refl (sound_acknowledged r.ready count r hr range) refl refl out.0 (out.1 here ∙ others-released here (far here) (received_number less) more (far_is_other here));
      }

  -- a turn that changes only interrupts, with quiet moves
  pub takes_quiet : (s r : Direction A) (here : End) (there back : Interruption A) (made : List (Move A)) → IsSound s → IsSound r → IsQuiet made → TakesOn s r here [] (record { sent = record s { interrupt = there }; received = record r { interrupt = back }; moves = made })
  takes_quiet s r here there back made hs hr quiet = record {
    sent = goes_still s (record s { interrupt = there }) (far here) made refl (record { terms = hs.terms; acknowledged = hs.acknowledged; put = hs.put; window = hs.window }) refl refl quiet.unreset (quiet.none (far here));
    received = goes_still r (record r { interrupt = back }) here made refl (record { terms = hr.terms; acknowledged = hr.acknowledged; put = hr.put; window = hr.window }) refl refl quiet.unreset (quiet.none here);
  }

  pub quiet_interrupts : (side : End) (octets : Option (List ℕ)) → IsQuiet (interrupts {A = A} side octets)
  quiet_interrupts side None = quiet_none
  quiet_interrupts side (Some octets) = record { unreset = refl; none = λ e. refl }

  pub takes_settling : (s r : Direction A) (here : End) → IsSound s → IsSound r → TakesOn s r here [] (settling here s r)
  takes_settling s r here hs hr =
      let back = settled r in
      let first = not_ready_notice here s ++ interrupts here (held_interrupt r.interrupt) in
      let quiet = quiet-append (not_ready_notice here s) (interrupts here (held_interrupt r.interrupt)) (quiet_not_ready here s) (quiet_interrupts here (held_interrupt r.interrupt)) in
      let out = before_release here (received_number s) back first quiet in
      let made = (settling here s r).moves in
      let sound : IsSound back = record { terms = hr.terms; acknowledged = hr.acknowledged; put = hr.put; window = hr.window } in
      record {
        sent = goes_still s s (far here) made refl hs refl refl out.0 (out.1 (far here) ∙ others-released (far here) here (received_number s) back (other_is_far here));
        received = goes_release r back here (received_number s) [] made refl sound (sym (append-nil r.accepted)) refl out.0 (out.1 here);
      }
