-- What each turn tells both ends of flow control, and the interrupts that they get.
use Rattle.std.proofs.Common.{◌≡◌, ℕ, ◌%◌, Bool, true, false, not, ◌&&◌, ◌==◌, cond, List, [], ◌∷◌, ◌++◌, append-nil, All, length, drop, option_to_list, Some, None, refl, sym, ap, subst, ◌∙◌, inl, inr, arith}
use Rattle.std.proofs.lemmas.Bool.{and_right, cases_Bool, cond_both, cond-true, cond-false, eqb-true, not_from_false, not_from_true, or_left, or_parts}
use Rattle.std.proofs.lemmas.List.{length-append, length-drop}
use Rattle.std.proofs.lemmas.List.Elements.{All-append, All-nil, All-same}
use Rattle.xp_causes.specs.declared.resetting_cause.TheConstants.{LOCAL_PROCEDURE_ERROR, REMOTE_PROCEDURE_ERROR}
use Rattle.xp_causes.specs.Indicated.{indicated_cause}
use Rattle.xp_packets.specs.Numbers.{numbers}
use Rattle.xp_packets.specs.declared.end.End.{End}
use Rattle.xp_packets.specs.declared.packet.Packet.TheVariants.{InterruptConfirm, ResetConfirm}
use Rattle.xp_relay.specs.declared.data.Data.{Data}
use Rattle.xp_relay.specs.declared.data.Interruption.{Interruption}
use Rattle.xp_relay.specs.declared.data.Interruption.TheVariants.{Idle, Held, PutOut}
use Rattle.xp_relay.specs.declared.moves.Move.{Move}
use Rattle.xp_relay.specs.Contents.{interrupts_to, numbers_to, ready_told, resets}
use Rattle.xp_relay.specs.Direction.{Direction, IsSound, emptied, far, is_open, numbered, put_all, received_number, release, released, to}
use Rattle.xp_relay.specs.Turns.{Turn, accepting, acknowledged_to, acknowledging, differs, failing, flow_notice, flow_packet, held_interrupt, indicating, indication, interrupting, interrupts, is_idle, is_news, is_put_out, not_ready_notice, put_out, resetting, settled, settling, unchanged, with_data}
use Rattle.xp_relay.proofs.Owing.{release-owes}
use Rattle.xp_relay.proofs.Readiness.{release-ready}
use Rattle.xp_relay.proofs.Runs.{far_is_other, other_is_far, quiet-append, quiet_not_ready, quiet_telling}
use Rattle.xp_relay.proofs.Takes.{after_release, before_release, quiet_interrupts}
use Rattle.xp_relay.proofs.Tellings.{IsSilent, append_none, interrupts_here, interrupts_to-append, notice_given, numbered_tells, numbers_flow, numbers_to-append, ready_flow, ready_interrupting, ready_not_ready, ready_released, ready_told-append, silent-append, silent_indicating, silent_interrupts, silent_none, silent_not_ready, silent_notice, silent_released, tells-append, tells_interrupting, tells_not_ready, tells_notice, tells_released}

same_ready : (a b : Bool) → differs a b ≡ false → b ≡ a
same_ready true true e = refl
same_ready false false e = refl
same_ready true false e = absurd (cc)
same_ready false true e = absurd (cc)

cond_true : (b : Bool) → true ≡ cond b true true
cond_true true = refl
cond_true false = refl

-- an interrupt goes out or waits
goes_or_waits : (A : Type 0) (here : End) (octets : List ℕ) (owes : Bool)
    → octets ∷ [] ≡ interrupts_to (far here) (interrupts {A = A} (far here) (cond owes None (Some octets))) ++ option_to_list (held_interrupt {A = A} (cond owes (Held octets) PutOut))
goes_or_waits A here octets true = refl
goes_or_waits A here octets false = ap (λ is. is ++ []) (sym (interrupts_here A (far here) (Some octets)))

waits_owing : (A : Type 0) (octets : List ℕ) (owes : Bool) → owes ≡ false → option_to_list (held_interrupt {A = A} (cond owes (Held octets) PutOut)) ≡ []
waits_owing A octets true e = absurd (cc)
waits_owing A octets false e = refl

module _ {A : Type 0} where
  -- the octets of the interrupt that waits
  abbrev pub waiting : Direction A → List (List ℕ)
  waiting d = option_to_list (held_interrupt d.interrupt)

  -- A direction before and after moves. Its sender owed a reset confirmation or none, and now owes one or none; its
  -- receiver acknowledged packets up to a count, and its sender sent interrupts.
  pub record GoesAlong (d next : Direction A) (sender receiver : End) (owed owes : Bool) (count : ℕ) (new : List (List ℕ)) (made : List (Move A)) : Type 0 where
    pub acknowledged : next.acknowledged ≡ cond (resets made) 0 count
    pub numbered : All (λ n. n ≡ next.acknowledged % numbers d.terms.sender) (numbers_to sender made)
    pub informed : owed ≡ false → numbers_to sender made ≡ [] → next.acknowledged ≡ cond (resets made) 0 d.acknowledged
    pub ready : ready_told sender made (cond (resets made) true (cond owed true d.ready)) ≡ cond owes true next.ready
    pub interrupts : cond (resets made) [] (waiting d ++ new) ≡ interrupts_to receiver made ++ waiting next
    pub held : (d.owes ≡ false → waiting d ≡ []) → next.owes ≡ false → waiting next ≡ []

  -- both directions before and after a turn
  pub record BothGoAlong (here : End) (s r : Direction A) (count : ℕ) (new : List (List ℕ)) (turn : Turn A) : Type 0 where
    pub sent : GoesAlong s turn.sent here (far here) r.owes turn.received.owes s.acknowledged new turn.moves
    pub received : GoesAlong r turn.received (far here) here s.owes turn.sent.owes count [] turn.moves

  -- ---- turns that reset the call

  along_emptied : (d : Direction A) (empty : Bool) (sender receiver : End) (owed owes : Bool) (count : ℕ) (new : List (List ℕ)) (made : List (Move A)) → resets made ≡ true → ((e : End) → IsSilent e made)
      → GoesAlong d (emptied empty d) sender receiver owed owes count new made
  along_emptied d empty sender receiver owed owes count new made reset silent = record {
    acknowledged = sym (cond-true (resets made) 0 count reset);
    numbered = All-same (λ n. n ≡ 0 % numbers d.terms.sender) (numbers_to sender made) [] (silent sender).untold (All-nil (λ n. n ≡ 0 % numbers d.terms.sender));
    informed = λ free none. sym (cond-true (resets made) 0 d.acknowledged reset);
    ready = (silent sender).ready (cond (resets made) true (cond owed true d.ready)) ∙ cond-true (resets made) true (cond owed true d.ready) reset ∙ cond_true owes;
    interrupts = cond-true (resets made) [] (waiting d ++ new) reset ∙ ap (λ is. is ++ []) (sym (silent receiver).interrupts);
    held = λ was free. refl;
  }

  silent_failing : (here : End) (s r : Direction A) (diagnostic : ℕ) (e : End) → IsSilent e (failing here diagnostic s r).moves
  silent_failing here s r diagnostic e =
      silent-append e (indication here LOCAL_PROCEDURE_ERROR diagnostic ∷ []) (indicating here REMOTE_PROCEDURE_ERROR diagnostic s)
      (record { untold = refl; ready = λ b. refl; interrupts = refl }) (silent_indicating e here REMOTE_PROCEDURE_ERROR diagnostic s)

  pub along_failing : (here : End) (s r : Direction A) (diagnostic count : ℕ) (new : List (List ℕ)) → BothGoAlong here s r count new (failing here diagnostic s r)
  along_failing here s r diagnostic count new = record {
    sent = along_emptied s true here (far here) r.owes true s.acknowledged new (failing here diagnostic s r).moves refl (silent_failing here s r diagnostic);
    received = along_emptied r true (far here) here s.owes true count [] (failing here diagnostic s r).moves refl (silent_failing here s r diagnostic);
  }

  silent_resetting : (here : End) (s r : Direction A) (cause diagnostic : ℕ) (e : End) → IsSilent e (resetting here cause diagnostic s r).moves
  silent_resetting here s r cause diagnostic e =
      silent-append e (to here ResetConfirm ∷ []) (indicating here (indicated_cause cause) diagnostic s)
      (record { untold = refl; ready = λ b. refl; interrupts = refl }) (silent_indicating e here (indicated_cause cause) diagnostic s)

  pub along_resetting : (here : End) (s r : Direction A) (cause diagnostic count : ℕ) → BothGoAlong here s r count [] (resetting here cause diagnostic s r)
  along_resetting here s r cause diagnostic count = record {
    sent = along_emptied s true here (far here) r.owes false s.acknowledged [] (resetting here cause diagnostic s r).moves refl (silent_resetting here s r cause diagnostic);
    received = along_emptied r false (far here) here s.owes true count [] (resetting here cause diagnostic s r).moves refl (silent_resetting here s r cause diagnostic);
  }

  -- ---- turns without a reset

  along_on : (d next : Direction A) (sender receiver : End) (owed owes : Bool) (count : ℕ) (new : List (List ℕ)) (made : List (Move A)) → resets made ≡ false
      → next.acknowledged ≡ count
      → All (λ n. n ≡ count % numbers d.terms.sender) (numbers_to sender made)
      → (owed ≡ false → numbers_to sender made ≡ [] → count ≡ d.acknowledged)
      → ready_told sender made (cond owed true d.ready) ≡ cond owes true next.ready
      → waiting d ++ new ≡ interrupts_to receiver made ++ waiting next
      → ((d.owes ≡ false → waiting d ≡ []) → next.owes ≡ false → waiting next ≡ [])
      → GoesAlong d next sender receiver owed owes count new made
  along_on d next sender receiver owed owes count new made unreset is numbered informed ready interrupts held = record {
    acknowledged = is ∙ sym (cond-false (resets made) 0 count unreset);
    numbered = subst (λ c. All (λ n. n ≡ c % numbers d.terms.sender) (numbers_to sender made)) (sym is) numbered;
    informed = λ free none. is ∙ informed free none ∙ sym (cond-false (resets made) 0 d.acknowledged unreset);
    ready = ap (ready_told sender made) (cond-false (resets made) true (cond owed true d.ready) unreset) ∙ ready;
    interrupts = cond-false (resets made) [] (waiting d ++ new) unreset ∙ interrupts;
    held = held;
  }

  -- the sender is told nothing, and nothing changed for it
  along_silent : (d next : Direction A) (sender receiver : End) (owed owes : Bool) (new : List (List ℕ)) (made : List (Move A)) → resets made ≡ false
      → next.acknowledged ≡ d.acknowledged → next.ready ≡ d.ready → owes ≡ owed → IsSilent sender made
      → waiting d ++ new ≡ interrupts_to receiver made ++ waiting next
      → ((d.owes ≡ false → waiting d ≡ []) → next.owes ≡ false → waiting next ≡ [])
      → GoesAlong d next sender receiver owed owes d.acknowledged new made
  along_silent d next sender receiver owed owes new made unreset count ready same silent interrupts held =
      let P : ℕ → Type 0 = λ n. n ≡ d.acknowledged % numbers d.terms.sender in
      along_on d next sender receiver owed owes d.acknowledged new made unreset count
      (All-same P (numbers_to sender made) [] silent.untold (All-nil P))
      (λ free none. refl)
      (silent.ready (cond owed true d.ready) ∙ ap (λ b. cond b true d.ready) (sym same) ∙ ap (λ b. cond owes true b) (sym ready))
      interrupts held

  pub along_unchanged : (here : End) (s r : Direction A) → BothGoAlong here s r r.acknowledged [] (unchanged s r)
  along_unchanged here s r = record {
    sent = along_silent s s here (far here) r.owes r.owes [] [] refl refl refl refl (silent_none here) (append-nil (waiting s)) (λ was. was);
    received = along_silent r r (far here) here s.owes s.owes [] [] refl refl refl refl (silent_none (far here)) (append-nil (waiting r)) (λ was. was);
  }

  release-acknowledged : (d : Direction A) → (release d).acknowledged ≡ d.acknowledged
  release-acknowledged d = cond_both (is_open d) (put_all d) d (λ x. x.acknowledged ≡ d.acknowledged) (λ _. refl) (λ _. refl)

  release-waiting : (d : Direction A) → waiting (release d) ≡ waiting d
  release-waiting d = cond_both (is_open d) (put_all d) d (λ x. waiting x ≡ waiting d) (λ _. refl) (λ _. refl)

  release-held : (d : Direction A) → (d.owes ≡ false → waiting d ≡ []) → (release d).owes ≡ false → waiting (release d) ≡ []
  release-held d was = cond_both (is_open d) (put_all d) d (λ x. x.owes ≡ false → waiting x ≡ []) (λ _. was) (λ _. was)

  -- no interrupts in these moves
  unheard : (receiver : End) (d next : Direction A) (made : List (Move A)) → interrupts_to receiver made ≡ [] → waiting next ≡ waiting d
      → waiting d ++ [] ≡ interrupts_to receiver made ++ waiting next
  unheard receiver d next made none same = append-nil (waiting d) ∙ sym same ∙ ap (λ is. is ++ waiting next) (sym none)

  -- a far end that owes no reset confirmation is told whether this end is ready
  notice_ready : (here : End) (changed : Bool) (s less : Direction A) (before : Bool) → (changed ≡ false → before ≡ less.ready)
      → ready_told (far here) (flow_notice here changed s less) (cond s.owes true before) ≡ cond s.owes true less.ready
  notice_ready here changed s less before same =
      let packet : List (Move A) = to (far here) (flow_packet less.ready (received_number less)) ∷ [] in
      elim (cases_Bool s.owes) [
        | inl owes ↦
            ap (λ made. ready_told (far here) made (cond s.owes true before)) (cond-false (changed && not s.owes) packet [] (and_right changed (not s.owes) (not_from_true s.owes owes)))
            ∙ cond-true s.owes true before owes ∙ sym (cond-true s.owes true less.ready owes)
        | inr free ↦ elim (cases_Bool changed) [
          | inl news ↦
              ap (λ made. ready_told (far here) made (cond s.owes true before)) (notice_given here changed s less news free)
              ∙ ready_flow A (far here) less.ready (received_number less) (cond s.owes true before)
              ∙ sym (cond-false s.owes true less.ready free)
          | inr still ↦
              ap (λ made. ready_told (far here) made (cond s.owes true before)) (cond-false (changed && not s.owes) packet [] (ap (λ b. b && not s.owes) still))
              ∙ cond-false s.owes true before free ∙ same still ∙ sym (cond-false s.owes true less.ready free)
        ]
      ]

  -- a notice has a P(R)
  notice_none : (here : End) (changed : Bool) (s less : Direction A) → s.owes ≡ false → numbers_to (far here) (flow_notice here changed s less) ≡ [] → changed ≡ true → ⊥
  notice_none here changed s less free none news =
      let one : received_number less ∷ [] ≡ [] =
      sym (ap (numbers_to (far here)) (notice_given here changed s less news free) ∙ numbers_flow A (far here) less.ready (received_number less)) ∙ none in
      absurd (cc)

  pub along_acknowledging : (here : End) (s r : Direction A) (ready : Bool) (count : ℕ) → BothGoAlong here s r count [] (acknowledging here ready count s r)
  along_acknowledging here s r ready count =
      let less = acknowledged_to ready count r in
      let news = is_news ready count r in
      let out = released here (received_number s) less in
      let notice = flow_notice here news s less in
      let made = (acknowledging here ready count s r).moves in
      let unreset = (after_release here (received_number s) less notice (quiet_telling here news s less)).0 in
      let quiet_here = silent_notice here here news s less (far_is_other here) in
      let quiet_far = silent_released (far here) here (received_number s) less (other_is_far here) in
      let own = tells_released here here (received_number s) less in
      let theirs = tells_notice (far here) here news s less in
      let N : ℕ → Type 0 = λ n. n ≡ count % numbers r.terms.sender in
      let K : ℕ → Type 0 = λ n. n ≡ s.acknowledged % numbers s.terms.sender in
      let told : All K (numbers_to here made) =
      All-same K (numbers_to here made) (numbers_to here out ++ numbers_to here notice) (numbers_to-append here out notice)
      (All-append K (numbers_to here out) (numbers_to here notice) own.told (All-same K (numbers_to here notice) [] quiet_here.untold (All-nil K))) in
      let told_far : All N (numbers_to (far here) made) =
      All-same N (numbers_to (far here) made) (numbers_to (far here) out ++ numbers_to (far here) notice) (numbers_to-append (far here) out notice)
      (All-append N (numbers_to (far here) out) (numbers_to (far here) notice) (All-same N (numbers_to (far here) out) [] quiet_far.untold (All-nil N)) theirs.told) in
      let none : (side : End) → interrupts_to side made ≡ [] =
      λ side. interrupts_to-append side out notice ∙ ap (λ is. is ++ interrupts_to side notice) (own.interrupts side) ∙ theirs.interrupts side in
      record {
        sent = along_on s s here (far here) r.owes (release less).owes s.acknowledged [] made unreset refl told (λ free empty. refl)
            (ready_told-append here out notice (cond r.owes true s.ready) ∙ quiet_here.ready (ready_told here out (cond r.owes true s.ready))
            ∙ ready_released here here (received_number s) less (cond r.owes true s.ready) ∙ ap (λ b. cond b true s.ready) (sym (release-owes less)))
            (unheard (far here) s s made (none (far here)) refl) (λ was. was);
        received = along_on r (release less) (far here) here s.owes s.owes count [] made unreset (release-acknowledged less) told_far
            (λ free empty. elim (cases_Bool (count == r.acknowledged)) [
              | inl same ↦ eqb-true count r.acknowledged same
              | inr other ↦
                  let parts = append_none (numbers_to (far here) out) (numbers_to (far here) notice) (sym (numbers_to-append (far here) out notice) ∙ empty) in
                  absurd (notice_none here news s less free parts.1 (or_left (not (count == r.acknowledged)) (differs ready r.ready) (not_from_false (count == r.acknowledged) other)))
            ])
            (ready_told-append (far here) out notice (cond s.owes true r.ready)
            ∙ ap (ready_told (far here) notice) (quiet_far.ready (cond s.owes true r.ready))
            ∙ notice_ready here news s less r.ready (λ still. same_ready ready r.ready (or_parts (not (count == r.acknowledged)) (differs ready r.ready) still).1)
            ∙ ap (λ b. cond s.owes true b) (sym (release-ready less)))
            (unheard here r (release less) made (none here) (release-waiting less)) (release-held less);
      }

  -- data that is sent on tells the P(R)
  released_none : (here : End) (pr : ℕ) (packet : Data A) (s : Direction A) → IsSound s → is_open s ≡ true → numbers_to (far here) (released (far here) pr (with_data packet s)) ≡ [] → ⊥
  released_none here pr packet s sound opened none =
      let more = with_data packet s in
      let m = numbers s.terms.receiver in
      let rest = drop s.put (s.accepted ++ packet ∷ []) in
      let given : released (far here) pr more ≡ numbered (far here) m pr s.put rest = cond-true (is_open more) (numbered (far here) m pr s.put rest) [] opened in
      let empty : rest ≡ [] = numbered_tells (far here) m pr s.put rest (sym (ap (numbers_to (far here)) given) ∙ none) in
      omega (arith, ap length empty, length-drop s.put (s.accepted ++ packet ∷ []), length-append s.accepted (packet ∷ []), sound.put)

  pub along_accepting : (here : End) (s r : Direction A) (packet : Data A) (count : ℕ) → IsSound s → BothGoAlong here s r count [] (accepting here packet count s r)
  along_accepting here s r packet count sound =
      let more = with_data packet s in
      let less = acknowledged_to r.ready count r in
      let news = not (count == r.acknowledged) && not (is_open s) in
      let out = released (far here) (received_number less) more in
      let notice = flow_notice here news s less in
      let made = (accepting here packet count s r).moves in
      let unreset = (after_release (far here) (received_number less) more notice (quiet_telling here news s less)).0 in
      let quiet_here = silent-append here out notice (silent_released here (far here) (received_number less) more (far_is_other here)) (silent_notice here here news s less (far_is_other here)) in
      let both = tells-append (far here) (received_number less) out notice (tells_released (far here) (far here) (received_number less) more) (tells_notice (far here) here news s less) in
      record {
        sent = along_silent s (release more) here (far here) r.owes r.owes [] made unreset (release-acknowledged more) (release-ready more) refl quiet_here
            (unheard (far here) s (release more) made (both.interrupts (far here)) (release-waiting more)) (release-held more);
        received = along_on r less (far here) here s.owes (release more).owes count [] made unreset refl both.told
            (λ free empty. elim (cases_Bool (count == r.acknowledged)) [
              | inl same ↦ eqb-true count r.acknowledged same
              | inr other ↦
                  let parts = append_none (numbers_to (far here) out) (numbers_to (far here) notice) (sym (numbers_to-append (far here) out notice) ∙ empty) in
                  elim (cases_Bool (is_open s)) [
                    | inl opened ↦ absurd (released_none here (received_number less) packet s sound opened parts.0)
                    | inr closed ↦ absurd (notice_none here news s less free parts.1 (ap (λ b. not b && not (is_open s)) other ∙ ap not closed))
                  ]
            ])
            (ready_told-append (far here) out notice (cond s.owes true r.ready)
            ∙ ap (ready_told (far here) notice) (ready_released (far here) (far here) (received_number less) more (cond s.owes true r.ready))
            ∙ notice_ready here news s less r.ready (λ still. refl)
            ∙ ap (λ b. cond b true r.ready) (sym (release-owes more)))
            (unheard here r less made (both.interrupts here) refl) (λ was. was);
      }

  idle_waits : (interrupt : Interruption A) → is_idle interrupt ≡ true → held_interrupt interrupt ≡ None
  idle_waits Idle e = refl
  idle_waits (Held octets) e = absurd (cc)
  idle_waits PutOut e = absurd (cc)

  put_out_waits : (interrupt : Interruption A) → is_put_out interrupt ≡ true → held_interrupt interrupt ≡ None
  put_out_waits Idle e = absurd (cc)
  put_out_waits (Held octets) e = absurd (cc)
  put_out_waits PutOut e = refl

  none_waits : (interrupt : Interruption A) → held_interrupt (put_out interrupt) ≡ None
  none_waits Idle = refl
  none_waits (Held octets) = refl
  none_waits PutOut = refl

  pub along_interrupting : (here : End) (s r : Direction A) (octets : List ℕ) → is_idle s.interrupt ≡ true → BothGoAlong here s r r.acknowledged (octets ∷ []) (interrupting here octets s r)
  along_interrupting here s r octets idle =
      let made = (interrupting here octets s r).moves in
      let goes = cond s.owes None (Some octets) in
      let unreset = (quiet_interrupts (far here) goes).unreset in
      let quiet_here = silent_interrupts here (far here) goes (far_is_other here) in
      let P : ℕ → Type 0 = λ n. n ≡ r.acknowledged % numbers r.terms.sender in
      record {
        sent = along_silent s (interrupting here octets s r).sent here (far here) r.owes r.owes (octets ∷ []) made unreset refl refl refl quiet_here
            (ap (λ o. option_to_list o ++ octets ∷ []) (idle_waits s.interrupt idle) ∙ goes_or_waits A here octets s.owes) (λ was free. waits_owing A octets s.owes free);
        received = along_on r r (far here) here s.owes s.owes r.acknowledged [] made unreset refl
            (tells_interrupting A (far here) (far here) (received_number r) goes) (λ free empty. refl)
            (ready_interrupting A (far here) (far here) goes (cond s.owes true r.ready))
            (unheard here r r made quiet_here.interrupts refl) (λ was. was);
      }

  pub along_confirm : (here : End) (s r : Direction A) → is_put_out r.interrupt ≡ true
      → BothGoAlong here s r r.acknowledged [] (record { sent = s; received = record r { interrupt = Idle }; moves = to (far here) InterruptConfirm ∷ [] })
  along_confirm here s r given =
      let made : List (Move A) = to (far here) InterruptConfirm ∷ [] in
      record {
        sent = along_silent s s here (far here) r.owes r.owes [] made refl refl refl refl (record { untold = refl; ready = λ b. refl; interrupts = refl }) (append-nil (waiting s)) (λ was. was);
        received = along_silent r (record r { interrupt = Idle }) (far here) here s.owes s.owes [] made refl refl refl refl (record { untold = refl; ready = λ b. refl; interrupts = refl })
            (append-nil (waiting r) ∙ ap option_to_list (put_out_waits r.interrupt given)) (λ was free. refl);
      }

  pub along_settling : (here : End) (s r : Direction A) → r.owes ≡ true → BothGoAlong here s r r.acknowledged [] (settling here s r)
  along_settling here s r owed =
      let back = settled r in
      let waited = held_interrupt r.interrupt in
      let says = not_ready_notice here s in
      let brings = interrupts here waited in
      let out = released here (received_number s) back in
      let made = (settling here s r).moves in
      let unreset = (before_release here (received_number s) back (says ++ brings) (quiet-append says brings (quiet_not_ready here s) (quiet_interrupts here waited))).0 in
      let silent = silent-append (far here) (says ++ brings) out (silent-append (far here) says brings (silent_not_ready (far here) here s (other_is_far here)) (silent_interrupts (far here) here waited (other_is_far here)))
      (silent_released (far here) here (received_number s) back (other_is_far here)) in
      let K : ℕ → Type 0 = λ n. n ≡ s.acknowledged % numbers s.terms.sender in
      let first : All K (numbers_to here (says ++ brings)) =
      All-same K (numbers_to here (says ++ brings)) (numbers_to here says ++ numbers_to here brings) (numbers_to-append here says brings)
      (All-append K (numbers_to here says) (numbers_to here brings) (tells_not_ready here here s).told (tells_interrupting A here here (received_number s) waited)) in
      let told : All K (numbers_to here made) =
      All-same K (numbers_to here made) (numbers_to here (says ++ brings) ++ numbers_to here out) (numbers_to-append here (says ++ brings) out)
      (All-append K (numbers_to here (says ++ brings)) (numbers_to here out) first (tells_released here here (received_number s) back).told) in
      let heard : interrupts_to here made ≡ waiting r =
      interrupts_to-append here (says ++ brings) out
      ∙ ap (λ is. is ++ interrupts_to here out) (interrupts_to-append here says brings)
      ∙ ap (λ is. (is ++ interrupts_to here brings) ++ interrupts_to here out) ((tells_not_ready here here s).interrupts here)
      ∙ ap (λ is. interrupts_to here brings ++ is) ((tells_released here here (received_number s) back).interrupts here)
      ∙ append-nil (interrupts_to here brings)
      ∙ interrupts_here A here waited in
      let empty : waiting (release back) ≡ [] = release-waiting back ∙ ap option_to_list (none_waits r.interrupt) in
      record {
        sent = along_on s s here (far here) r.owes (release back).owes s.acknowledged [] made unreset refl told (λ free none. refl)
            (ap (λ b. ready_told here made (cond b true s.ready)) owed
            ∙ ready_told-append here (says ++ brings) out true
            ∙ ready_released here here (received_number s) back (ready_told here (says ++ brings) true)
            ∙ ready_told-append here says brings true
            ∙ ready_interrupting A here here waited (ready_told here says true)
            ∙ ready_not_ready here s
            ∙ ap (λ b. cond b true s.ready) (sym (release-owes back)))
            (unheard (far here) s s made silent.interrupts refl) (λ was. was);
        received = along_silent r (release back) (far here) here s.owes s.owes [] made unreset (release-acknowledged back) (release-ready back) refl silent
            (append-nil (waiting r) ∙ sym (append-nil (waiting r)) ∙ ap (λ is. is ++ []) (sym heard) ∙ ap (λ is. interrupts_to here made ++ is) (sym empty))
            (λ was free. empty);
      }
