-- What each packet tells both ends of flow control, and the interrupts that they get.
use Rattle.std.proofs.Common.{◌≡◌, ℕ, Bool, true, false, not, cond, ltb, List, [], ◌∷◌, length, unwrap_or, Option, Some, None, is_none, refl}
use Rattle.std.proofs.lemmas.Bool.{cond_both}
use Rattle.xp_causes.specs.declared.diagnostic.TheConstants.{INVALID_SEND_NUMBER, INVALID_RECEIVE_NUMBER, PACKET_TOO_LONG, INVALID_IN_D1, REJECT_NOT_SUBSCRIBED, UNAUTHORIZED_INTERRUPT_CONFIRMATION, UNAUTHORIZED_INTERRUPT}
use Rattle.xp_causes.specs.Indicated.{indicated_diagnostic}
use Rattle.xp_packets.specs.Numbers.{numbers}
use Rattle.xp_packets.specs.declared.end.End.{End}
use Rattle.xp_packets.specs.declared.packet.Packet.{Packet}
use Rattle.xp_packets.specs.declared.packet.Packet.TheVariants.{DataPacket, Ready, NotReady, Reject, Interrupt, InterruptConfirm, Reset, ResetConfirm}
use Rattle.xp_relay.specs.declared.data.Data.{Data}
use Rattle.xp_relay.specs.declared.judged.Judged.{Judged}
use Rattle.xp_relay.specs.declared.judged.Judged.TheVariants.{Accept, Reset as ResetWith}
use Rattle.xp_relay.specs.Contents.{count_after, interrupt_in, number_of}
use Rattle.xp_relay.specs.Direction.{Direction, IsSound, acknowledged_count}
use Rattle.xp_relay.specs.Judgement.{is_awaited, most_octets}
use Rattle.xp_relay.specs.Turns.{Turn, data_as, flow_as, is_idle, is_put_out, turn_of, unchanged}
use Rattle.xp_relay.proofs.Deliveries.{judged_by}
use Rattle.xp_relay.proofs.TellingTurns.{BothGoAlong, along_accepting, along_acknowledging, along_confirm, along_failing, along_interrupting, along_resetting, along_settling, along_unchanged}

module _ {A : Type 0} where
  -- ---- each packet

  by_owing : (here : End) (s r : Direction A) (owes : Bool) (count : ℕ) (x y : Turn A) → (owes ≡ true → BothGoAlong here s r r.acknowledged [] x) → (owes ≡ false → BothGoAlong here s r count [] y)
      → BothGoAlong here s r (cond (not owes) count r.acknowledged) [] (cond owes x y)
  by_owing here s r true count x y h k = h refl
  by_owing here s r false count x y h k = k refl

  by_owing_interrupt : (here : End) (s r : Direction A) (owes : Bool) (new : List (List ℕ)) (x y : Turn A) → BothGoAlong here s r r.acknowledged [] x → BothGoAlong here s r r.acknowledged new y
      → BothGoAlong here s r (cond (not owes) r.acknowledged r.acknowledged) (cond (not owes) new []) (cond owes x y)
  by_owing_interrupt here s r true new x y h k = h
  by_owing_interrupt here s r false new x y h k = k

  along_either : (here : End) (s r : Direction A) (count : ℕ) (new : List (List ℕ)) (b : Bool) (x y : Turn A) → (b ≡ true → BothGoAlong here s r count new x) → (b ≡ false → BothGoAlong here s r count new y)
      → BothGoAlong here s r count new (cond b x y)
  along_either here s r count new b x y h k = cond_both b x y (λ turn. BothGoAlong here s r count new turn) h k

  along_judged : (here : End) (s r : Direction A) (packet : Data A) (awaited unknown long : Bool) → IsSound s → (o : Option ℕ)
      → BothGoAlong here s r (unwrap_or o r.acknowledged) [] (data_as here packet (judged_by false awaited unknown long) o s r)
  along_judged here s r packet awaited unknown long sound o =
      let P : Judged → Type 0 = λ judged. BothGoAlong here s r (unwrap_or o r.acknowledged) [] (data_as here packet judged o s r) in
      cond_both (not awaited) (ResetWith INVALID_SEND_NUMBER) (cond unknown (ResetWith INVALID_RECEIVE_NUMBER) (cond long (ResetWith PACKET_TOO_LONG) Accept)) P
      (λ _. along_failing here s r INVALID_SEND_NUMBER (unwrap_or o r.acknowledged) [])
      (λ _. cond_both unknown (ResetWith INVALID_RECEIVE_NUMBER) (cond long (ResetWith PACKET_TOO_LONG) Accept) P
      (λ _. along_failing here s r INVALID_RECEIVE_NUMBER (unwrap_or o r.acknowledged) [])
      (λ _. cond_both long (ResetWith PACKET_TOO_LONG) Accept P
      (λ _. along_failing here s r PACKET_TOO_LONG (unwrap_or o r.acknowledged) [])
      (λ _. accepted o)))
    where
      accepted : (o : Option ℕ) → BothGoAlong here s r (unwrap_or o r.acknowledged) [] (data_as here packet Accept o s r)
      accepted None = along_unchanged here s r
      accepted (Some count) = along_accepting here s r packet count sound

  along_data : (here : End) (s r : Direction A) (packet : Data A) (awaited unknown long : Bool) → IsSound s → (o : Option ℕ) (owes : Bool)
      → BothGoAlong here s r (cond (not owes) (unwrap_or o r.acknowledged) r.acknowledged) [] (data_as here packet (judged_by owes awaited unknown long) o s r)
  along_data here s r packet awaited unknown long sound o true = along_unchanged here s r
  along_data here s r packet awaited unknown long sound o false = along_judged here s r packet awaited unknown long sound o

  along_flow_as : (here : End) (s r : Direction A) (ready : Bool) (o : Option ℕ) → BothGoAlong here s r (unwrap_or o r.acknowledged) [] (flow_as here ready o s r)
  along_flow_as here s r ready None = along_failing here s r INVALID_RECEIVE_NUMBER r.acknowledged []
  along_flow_as here s r ready (Some count) = along_acknowledging here s r ready count

  along_other : (here : End) (s r : Direction A) (owes : Bool) → BothGoAlong here s r (cond (not owes) r.acknowledged r.acknowledged) [] (unchanged s r)
  along_other here s r true = along_unchanged here s r
  along_other here s r false = along_unchanged here s r

  -- what each packet does to both directions, of which its end receives `r`
  pub along_turn : (here : End) (s r : Direction A) (packet : Packet A) → IsSound s
      → BothGoAlong here s r (cond (not r.owes) (count_after (numbers r.terms.receiver) r.put (number_of packet) r.acknowledged) r.acknowledged) (interrupt_in (not r.owes) packet) (turn_of here packet s r)
  along_turn here s r (DataPacket q d more ps pr octets) sound =
      along_data here s r (record { q = q; d = d; more = more; octets = octets }) (is_awaited ps s) (is_none (acknowledged_count pr r)) (ltb (most_octets s.terms) (length octets)) sound (acknowledged_count pr r) r.owes
  along_turn here s r (Ready pr) sound =
      by_owing here s r r.owes _ _ _ (λ owes. along_unchanged here s r) (λ free. along_flow_as here s r true (acknowledged_count pr r))
  along_turn here s r (NotReady pr) sound =
      by_owing here s r r.owes _ _ _ (λ owes. along_unchanged here s r) (λ free. along_flow_as here s r false (acknowledged_count pr r))
  along_turn here s r (Reject pr) sound =
      by_owing here s r r.owes r.acknowledged _ _ (λ owes. along_unchanged here s r) (λ free. along_failing here s r REJECT_NOT_SUBSCRIBED r.acknowledged [])
  along_turn here s r (Interrupt octets) sound =
      by_owing_interrupt here s r r.owes (octets ∷ []) _ _ (along_unchanged here s r)
      (along_either here s r r.acknowledged (octets ∷ []) (is_idle s.interrupt) _ _ (along_interrupting here s r octets) (λ busy. along_failing here s r UNAUTHORIZED_INTERRUPT r.acknowledged (octets ∷ [])))
  along_turn here s r InterruptConfirm sound =
      by_owing here s r r.owes r.acknowledged _ _ (λ owes. along_unchanged here s r)
      (λ free. along_either here s r r.acknowledged [] (is_put_out r.interrupt) _ _ (along_confirm here s r) (λ none. along_failing here s r UNAUTHORIZED_INTERRUPT_CONFIRMATION r.acknowledged []))
  along_turn here s r (Reset cause diagnostic) sound =
      by_owing here s r r.owes r.acknowledged _ _ (λ owes. along_settling here s r owes) (λ free. along_resetting here s r cause (indicated_diagnostic diagnostic) r.acknowledged)
  along_turn here s r ResetConfirm sound =
      by_owing here s r r.owes r.acknowledged _ _ (λ owes. along_settling here s r owes) (λ free. along_failing here s r INVALID_IN_D1 r.acknowledged [])
  along_turn here s r _ sound = along_other here s r r.owes
