-- The turn that a packet leads to, by the tests that the code makes.
use Rattle.std.proofs.Common.{◌≡◌, ℕ, Bool, true, false, not, cond, List, [], Option, refl, sym, subst, ap, ◌∙◌}
use Rattle.std.proofs.lemmas.Bool.{cond-true, cond-false}
use Rattle.xp_packets.specs.declared.end.End.{End}
use Rattle.xp_packets.specs.declared.packet.Packet.{Packet}
use Rattle.xp_packets.specs.declared.packet.Packet.TheVariants.{DataPacket, Ready, NotReady, Reject, Interrupt, InterruptConfirm, Reset, ResetConfirm}
use Rattle.xp_causes.specs.declared.diagnostic.TheConstants.{INVALID_SEND_NUMBER, INVALID_RECEIVE_NUMBER, PACKET_TOO_LONG}
use Rattle.xp_relay.specs.declared.judged.Judged.{Judged}
use Rattle.xp_relay.specs.declared.judged.Judged.TheVariants.{Accept, Discard, Reset as ResetWith}
use Rattle.xp_relay.specs.declared.moves.Move.{Move}
use Rattle.xp_relay.specs.Direction.{Direction, acknowledged_count}
use Rattle.xp_relay.specs.StoredDirection.{StoredDirection, stored, Represents}
use Rattle.xp_relay.specs.steps.StoredDirection.{RepresentsTurn}
use Rattle.xp_relay.specs.Turns.{Turn, data_as, turn_of, unchanged}

-- what a test of the stored state says of the direction
pub seen : {A X : Type 0} (f : StoredDirection A → X) {k : StoredDirection A} {d : Direction A} {b v : X} → Represents k d → b ≡ f k → b ≡ v → f (stored d) ≡ v
seen f h e test = sym (ap f h.shown) ∙ sym e ∙ test

pub when : {A : Type 0} {from into : StoredDirection A} {made : List (Move A)} {x : Turn A} (y : Turn A) {b : Bool} → b ≡ true → RepresentsTurn from into made x → RepresentsTurn from into made (cond b x y)
when {A} {from} {into} {made} {x} y {b} e h = subst (λ t. RepresentsTurn from into made t) (sym (cond-true b x y e)) h

pub otherwise : {A : Type 0} {from into : StoredDirection A} {made : List (Move A)} (x : Turn A) {y : Turn A} {b : Bool} → b ≡ false → RepresentsTurn from into made y → RepresentsTurn from into made (cond b x y)
otherwise {A} {from} {into} {made} x {y} {b} e h = subst (λ t. RepresentsTurn from into made t) (sym (cond-false b x y e)) h

pub along : {A X : Type 0} {from into : StoredDirection A} {made : List (Move A)} (f : X → Turn A) {x y : X} → x ≡ y → RepresentsTurn from into made (f y) → RepresentsTurn from into made (f x)
along {A} {X} {from} {into} {made} f e h = subst (λ z. RepresentsTurn from into made (f z)) (sym e) h

-- nothing happens
pub still : {A : Type 0} {from into : StoredDirection A} {made : List (Move A)} {s r : Direction A} → Represents from s → Represents into r → made ≡ [] → RepresentsTurn from into made (unchanged s r)
still hs hr e = record { sent = hs; received = hr; moves = e }

-- while an end owes a reset confirmation, only a packet that confirms the reset changes something
pub dropped : {A : Type 0} (here : End) (packet : Packet A) (s r : Direction A) → r.owes ≡ true → ((cause : ℕ) (diagnostic : Option ℕ) → packet ≡ Reset cause diagnostic → ⊥) → (packet ≡ ResetConfirm → ⊥) → turn_of here packet s r ≡ unchanged s r
dropped here (DataPacket q d more ps pr octets) s r owes unreset unconfirmed =
    ap (λ judged. data_as here (record { q = q; d = d; more = more; octets = octets }) judged (acknowledged_count pr r) s r) (cond-true r.owes Discard _ owes)
dropped here (Ready pr) s r owes unreset unconfirmed = cond-true r.owes _ _ owes
dropped here (NotReady pr) s r owes unreset unconfirmed = cond-true r.owes _ _ owes
dropped here (Reject pr) s r owes unreset unconfirmed = cond-true r.owes _ _ owes
dropped here (Interrupt octets) s r owes unreset unconfirmed = cond-true r.owes _ _ owes
dropped here InterruptConfirm s r owes unreset unconfirmed = cond-true r.owes _ _ owes
dropped here (Reset cause diagnostic) s r owes unreset unconfirmed = absurd (unreset cause diagnostic refl)
dropped here ResetConfirm s r owes unreset unconfirmed = absurd (unconfirmed refl)
dropped here _ s r owes unreset unconfirmed = refl

-- the decision on a data packet, by its four tests
abbrev pub decision : Bool → Bool → Bool → Bool → Judged
decision owes awaited unsent long =
    cond owes Discard (cond (not awaited) (ResetWith INVALID_SEND_NUMBER) (cond unsent (ResetWith INVALID_RECEIVE_NUMBER) (cond long (ResetWith PACKET_TOO_LONG) Accept)))

pub decided : {a b c d e f g h : Bool} → a ≡ b → c ≡ d → e ≡ f → g ≡ h → decision a c e g ≡ decision b d f h
decided p q r s = cc
