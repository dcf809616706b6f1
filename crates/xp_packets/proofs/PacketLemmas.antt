-- Packets: what is read is spelled so, and what is spelled so is read.
use Rattle.std.proofs.Common.{◌≡◌, ℕ, suc, ◌+◌, ◌*◌, ◌/◌, ◌%◌, ◌<◌, ◌≤◌, Bool, true, false, not, cond, eqb, ltb, ◌&&◌, ◌||◌, List, [], ◌∷◌, ◌++◌, length, Option, Some, None, Result, Ok, Err, refl, ap, subst, ◌∙◌, arith, inl, inr}
use Rattle.std.proofs.lemmas.Bool.{eqb-true, eqb-false, eq-eqb, ne_eqb, cases_Bool, or_parts, ltb-false, le-ltb}
use Rattle.std.proofs.lemmas.List.{nil_from_length}
use Rattle.xp_packets.specs.declared.fault.Malformed.{Malformed}
use Rattle.xp_packets.specs.declared.fault.Malformed.TheVariants.{Long}
use Rattle.xp_packets.specs.declared.header.Header.{Header}
use Rattle.xp_packets.specs.declared.kind.Kind.{Kind}
use Rattle.xp_packets.specs.declared.kind.Kind.TheVariants as kinds
use Rattle.xp_packets.specs.declared.modulus.Modulus.{Modulus}
use Rattle.xp_packets.specs.declared.modulus.Modulus.TheVariants as moduli
use Rattle.xp_packets.specs.declared.numbers.Numbers.{Numbers}
use Rattle.xp_packets.specs.declared.block.Block.{Block}
use Rattle.xp_packets.specs.declared.packet.Packet.{Packet}
use Rattle.xp_packets.specs.declared.packet.Packet.TheVariants.{Call, Accepted, Clear, ClearConfirm, DataPacket, Ready, NotReady, Reject, Interrupt, InterruptConfirm, Reset, ResetConfirm}
use Rattle.xp_packets.specs.Kinds.{kind_of, octet_of, whole_kind_of, without_number}
use Rattle.xp_packets.specs.Heading.{bit, heading, Begins, wrong_flags}
use Rattle.xp_packets.specs.Numbers.{numbers, data_octets, flow_octets}
use Rattle.xp_packets.specs.Spelling.{AnySpare, SpellsFields, BlockBy, Spells}
use Rattle.xp_packets.specs.steps.Numbers.{data_numbers_at, flow_number_at}
use Rattle.xp_packets.specs.steps.Reading.{◌>>=◌, header_at, block_at, optional_block_at, call_at, accepted_at, clear_at, clear_confirm_at, data_at, flow_at, interrupt_at, reset_at, header_only_at, body_by, packet_at}
use Rattle.xp_packets.proofs.BlockLemmas.{AreOctets, TakesOption, block_takes, block_again, option_takes, some_again, user_most}
use Rattle.xp_packets.proofs.HeadingLemmas.{IsKind, header_takes, header_again, data_kind, ready_kind, not_ready_kind, reject_kind}
use Rattle.xp_packets.proofs.Results.{bind_ok, guard_ok, ok_is}

abbrev ok_packet : {A : Type 0} → Packet A → Result (Packet A) Malformed
ok_packet packet = Ok packet

-- ---- what is read is spelled so

call_takes : (A : Type 0) (modulus : Modulus) (octets : List ℕ) (d : Bool) (identifier : ℕ) (rest : List ℕ) (packet : Packet A) → AreOctets rest → Begins modulus octets false d identifier (11 ∷ rest) → call_at d rest ≡ Ok packet → Spells modulus octets identifier packet
unfolding call_at
call_takes A modulus octets d identifier rest packet are begins e =
    let a = bind_ok (block_at 128 rest) (λ (block : Block A). ok_packet (Call d block)) packet e in
    subst (λ (p : Packet A). Spells modulus octets identifier p) (ok_is (Call d a.0) packet a.2) (rest, begins, (block_takes A 128 rest a.0 (omega arith) are a.1).0)

-- an accepted call with or without a block
accepted_spelled : (A : Type 0) (modulus : Modulus) (octets : List ℕ) (d : Bool) (identifier : ℕ) (rest : List ℕ) (block : Option (Block A)) → TakesOption A 128 rest block → Begins modulus octets false d identifier (15 ∷ rest) → Spells modulus octets identifier (Accepted d block)
accepted_spelled A modulus octets d identifier rest None spelled begins = rw spelled at begins
accepted_spelled A modulus octets d identifier rest (Some block) spelled begins = (rest, begins, spelled.0)

accepted_takes : (A : Type 0) (modulus : Modulus) (octets : List ℕ) (d : Bool) (identifier : ℕ) (rest : List ℕ) (packet : Packet A) → AreOctets rest → Begins modulus octets false d identifier (15 ∷ rest) → accepted_at d rest ≡ Ok packet → Spells modulus octets identifier packet
unfolding accepted_at
accepted_takes A modulus octets d identifier rest packet are begins e =
    let a = bind_ok (optional_block_at 128 rest) (λ (block : Option (Block A)). ok_packet (Accepted d block)) packet e in
    subst (λ (p : Packet A). Spells modulus octets identifier p) (ok_is (Accepted d a.0) packet a.2) (accepted_spelled A modulus octets d identifier rest a.0 (option_takes A 128 rest a.0 (omega arith) are a.1) begins)

clear_spelled : (A : Type 0) (modulus : Modulus) (octets : List ℕ) (identifier cause diagnostic : ℕ) (rest : List ℕ) (block : Option (Block A)) → TakesOption A 128 rest block → Begins modulus octets false false identifier (19 ∷ cause ∷ diagnostic ∷ rest) → Spells modulus octets identifier (Clear cause (Some diagnostic) block)
clear_spelled A modulus octets identifier cause diagnostic rest None spelled begins = rw spelled at begins
clear_spelled A modulus octets identifier cause diagnostic rest (Some block) spelled begins = (rest, begins, spelled.0)

clear_takes : (A : Type 0) (modulus : Modulus) (octets : List ℕ) (identifier : ℕ) (rest : List ℕ) (packet : Packet A) → AreOctets rest → Begins modulus octets false false identifier (19 ∷ rest) → clear_at rest ≡ Ok packet → Spells modulus octets identifier packet
unfolding clear_at
clear_takes A modulus octets identifier [] packet are begins e = absurd cc
clear_takes A modulus octets identifier (cause ∷ []) packet are begins e =
    subst (λ (p : Packet A). Spells modulus octets identifier p) (ok_is (Clear cause None None) packet e) begins
clear_takes A modulus octets identifier (cause ∷ diagnostic ∷ rest) packet are begins e =
    let a = bind_ok (optional_block_at 128 rest) (λ (block : Option (Block A)). ok_packet (Clear cause (Some diagnostic) block)) packet e in
    subst (λ (p : Packet A). Spells modulus octets identifier p) (ok_is (Clear cause (Some diagnostic) a.0) packet a.2) (clear_spelled A modulus octets identifier cause diagnostic rest a.0 (option_takes A 128 rest a.0 (omega arith) (λ i. are (suc (suc i))) a.1) begins)

confirm_spelled : (A : Type 0) (modulus : Modulus) (octets : List ℕ) (identifier : ℕ) (rest : List ℕ) (block : Option (Block A)) → TakesOption A 0 rest block → Begins modulus octets false false identifier (23 ∷ rest) → Spells modulus octets identifier (ClearConfirm block)
confirm_spelled A modulus octets identifier rest None spelled begins = rw spelled at begins
confirm_spelled A modulus octets identifier rest (Some block) spelled begins = (rest, begins, spelled.0, nil_from_length block.user (omega (arith, spelled.1)))

confirm_takes : (A : Type 0) (modulus : Modulus) (octets : List ℕ) (identifier : ℕ) (rest : List ℕ) (packet : Packet A) → AreOctets rest → Begins modulus octets false false identifier (23 ∷ rest) → clear_confirm_at rest ≡ Ok packet → Spells modulus octets identifier packet
unfolding clear_confirm_at
confirm_takes A modulus octets identifier rest packet are begins e =
    let a = bind_ok (optional_block_at 0 rest) (λ (block : Option (Block A)). ok_packet (ClearConfirm block)) packet e in
    subst (λ (p : Packet A). Spells modulus octets identifier p) (ok_is (ClearConfirm a.0) packet a.2) (confirm_spelled A modulus octets identifier rest a.0 (option_takes A 0 rest a.0 (omega arith) are a.1) begins)

-- what the octets say of the numbers of a data packet, and of the octets after them
abbrev TakesNumbers : Modulus → List ℕ → Bool → Bool → ℕ → Numbers × List ℕ → Type 0
TakesNumbers modulus octets q d identifier x = Begins modulus octets q d identifier (data_octets modulus x.0.ps x.0.pr x.0.more ++ x.1) × (x.0.ps < numbers modulus) × (x.0.pr < numbers modulus)

type_octet : (octet : ℕ) → octet % 2 ≡ 0 → 32 * (octet / 32) + bit 16 (eqb (octet / 16 % 2) 1) + 2 * (octet / 2 % 8) ≡ octet
type_octet octet even =
    elim (cases_Bool (eqb (octet / 16 % 2) 1)) [
      | inl more ↦ let is = eqb-true (octet / 16 % 2) 1 more in rw more (omega arith)
      | inr last ↦ let is = eqb-false (octet / 16 % 2) 1 last in rw last (omega (arith, is))
    ]

-- a number in bits 8 to 2 of an octet, and its bit 1
number_octet : (octet : ℕ) → 2 * (octet / 2) + bit 1 (eqb (octet % 2) 1) ≡ octet
number_octet octet =
    elim (cases_Bool (eqb (octet % 2) 1)) [
      | inl more ↦ let is = eqb-true (octet % 2) 1 more in rw more (omega arith)
      | inr last ↦ let is = eqb-false (octet % 2) 1 last in rw last (omega (arith, is))
    ]

numbers_take : (modulus : Modulus) (octets : List ℕ) (q d : Bool) (identifier octet : ℕ) (rest : List ℕ) (x : Numbers × List ℕ) → AreOctets rest → octet < 256 → octet % 2 ≡ 0 → Begins modulus octets q d identifier (octet ∷ rest) → data_numbers_at modulus octet rest ≡ Ok x → TakesNumbers modulus octets q d identifier x
unfolding data_numbers_at
numbers_take moduli.Eight octets q d identifier octet rest x are below even begins e =
    let made : Numbers × List ℕ = (record { ps = octet / 2 % 8; pr = octet / 32; more = eqb (octet / 16 % 2) 1 }, rest) in
    subst (TakesNumbers moduli.Eight octets q d identifier) (ok_is made x e) (rw (type_octet octet even) begins, omega arith, omega arith)
numbers_take moduli.Long octets q d identifier octet [] x are below even begins e = absurd cc
numbers_take moduli.Long octets q d identifier octet (second ∷ rest) x are below even begins e =
    let made : Numbers × List ℕ = (record { ps = octet / 2; pr = second / 2; more = eqb (second % 2) 1 }, rest) in
    let little : second < 256 = are 0 in
    let first : 2 * (octet / 2) ≡ octet = omega arith in
    subst (TakesNumbers moduli.Long octets q d identifier) (ok_is made x e) (rw (first, number_octet second) begins, omega arith, omega arith)

data_takes : (A : Type 0) (modulus : Modulus) (octets : List ℕ) (q d : Bool) (identifier octet : ℕ) (rest : List ℕ) (packet : Packet A) → AreOctets rest → octet < 256 → octet % 2 ≡ 0 → Begins modulus octets q d identifier (octet ∷ rest) → data_at modulus q d octet rest ≡ Ok packet → Spells modulus octets identifier packet
unfolding data_at
data_takes A modulus octets q d identifier octet rest packet are below even begins e =
    let made : Numbers × List ℕ → Packet A = λ x. DataPacket q d x.0.more x.0.ps x.0.pr x.1 in
    let a = bind_ok (data_numbers_at modulus octet rest) (λ (x : Numbers × List ℕ). cond (ltb 1024 (length x.1)) (Err Long) (ok_packet (made x))) packet e in
    let takes = numbers_take modulus octets q d identifier octet rest a.0 are below even begins a.1 in
    let g = guard_ok (ltb 1024 (length a.0.1)) Long (ok_packet (made a.0)) packet a.2 in
    subst (λ (p : Packet A). Spells modulus octets identifier p) (ok_is (made a.0) packet g.1) (takes.0, takes.1, takes.2, ltb-false 1024 (length a.0.1) g.0)

-- what the octets say of the P(R) of a flow control packet
abbrev TakesNumber : Modulus → List ℕ → ℕ → Kind → ℕ → Type 0
TakesNumber modulus octets identifier kind pr = (spare : Bool) × AnySpare spare × Begins modulus octets false false identifier (flow_octets modulus pr kind spare) × (pr < numbers modulus)

number_takes : (modulus : Modulus) (octets : List ℕ) (identifier octet : ℕ) (kind : Kind) (rest : List ℕ) (pr : ℕ) → AreOctets rest → octet < 256 → without_number modulus octet ≡ octet_of kind → Begins modulus octets false false identifier (octet ∷ rest) → flow_number_at modulus octet rest ≡ Ok pr → TakesNumber modulus octets identifier kind pr
unfolding flow_number_at
number_takes moduli.Eight octets identifier octet kind [] pr are below is begins e =
    let whole : 32 * (octet / 32) + octet_of kind ≡ octet = omega arith in
    subst (TakesNumber moduli.Eight octets identifier kind) (ok_is (octet / 32) pr e) (false, tt, rw whole begins, omega arith)
number_takes moduli.Eight octets identifier octet kind (more ∷ rest) pr are below is begins e = absurd cc
number_takes moduli.Long octets identifier octet kind [] pr are below is begins e = absurd cc
number_takes moduli.Long octets identifier octet kind (second ∷ []) pr are below is begins e =
    let little : second < 256 = are 0 in
    subst (TakesNumber moduli.Long octets identifier kind) (ok_is (second / 2) pr e) (eqb (second % 2) 1, tt, rw (number_octet second, ← is) begins, omega arith)
number_takes moduli.Long octets identifier octet kind (second ∷ more ∷ rest) pr are below is begins e = absurd cc

flow_takes : (A : Type 0) (modulus : Modulus) (octets : List ℕ) (identifier octet : ℕ) (kind : Kind) (rest : List ℕ) (made : ℕ → Packet A) (packet : Packet A) → AreOctets rest → octet < 256 → without_number modulus octet ≡ octet_of kind → Begins modulus octets false false identifier (octet ∷ rest)
    → ((pr : ℕ) → TakesNumber modulus octets identifier kind pr → Spells modulus octets identifier (made pr)) → flow_at made modulus octet rest ≡ Ok packet → Spells modulus octets identifier packet
unfolding flow_at
flow_takes A modulus octets identifier octet kind rest made packet are below is begins spells e =
    let a = bind_ok (flow_number_at modulus octet rest) (λ (pr : ℕ). ok_packet (made pr)) packet e in
    subst (λ (p : Packet A). Spells modulus octets identifier p) (ok_is (made a.0) packet a.2) (spells a.0 (number_takes modulus octets identifier octet kind rest a.0 are below is begins a.1))

interrupt_takes : (A : Type 0) (modulus : Modulus) (octets : List ℕ) (identifier : ℕ) (rest : List ℕ) (packet : Packet A) → Begins modulus octets false false identifier (35 ∷ rest) → interrupt_at rest ≡ Ok packet → Spells modulus octets identifier packet
unfolding interrupt_at
interrupt_takes A modulus octets identifier [] packet begins e = absurd cc
interrupt_takes A modulus octets identifier (octet ∷ rest) packet begins e =
    let g = guard_ok (ltb 32 (length (octet ∷ rest))) Long (ok_packet (Interrupt (octet ∷ rest))) packet e in
    subst (λ (p : Packet A). Spells modulus octets identifier p) (ok_is (Interrupt (octet ∷ rest)) packet g.1) (begins, omega arith, ltb-false 32 (length (octet ∷ rest)) g.0)

reset_takes : (A : Type 0) (modulus : Modulus) (octets : List ℕ) (identifier : ℕ) (rest : List ℕ) (packet : Packet A) → Begins modulus octets false false identifier (27 ∷ rest) → reset_at rest ≡ Ok packet → Spells modulus octets identifier packet
unfolding reset_at
reset_takes A modulus octets identifier [] packet begins e = absurd cc
reset_takes A modulus octets identifier (cause ∷ []) packet begins e = subst (λ (p : Packet A). Spells modulus octets identifier p) (ok_is (Reset cause None) packet e) begins
reset_takes A modulus octets identifier (cause ∷ diagnostic ∷ []) packet begins e = subst (λ (p : Packet A). Spells modulus octets identifier p) (ok_is (Reset cause (Some diagnostic)) packet e) begins
reset_takes A modulus octets identifier (cause ∷ diagnostic ∷ more ∷ rest) packet begins e = absurd cc

-- a packet after whose type nothing stands
alone_takes : (A : Type 0) (modulus : Modulus) (octets : List ℕ) (identifier octet : ℕ) (rest : List ℕ) (one packet : Packet A) → (Begins modulus octets false false identifier (octet ∷ []) → Spells modulus octets identifier one) → Begins modulus octets false false identifier (octet ∷ rest) → header_only_at one rest ≡ Ok packet → Spells modulus octets identifier packet
unfolding header_only_at
alone_takes A modulus octets identifier octet [] one packet spells begins e = subst (λ (p : Packet A). Spells modulus octets identifier p) (ok_is one packet e) (spells begins)
alone_takes A modulus octets identifier octet (more ∷ rest) one packet spells begins e = absurd cc

-- Q and D are not set where they are not lawful
flags_unset : (q d : Bool) (octet : ℕ) → octet % 2 ≡ 1 → (octet ≡ 11 → ⊥) → (octet ≡ 15 → ⊥) → wrong_flags q d octet ≡ false → (q ≡ false) × (d ≡ false)
flags_unset q d octet odd no_call no_accepted lawful =
    let a : eqb (octet % 2) 1 ≡ true = eq-eqb _ _ odd in
    let b : eqb octet 11 ≡ false = ne_eqb _ _ no_call in
    let c : eqb octet 15 ≡ false = ne_eqb _ _ no_accepted in
    or_parts q d (rw (a, b, c) at lawful)

-- a packet without Q and D
plain : (modulus : Modulus) (octets : List ℕ) (q d : Bool) (identifier octet : ℕ) (rest : List ℕ) → octet % 2 ≡ 1 → (octet ≡ 11 → ⊥) → (octet ≡ 15 → ⊥) → wrong_flags q d octet ≡ false → Begins modulus octets q d identifier (octet ∷ rest) → Begins modulus octets false false identifier (octet ∷ rest)
plain modulus octets q d identifier octet rest odd no_call no_accepted lawful begins =
    let unset = flags_unset q d octet odd no_call no_accepted lawful in
    rw (unset.0, unset.1) at begins

-- the same of flow control, by the type in its octet
plain_flow : (modulus : Modulus) (octets : List ℕ) (q d : Bool) (identifier octet number : ℕ) (rest : List ℕ) → without_number modulus octet ≡ number → number < 10 → number % 2 ≡ 1 → wrong_flags q d octet ≡ false → Begins modulus octets q d identifier (octet ∷ rest) → Begins modulus octets false false identifier (octet ∷ rest)
plain_flow moduli.Eight octets q d identifier octet number rest is few odd lawful begins = plain moduli.Eight octets q d identifier octet rest (omega arith) (λ h. omega arith) (λ h. omega arith) lawful begins
plain_flow moduli.Long octets q d identifier octet number rest is few odd lawful begins = plain moduli.Long octets q d identifier octet rest (omega arith) (λ h. omega arith) (λ h. omega arith) lawful begins

body_takes : (A : Type 0) (modulus : Modulus) (octets : List ℕ) (kind : Kind) (q d : Bool) (identifier octet : ℕ) (rest : List ℕ) (packet : Packet A) → AreOctets rest → Begins modulus octets q d identifier (octet ∷ rest) → IsKind modulus octet kind → wrong_flags q d octet ≡ false → octet < 256
    → body_by modulus kind (record { identifier = identifier; q = q; d = d; kind = kind; octet = octet }) rest ≡ Ok packet → Spells modulus octets identifier packet
body_takes A modulus octets kinds.Call q d identifier octet rest packet are begins is lawful below e =
    let unset : q ≡ false = (or_parts q _ (rw is at lawful)).0 in
    call_takes A modulus octets d identifier rest packet are (rw (is, unset) at begins) e
body_takes A modulus octets kinds.Accepted q d identifier octet rest packet are begins is lawful below e =
    let unset : q ≡ false = (or_parts q _ (rw is at lawful)).0 in
    accepted_takes A modulus octets d identifier rest packet are (rw (is, unset) at begins) e
body_takes A modulus octets kinds.Clear q d identifier octet rest packet are begins is lawful below e =
    clear_takes A modulus octets identifier rest packet are (rw is at (plain modulus octets q d identifier octet rest (omega arith) (λ h. omega arith) (λ h. omega arith) lawful begins)) e
body_takes A modulus octets kinds.ClearConfirm q d identifier octet rest packet are begins is lawful below e =
    confirm_takes A modulus octets identifier rest packet are (rw is at (plain modulus octets q d identifier octet rest (omega arith) (λ h. omega arith) (λ h. omega arith) lawful begins)) e
body_takes A modulus octets kinds.Interrupt q d identifier octet rest packet are begins is lawful below e =
    interrupt_takes A modulus octets identifier rest packet (rw is at (plain modulus octets q d identifier octet rest (omega arith) (λ h. omega arith) (λ h. omega arith) lawful begins)) e
body_takes A modulus octets kinds.InterruptConfirm q d identifier octet rest packet are begins is lawful below e =
    alone_takes A modulus octets identifier 39 rest InterruptConfirm packet (λ b. b) (rw is at (plain modulus octets q d identifier octet rest (omega arith) (λ h. omega arith) (λ h. omega arith) lawful begins)) e
body_takes A modulus octets kinds.Reset q d identifier octet rest packet are begins is lawful below e =
    reset_takes A modulus octets identifier rest packet (rw is at (plain modulus octets q d identifier octet rest (omega arith) (λ h. omega arith) (λ h. omega arith) lawful begins)) e
body_takes A modulus octets kinds.ResetConfirm q d identifier octet rest packet are begins is lawful below e =
    alone_takes A modulus octets identifier 31 rest ResetConfirm packet (λ b. b) (rw is at (plain modulus octets q d identifier octet rest (omega arith) (λ h. omega arith) (λ h. omega arith) lawful begins)) e
body_takes A modulus octets kinds.Data q d identifier octet rest packet are begins is lawful below e =
    data_takes A modulus octets q d identifier octet rest packet are below is begins e
body_takes A modulus octets kinds.Ready q d identifier octet rest packet are begins is lawful below e =
    flow_takes A modulus octets identifier octet kinds.Ready rest (λ pr. Ready pr) packet are below is (plain_flow modulus octets q d identifier octet 1 rest is (omega arith) (omega arith) lawful begins) (λ pr takes. takes) e
body_takes A modulus octets kinds.NotReady q d identifier octet rest packet are begins is lawful below e =
    flow_takes A modulus octets identifier octet kinds.NotReady rest (λ pr. NotReady pr) packet are below is (plain_flow modulus octets q d identifier octet 5 rest is (omega arith) (omega arith) lawful begins) (λ pr takes. takes) e
body_takes A modulus octets kinds.Reject q d identifier octet rest packet are begins is lawful below e =
    flow_takes A modulus octets identifier octet kinds.Reject rest (λ pr. Reject pr) packet are below is (plain_flow modulus octets q d identifier octet 9 rest is (omega arith) (omega arith) lawful begins) (λ pr takes. takes) e

abbrev ok_pair : {A : Type 0} → ℕ → Packet A → Result (ℕ × Packet A) Malformed
ok_pair identifier packet = Ok (identifier, packet)

after_type : (modulus : Modulus) (octets : List ℕ) (q d : Bool) (identifier octet : ℕ) (rest : List ℕ) → AreOctets octets → Begins modulus octets q d identifier (octet ∷ rest) → AreOctets rest
after_type modulus octets q d identifier octet rest are begins i =
    let all : AreOctets (heading modulus q d identifier ++ octet ∷ rest) = subst AreOctets begins.1 are in
    all (suc (suc (suc i)))

pub packet_takes : (A : Type 0) (modulus : Modulus) (octets : List ℕ) (x : ℕ × Packet A) → AreOctets octets → packet_at modulus octets ≡ Ok x → Spells modulus octets x.0 x.1
unfolding packet_at
packet_takes A modulus octets x are e =
    let a = bind_ok (header_at modulus octets) (λ (h : Header × List ℕ). body_by modulus h.0.kind h.0 h.1 >>= λ (packet : Packet A). ok_pair h.0.identifier packet) x e in
    let h = a.0.0 in
    let b = bind_ok (body_by modulus h.kind h a.0.1) (λ (packet : Packet A). ok_pair h.identifier packet) x a.2 in
    let t = header_takes modulus octets a.0 are a.1 in
    let made : ℕ × Packet A = (h.identifier, b.0) in
    let rest_are : AreOctets a.0.1 = after_type modulus octets h.q h.d h.identifier h.octet a.0.1 are t.0 in
    subst (λ (y : ℕ × Packet A). Spells modulus octets y.0 y.1) (ok_is made x b.2) (body_takes A modulus octets h.kind h.q h.d h.identifier h.octet a.0.1 b.0 rest_are t.0 t.1 t.2 t.3 b.1)

-- ---- what is spelled so is read

whole_again : (A : Type 0) (modulus : Modulus) (octets : List ℕ) (q d : Bool) (identifier octet : ℕ) (kind : Kind) (rest : List ℕ) (packet : Packet A) → Begins modulus octets q d identifier (octet ∷ rest) → kind_of modulus octet ≡ Some kind → wrong_flags q d octet ≡ false
    → body_by modulus kind (record { identifier = identifier; q = q; d = d; kind = kind; octet = octet }) rest ≡ Ok packet → packet_at modulus octets ≡ Ok (identifier, packet)
unfolding packet_at
whole_again A modulus octets q d identifier octet kind rest packet begins is lawful body =
    let header : header_at modulus octets ≡ Ok (record { identifier = identifier; q = q; d = d; kind = kind; octet = octet }, rest) = ap (header_at modulus) begins.1 ∙ header_again modulus q d identifier octet kind rest begins.0 is lawful in
    rw (header, body) refl

nothing_set : (b c : Bool) → (b && (false || (not c && false))) ≡ false
nothing_set true true = refl
nothing_set true false = refl
nothing_set false c = refl

no_flags : (octet : ℕ) → wrong_flags false false octet ≡ false
no_flags octet = nothing_set (eqb (octet % 2) 1) (eqb octet 11 || eqb octet 15)

even_flags : (q d : Bool) (octet : ℕ) → octet % 2 ≡ 0 → wrong_flags q d octet ≡ false
even_flags q d octet even = rw even refl

-- the numbers in the type octet of a data packet modulo 8
record SaysNumbers (more : Bool) (ps pr octet : ℕ) : Type 0 where
  even : octet % 2 ≡ 0
  m : eqb (octet / 16 % 2) 1 ≡ more
  sent : octet / 2 % 8 ≡ ps
  received : octet / 32 ≡ pr

says_numbers : (more : Bool) (ps pr : ℕ) → ps < 8 → pr < 8 → SaysNumbers more ps pr (32 * pr + bit 16 more + 2 * ps)
says_numbers true ps pr ps_below pr_below = record { even = omega arith; m = eq-eqb _ _ (omega arith); sent = omega arith; received = omega arith }
says_numbers false ps pr ps_below pr_below = record { even = omega arith; m = ne_eqb _ _ (λ h. absurd (omega arith)); sent = omega arith; received = omega arith }

-- a number in bits 8 to 2 of an octet, and its bit 1
number_again : (last : Bool) (number : ℕ) → ((2 * number + bit 1 last) / 2 ≡ number) × (eqb ((2 * number + bit 1 last) % 2) 1 ≡ last)
number_again true number = (omega arith, eq-eqb _ _ (omega arith))
number_again false number = (omega arith, ne_eqb _ _ (λ h. absurd (omega arith)))

data_again : (A : Type 0) (modulus : Modulus) (octets : List ℕ) (q d more : Bool) (identifier ps pr : ℕ) (carried : List ℕ) → Begins modulus octets q d identifier (data_octets modulus ps pr more ++ carried) → ps < numbers modulus → pr < numbers modulus → length carried ≤ 1024 → packet_at {A = A} modulus octets ≡ Ok (identifier, DataPacket q d more ps pr carried)
unfolding data_at data_numbers_at
data_again A moduli.Eight octets q d more identifier ps pr carried begins ps_below pr_below most =
    let says = says_numbers more ps pr ps_below pr_below in
    let octet = 32 * pr + bit 16 more + 2 * ps in
    let short : ltb 1024 (length carried) ≡ false = le-ltb _ _ most in
    whole_again A moduli.Eight octets q d identifier octet kinds.Data carried (DataPacket q d more ps pr carried) begins (data_kind moduli.Eight octet says.even) (even_flags q d octet says.even) (rw (short, says.m, says.sent, says.received) refl)
data_again A moduli.Long octets q d more identifier ps pr carried begins ps_below pr_below most =
    let even : 2 * ps % 2 ≡ 0 = omega arith in
    let sent : 2 * ps / 2 ≡ ps = omega arith in
    let received = number_again more pr in
    let short : ltb 1024 (length carried) ≡ false = le-ltb _ _ most in
    whole_again A moduli.Long octets q d identifier (2 * ps) kinds.Data ((2 * pr + bit 1 more) ∷ carried) (DataPacket q d more ps pr carried) begins (data_kind moduli.Long (2 * ps) even) (even_flags q d (2 * ps) even) (rw (short, sent, received.0, received.1) refl)

-- flow control, of which `made` says what it is by its P(R)
flow_again : (A : Type 0) (modulus : Modulus) (octets : List ℕ) (identifier pr : ℕ) (kind : Kind) (spare : Bool) (made : ℕ → Packet A) → octet_of kind < 32 → kind_of moduli.Eight (32 * pr + octet_of kind) ≡ Some kind → kind_of moduli.Long (octet_of kind) ≡ Some kind
    → ((header : Header) (rest : List ℕ) → body_by modulus kind header rest ≡ flow_at made modulus header.octet rest) → Begins modulus octets false false identifier (flow_octets modulus pr kind spare) → packet_at modulus octets ≡ Ok (identifier, made pr)
unfolding flow_at flow_number_at
flow_again A moduli.Eight octets identifier pr kind spare made few short long flow begins =
    let number : (32 * pr + octet_of kind) / 32 ≡ pr = omega arith in
    whole_again A moduli.Eight octets false false identifier (32 * pr + octet_of kind) kind [] (made pr) begins short (no_flags (32 * pr + octet_of kind)) (flow _ [] ∙ rw number refl)
flow_again A moduli.Long octets identifier pr kind spare made few short long flow begins =
    let number = (number_again spare pr).0 in
    whole_again A moduli.Long octets false false identifier (octet_of kind) kind ((2 * pr + bit 1 spare) ∷ []) (made pr) begins long (no_flags (octet_of kind)) (flow _ ((2 * pr + bit 1 spare) ∷ []) ∙ rw number refl)

interrupt_again : (A : Type 0) (carried : List ℕ) → 0 < length carried → length carried ≤ 32 → interrupt_at {A = A} carried ≡ Ok (Interrupt carried)
unfolding interrupt_at
interrupt_again A [] some most = absurd (omega arith)
interrupt_again A (octet ∷ rest) some most =
    let short : ltb 32 (length (octet ∷ rest)) ≡ false = le-ltb _ _ most in
    rw short refl

confirm_again : (A : Type 0) (rest : List ℕ) (block : Block A) → BlockBy SpellsFields A rest block → block.user ≡ [] → clear_confirm_at rest ≡ Ok (ClearConfirm (Some block))
unfolding clear_confirm_at
confirm_again A rest block spelled none =
    rw (some_again A 0 rest block spelled (omega (arith, ap length none))) refl

-- the kind by a type octet that means the same modulo 8 and modulo 128
kind_by : (modulus : Modulus) (octet : ℕ) (kind : Kind) → kind_of moduli.Eight octet ≡ Some kind → kind_of moduli.Long octet ≡ Some kind → kind_of modulus octet ≡ Some kind
kind_by moduli.Eight octet kind eight long = eight
kind_by moduli.Long octet kind eight long = long

pub packet_again : (A : Type 0) (modulus : Modulus) (octets : List ℕ) (identifier : ℕ) (packet : Packet A) → Spells modulus octets identifier packet → packet_at modulus octets ≡ Ok (identifier, packet)
unfolding kind_of whole_kind_of call_at accepted_at clear_at clear_confirm_at optional_block_at reset_at header_only_at
packet_again A modulus octets identifier (Call d block) spelled =
    whole_again A modulus octets false d identifier 11 kinds.Call spelled.0 (Call d block) spelled.1 (kind_by modulus 11 kinds.Call refl refl) refl (rw (block_again A 128 spelled.0 block spelled.2 (user_most A spelled.0 block spelled.2)) refl)
packet_again A modulus octets identifier (Accepted d None) spelled = whole_again A modulus octets false d identifier 15 kinds.Accepted [] (Accepted d None) spelled (kind_by modulus 15 kinds.Accepted refl refl) refl refl
packet_again A modulus octets identifier (Accepted d (Some block)) spelled =
    whole_again A modulus octets false d identifier 15 kinds.Accepted spelled.0 (Accepted d (Some block)) spelled.1 (kind_by modulus 15 kinds.Accepted refl refl) refl (rw (some_again A 128 spelled.0 block spelled.2 (user_most A spelled.0 block spelled.2)) refl)
packet_again A modulus octets identifier (Clear cause None None) spelled = whole_again A modulus octets false false identifier 19 kinds.Clear (cause ∷ []) (Clear cause None None) spelled (kind_by modulus 19 kinds.Clear refl refl) refl refl
packet_again A modulus octets identifier (Clear cause None (Some block)) spelled = absurd spelled
packet_again A modulus octets identifier (Clear cause (Some diagnostic) None) spelled = whole_again A modulus octets false false identifier 19 kinds.Clear (cause ∷ diagnostic ∷ []) (Clear cause (Some diagnostic) None) spelled (kind_by modulus 19 kinds.Clear refl refl) refl refl
packet_again A modulus octets identifier (Clear cause (Some diagnostic) (Some block)) spelled =
    whole_again A modulus octets false false identifier 19 kinds.Clear (cause ∷ diagnostic ∷ spelled.0) (Clear cause (Some diagnostic) (Some block)) spelled.1 (kind_by modulus 19 kinds.Clear refl refl) refl (rw (some_again A 128 spelled.0 block spelled.2 (user_most A spelled.0 block spelled.2)) refl)
packet_again A modulus octets identifier (ClearConfirm None) spelled = whole_again A modulus octets false false identifier 23 kinds.ClearConfirm [] (ClearConfirm None) spelled (kind_by modulus 23 kinds.ClearConfirm refl refl) refl refl
packet_again A modulus octets identifier (ClearConfirm (Some block)) spelled =
    whole_again A modulus octets false false identifier 23 kinds.ClearConfirm spelled.0 (ClearConfirm (Some block)) spelled.1 (kind_by modulus 23 kinds.ClearConfirm refl refl) refl (confirm_again A spelled.0 block spelled.2 spelled.3)
packet_again A modulus octets identifier (DataPacket q d more ps pr carried) spelled = data_again A modulus octets q d more identifier ps pr carried spelled.0 spelled.1 spelled.2 spelled.3
packet_again A modulus octets identifier (Ready pr) spelled = flow_again A modulus octets identifier pr kinds.Ready spelled.0 (λ n. Ready n) (omega arith) (ready_kind pr) refl (λ h rest. refl) spelled.2
packet_again A modulus octets identifier (NotReady pr) spelled = flow_again A modulus octets identifier pr kinds.NotReady spelled.0 (λ n. NotReady n) (omega arith) (not_ready_kind pr) refl (λ h rest. refl) spelled.2
packet_again A modulus octets identifier (Reject pr) spelled = flow_again A modulus octets identifier pr kinds.Reject spelled.0 (λ n. Reject n) (omega arith) (reject_kind pr) refl (λ h rest. refl) spelled.2
packet_again A modulus octets identifier (Interrupt carried) spelled =
    whole_again A modulus octets false false identifier 35 kinds.Interrupt carried (Interrupt carried) spelled.0 (kind_by modulus 35 kinds.Interrupt refl refl) refl (interrupt_again A carried spelled.1 spelled.2)
packet_again A modulus octets identifier InterruptConfirm spelled = whole_again A modulus octets false false identifier 39 kinds.InterruptConfirm [] InterruptConfirm spelled (kind_by modulus 39 kinds.InterruptConfirm refl refl) refl refl
packet_again A modulus octets identifier (Reset cause None) spelled = whole_again A modulus octets false false identifier 27 kinds.Reset (cause ∷ []) (Reset cause None) spelled (kind_by modulus 27 kinds.Reset refl refl) refl refl
packet_again A modulus octets identifier (Reset cause (Some diagnostic)) spelled = whole_again A modulus octets false false identifier 27 kinds.Reset (cause ∷ diagnostic ∷ []) (Reset cause (Some diagnostic)) spelled (kind_by modulus 27 kinds.Reset refl refl) refl refl
packet_again A modulus octets identifier ResetConfirm spelled = whole_again A modulus octets false false identifier 31 kinds.ResetConfirm [] ResetConfirm spelled (kind_by modulus 31 kinds.ResetConfirm refl refl) refl refl
