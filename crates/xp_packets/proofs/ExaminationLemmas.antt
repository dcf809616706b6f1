-- What reading a packet fails for is the first condition, in the order of examination, that holds.
use Rattle.std.proofs.Common.{◌≡◌, ℕ, Bool, true, false, cond, ltb, List, [], ◌∷◌, length, Option, Some, None, Result, Ok, Err, refl, ◌∙◌, arith}
use Rattle.std.specs.Prelude.{is_none}
use Rattle.std.proofs.lemmas.Bool.{lt-ltb, le-ltb}
use Rattle.xp_packets.specs.declared.fault.Malformed.{Malformed}
use Rattle.xp_packets.specs.declared.fault.Malformed.TheVariants.{Short, Format, Unknown, Address, Facilities, Long}
use Rattle.xp_packets.specs.declared.header.Header.{Header}
use Rattle.xp_packets.specs.declared.kind.Kind.{Kind}
use Rattle.xp_packets.specs.declared.kind.Kind.TheVariants as kinds
use Rattle.xp_packets.specs.declared.modulus.Modulus.{Modulus}
use Rattle.xp_packets.specs.declared.modulus.Modulus.TheVariants as moduli
use Rattle.xp_packets.specs.declared.block.Block.{Block}
use Rattle.xp_packets.specs.declared.packet.Packet.{Packet}
use Rattle.xp_packets.specs.declared.packet.Packet.TheVariants.{Call, Accepted, Clear, ClearConfirm, Ready, NotReady, Reject, InterruptConfirm, ResetConfirm}
use Rattle.xp_packets.specs.Kinds.{kind_of}
use Rattle.xp_packets.specs.Heading.{wrong_format}
use Rattle.xp_packets.specs.Examination.{first_of, after_digits, has_wrong_address, has_wrong_size, block_octets, least_octets, most_octets, bounded_octets, conditions}
use Rattle.xp_packets.specs.steps.Numbers.{data_numbers_at, flow_number_at}
use Rattle.xp_packets.specs.steps.Reading.{◌>>=◌, known_header, header_at, block_at, optional_block_at, call_at, accepted_at, clear_at, clear_confirm_at, data_at, flow_at, interrupt_at, reset_at, header_only_at, body_by, packet_at}
use Rattle.xp_packets.proofs.BlockLemmas.{block_conditions, block_error}
use Rattle.xp_packets.proofs.Results.{error_of, error_guard, error_bind}

-- the conditions on what stands after the type octet
abbrev rest_conditions : Modulus → Option Kind → List ℕ → List (Bool × Malformed)
rest_conditions modulus kind rest = (is_none kind, Unknown) ∷ (ltb (length rest) (least_octets modulus kind), Short) ∷ (has_wrong_address (block_octets kind rest), Address) ∷ (has_wrong_size (after_digits (block_octets kind rest)), Facilities) ∷ (ltb (most_octets kind) (length (bounded_octets modulus kind rest)), Long) ∷ []

some_left : (octet : ℕ) (rest : List ℕ) → ltb (length (octet ∷ rest)) 1 ≡ false
some_left octet rest = le-ltb _ _ (omega arith)

enough : (rest : List ℕ) → ltb (length rest) 0 ≡ false
enough rest = le-ltb _ _ (omega arith)

option_error : (A : Type 0) (most lengths : ℕ) (rest : List ℕ) → error_of (optional_block_at {A = A} most (lengths ∷ rest)) ≡ first_of (block_conditions most (lengths ∷ rest))
unfolding optional_block_at
option_error A most lengths rest = error_bind (block_at most (lengths ∷ rest)) (λ (block : Block A). Some block) ∙ block_error A most lengths rest

call_error : (A : Type 0) (modulus : Modulus) (d : Bool) (rest : List ℕ) → error_of (call_at {A = A} d rest) ≡ first_of (rest_conditions modulus (Some kinds.Call) rest)
unfolding call_at block_at
call_error A modulus d [] = refl
call_error A modulus d (lengths ∷ rest) = rw (some_left lengths rest) (error_bind (block_at 128 (lengths ∷ rest)) (λ (block : Block A). Call d block) ∙ block_error A 128 lengths rest)

accepted_error : (A : Type 0) (modulus : Modulus) (d : Bool) (rest : List ℕ) → error_of (accepted_at {A = A} d rest) ≡ first_of (rest_conditions modulus (Some kinds.Accepted) rest)
unfolding accepted_at optional_block_at
accepted_error A modulus d [] = refl
accepted_error A modulus d (lengths ∷ rest) = rw (enough (lengths ∷ rest)) (error_bind (optional_block_at 128 (lengths ∷ rest)) (λ (block : Option (Block A)). Accepted d block) ∙ option_error A 128 lengths rest)

clear_error : (A : Type 0) (modulus : Modulus) (rest : List ℕ) → error_of (clear_at {A = A} rest) ≡ first_of (rest_conditions modulus (Some kinds.Clear) rest)
unfolding clear_at optional_block_at
clear_error A modulus [] = refl
clear_error A modulus (cause ∷ []) = refl
clear_error A modulus (cause ∷ diagnostic ∷ []) = refl
clear_error A modulus (cause ∷ diagnostic ∷ lengths ∷ rest) = rw (some_left cause (diagnostic ∷ lengths ∷ rest)) (error_bind (optional_block_at 128 (lengths ∷ rest)) (λ (block : Option (Block A)). Clear cause (Some diagnostic) block) ∙ option_error A 128 lengths rest)

confirm_error : (A : Type 0) (modulus : Modulus) (rest : List ℕ) → error_of (clear_confirm_at {A = A} rest) ≡ first_of (rest_conditions modulus (Some kinds.ClearConfirm) rest)
unfolding clear_confirm_at optional_block_at
confirm_error A modulus [] = refl
confirm_error A modulus (lengths ∷ rest) = rw (enough (lengths ∷ rest)) (error_bind (optional_block_at 0 (lengths ∷ rest)) (λ (block : Option (Block A)). ClearConfirm block) ∙ option_error A 0 lengths rest)

data_error : (A : Type 0) (modulus : Modulus) (q d : Bool) (octet : ℕ) (rest : List ℕ) → error_of (data_at {A = A} modulus q d octet rest) ≡ first_of (rest_conditions modulus (Some kinds.Data) rest)
unfolding data_at data_numbers_at
data_error A moduli.Eight q d octet rest = rw (enough rest) (error_guard (ltb 1024 (length rest)) Long _ None refl)
data_error A moduli.Long q d octet [] = refl
data_error A moduli.Long q d octet (second ∷ rest) = rw (some_left second rest) (error_guard (ltb 1024 (length rest)) Long _ None refl)

flow_error : (A : Type 0) (modulus : Modulus) (made : ℕ → Packet A) (octet : ℕ) (rest : List ℕ) → error_of (flow_at made modulus octet rest) ≡ first_of (rest_conditions modulus (Some kinds.Ready) rest)
unfolding flow_at flow_number_at
flow_error A moduli.Eight made octet [] = refl
flow_error A moduli.Eight made octet (more ∷ rest) =
    let long : ltb 0 (length (more ∷ rest)) ≡ true = lt-ltb _ _ (omega arith) in
    rw (enough (more ∷ rest), long) refl
flow_error A moduli.Long made octet [] = refl
flow_error A moduli.Long made octet (second ∷ []) = refl
flow_error A moduli.Long made octet (second ∷ more ∷ rest) =
    let long : ltb 0 (length (more ∷ rest)) ≡ true = lt-ltb _ _ (omega arith) in
    rw (some_left second (more ∷ rest), long) refl

interrupt_error : (A : Type 0) (modulus : Modulus) (rest : List ℕ) → error_of (interrupt_at {A = A} rest) ≡ first_of (rest_conditions modulus (Some kinds.Interrupt) rest)
unfolding interrupt_at
interrupt_error A modulus [] = refl
interrupt_error A modulus (octet ∷ rest) = rw (some_left octet rest) (error_guard (ltb 32 (length (octet ∷ rest))) Long _ None refl)

reset_error : (A : Type 0) (modulus : Modulus) (rest : List ℕ) → error_of (reset_at {A = A} rest) ≡ first_of (rest_conditions modulus (Some kinds.Reset) rest)
unfolding reset_at
reset_error A modulus [] = refl
reset_error A modulus (cause ∷ []) = refl
reset_error A modulus (cause ∷ diagnostic ∷ []) = refl
reset_error A modulus (cause ∷ diagnostic ∷ more ∷ rest) =
    let long : ltb 2 (length (cause ∷ diagnostic ∷ more ∷ rest)) ≡ true = lt-ltb _ _ (omega arith) in
    rw (some_left cause (diagnostic ∷ more ∷ rest), long) refl

-- a kind that has neither a block nor an octet that has to stand there
alone_error : (A : Type 0) (packet : Packet A) (rest : List ℕ) → error_of (header_only_at packet rest) ≡ cond (ltb 0 (length rest)) (Some Long) None
unfolding header_only_at
alone_error A packet [] = refl
alone_error A packet (octet ∷ rest) =
    let long : ltb 0 (length (octet ∷ rest)) ≡ true = lt-ltb _ _ (omega arith) in
    rw long refl

body_error : (A : Type 0) (modulus : Modulus) (kind : Kind) (header : Header) (rest : List ℕ) → error_of (body_by {A = A} modulus kind header rest) ≡ first_of (rest_conditions modulus (Some kind) rest)
body_error A modulus kinds.Call header rest = call_error A modulus header.d rest
body_error A modulus kinds.Accepted header rest = accepted_error A modulus header.d rest
body_error A modulus kinds.Clear header rest = clear_error A modulus rest
body_error A modulus kinds.ClearConfirm header rest = confirm_error A modulus rest
body_error A modulus kinds.Interrupt header rest = interrupt_error A modulus rest
body_error A modulus kinds.InterruptConfirm header rest = rw (enough rest) (alone_error A InterruptConfirm rest)
body_error A modulus kinds.Reset header rest = reset_error A modulus rest
body_error A modulus kinds.ResetConfirm header rest = rw (enough rest) (alone_error A ResetConfirm rest)
body_error A modulus kinds.Data header rest = data_error A modulus header.q header.d header.octet rest
body_error A modulus kinds.Ready header rest = flow_error A modulus (λ pr. Ready pr) header.octet rest
body_error A modulus kinds.NotReady header rest = flow_error A modulus (λ pr. NotReady pr) header.octet rest
body_error A modulus kinds.Reject header rest = flow_error A modulus (λ pr. Reject pr) header.octet rest

abbrev ok_pair : {A : Type 0} → ℕ → Packet A → Result (ℕ × Packet A) Malformed
ok_pair identifier packet = Ok (identifier, packet)

abbrev go_on : {A : Type 0} → Modulus → Header × List ℕ → Result (ℕ × Packet A) Malformed
go_on modulus h = body_by modulus h.0.kind h.0 h.1 >>= λ packet. ok_pair h.0.identifier packet

known_error : (A : Type 0) (modulus : Modulus) (first number octet : ℕ) (rest : List ℕ) (kind : Option Kind) → error_of (known_header first number octet rest kind >>= λ (h : Header × List ℕ). go_on {A = A} modulus h) ≡ first_of (rest_conditions modulus kind rest)
known_error A modulus first number octet rest None = refl
known_error A modulus first number octet rest (Some kind) = error_bind (body_by modulus kind _ rest) (λ (packet : Packet A). (_, packet)) ∙ body_error A modulus kind _ rest

pub packet_error : (A : Type 0) (modulus : Modulus) (octets : List ℕ) → error_of (packet_at {A = A} modulus octets) ≡ first_of (conditions modulus octets)
unfolding packet_at header_at
packet_error A modulus [] = refl
packet_error A modulus (first ∷ []) = refl
packet_error A modulus (first ∷ number ∷ []) = refl
packet_error A modulus (first ∷ number ∷ octet ∷ rest) =
    let long : ltb (length (first ∷ number ∷ octet ∷ rest)) 3 ≡ false = le-ltb _ _ (omega arith) in
    rw long (one (wrong_format modulus first octet))
  where
    one : (b : Bool) → error_of ((cond b (Err Format) (known_header first number octet rest (kind_of modulus octet))) >>= λ (h : Header × List ℕ). go_on {A = A} modulus h) ≡ cond b (Some Format) (first_of (rest_conditions modulus (kind_of modulus octet) rest))
    one true = refl
    one false = known_error A modulus first number octet rest (kind_of modulus octet)
