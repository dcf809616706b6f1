-- What a packet says of one direction, and what packets that are put out bring to an end.
use Rattle.std.specs.Prelude.{ℕ, suc, ◌-◌, ◌%◌, Bool, true, false, not, ◌&&◌, ◌||◌, if◌then◌else◌, Option, Some, None, unwrap_or, List, [], ◌∷◌, ◌++◌}
use Rattle.xp_packets.specs.declared.end.End.{End}
use Rattle.xp_packets.specs.declared.end.End.TheVariants.{Caller, Called}
use Rattle.xp_packets.specs.declared.packet.Packet.{Packet}
use Rattle.xp_packets.specs.declared.packet.Packet.TheVariants.{DataPacket, Ready, NotReady, Interrupt, Reset, ResetConfirm}
use Rattle.xp_relay.specs.declared.data.Data.{Data}
use Rattle.xp_relay.specs.declared.moves.Move.{Move}
use Rattle.xp_relay.specs.Direction.{first_count}

-- the two ends are one
abbrev pub same_end : End → End → Bool
same_end Caller Caller = true
same_end Caller Called = false
same_end Called Caller = false
same_end Called Called = true

-- data, each with its number: from this count on, modulo the numbers of the line
abbrev pub with_numbers : {A : Type 0} → ℕ → ℕ → List (Data A) → List (ℕ × Data A)
with_numbers modulus count [] = []
with_numbers modulus count (x ∷ rest) = (count % modulus, x) ∷ with_numbers modulus (suc count) rest

-- the data of a packet with its P(S), where the packet is for this end
abbrev pub data_in : {A : Type 0} → Bool → Packet A → List (ℕ × Data A)
data_in mine (DataPacket q d more ps pr octets) =
    if mine then (ps, record { q = q; d = d; more = more; octets = octets }) ∷ [] else []
data_in mine _ = []

-- the data of a packet, where its sender may send it
abbrev pub offered : {A : Type 0} → Bool → Packet A → List (Data A)
offered may (DataPacket q d more ps pr octets) = if may then record { q = q; d = d; more = more; octets = octets } ∷ [] else []
offered may _ = []

-- Whether an end is ready for data, after a packet. RR and RNR say so, where that end sent the packet and may send it.
abbrev pub ready_after : {A : Type 0} → Bool → Packet A → Bool → Bool
ready_after may (Ready pr) ready = if may then true else ready
ready_after may (NotReady pr) ready = if may then false else ready
ready_after may _ ready = ready

-- a reset indication, a reset request or a reset confirmation
abbrev pub is_of_reset : {A : Type 0} → Packet A → Bool
is_of_reset (Reset cause diagnostic) = true
is_of_reset ResetConfirm = true
is_of_reset _ = false

-- the call was reset: an end receives a reset indication or a reset confirmation
abbrev pub resets : {A : Type 0} → List (Move A) → Bool
resets [] = false
resets (m ∷ rest) = is_of_reset m.packet || resets rest

-- a reset indication or a reset request
abbrev pub is_reset : {A : Type 0} → Packet A → Bool
is_reset (Reset cause diagnostic) = true
is_reset _ = false

-- the moves bring a reset indication to an end
abbrev pub is_indicated : {A : Type 0} → End → List (Move A) → Bool
is_indicated end [] = false
is_indicated end (m ∷ rest) = (same_end end m.side && is_reset m.packet) || is_indicated end rest

-- Whether an end that owed a reset confirmation, or none, owes one after a packet. It sends a reset confirmation or, in its
-- place, a reset request (X.25 clauses 4.4.3.3 and 4.4.3.4).
abbrev pub still_owes : {A : Type 0} → Bool → Packet A → Bool → Bool
still_owes mine packet owes = owes && not (mine && is_of_reset packet)

-- the data that moves bring to an end, in order
abbrev pub data_to : {A : Type 0} → End → List (Move A) → List (ℕ × Data A)
data_to side [] = []
data_to side (m ∷ rest) = data_in (same_end side m.side) m.packet ++ data_to side rest

-- the P(R) of a packet, where the packet is for this end (X.25 clause 4.4.1.3)
abbrev pub numbers_in : {A : Type 0} → Bool → Packet A → List ℕ
numbers_in mine (DataPacket q d more ps pr octets) = if mine then pr ∷ [] else []
numbers_in mine (Ready pr) = if mine then pr ∷ [] else []
numbers_in mine (NotReady pr) = if mine then pr ∷ [] else []
numbers_in mine _ = []

-- each P(R) that moves bring to an end, in order
abbrev pub numbers_to : {A : Type 0} → End → List (Move A) → List ℕ
numbers_to side [] = []
numbers_to side (m ∷ rest) = numbers_in (same_end side m.side) m.packet ++ numbers_to side rest

-- the P(R) of a packet
abbrev pub number_of : {A : Type 0} → Packet A → Option ℕ
number_of (DataPacket q d more ps pr octets) = Some pr
number_of (Ready pr) = Some pr
number_of (NotReady pr) = Some pr
number_of _ = None

-- How many packets are acknowledged after a P(R): the count that it stands for, no less than before and no more than were
-- put out. A P(R) that stands for none acknowledges nothing.
abbrev pub count_after : ℕ → ℕ → Option ℕ → ℕ → ℕ
count_after modulus put None count = count
count_after modulus put (Some number) count = unwrap_or (first_count modulus number count (put - count)) count

-- whether an end was told last that its far end is ready: the last RR or RNR that moves bring to it says so
abbrev pub ready_told : {A : Type 0} → End → List (Move A) → Bool → Bool
ready_told side [] ready = ready
ready_told side (m ∷ rest) ready = ready_told side rest (ready_after (same_end side m.side) m.packet ready)

-- the octets of an interrupt, where its sender may send it, or where it is for this end (X.25 clause 4.3.7)
abbrev pub interrupt_in : {A : Type 0} → Bool → Packet A → List (List ℕ)
interrupt_in mine (Interrupt octets) = if mine then octets ∷ [] else []
interrupt_in mine _ = []

-- the octets of the interrupts that moves bring to an end, in order
abbrev pub interrupts_to : {A : Type 0} → End → List (Move A) → List (List ℕ)
interrupts_to side [] = []
interrupts_to side (m ∷ rest) = interrupt_in (same_end side m.side) m.packet ++ interrupts_to side rest

-- the last of some counts, or this one if there are none
abbrev pub last_count : ℕ → List (ℕ × ℕ) → ℕ
last_count count [] = count
last_count count (told ∷ rest) = last_count told.1 rest
