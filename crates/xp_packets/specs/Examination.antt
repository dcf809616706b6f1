-- Why octets are not a packet: the first that holds of a list of conditions over all the octets.
use Rattle.std.specs.Prelude.{◌≡◌, ℕ, ◌+◌, ◌/◌, ◌%◌, ◌==◌, nat_lt, Bool, false, not, ◌||◌, if◌then◌else◌, List, [], ◌∷◌, length, take, drop, slice_index, Option, Some, None, is_none}
use Rattle.std.specs.List.{list_all}
use Rattle.xp_packets.specs.declared.fault.Malformed.{Malformed}
use Rattle.xp_packets.specs.declared.fault.Malformed.TheVariants.{Short, Format, Unknown, Address, Facilities, Long}
use Rattle.xp_packets.specs.declared.kind.Kind.{Kind}
use Rattle.xp_packets.specs.declared.kind.Kind.TheVariants.{Call, Accepted, Clear, ClearConfirm, Interrupt, Reset, Data, Ready, NotReady, Reject}
use Rattle.xp_packets.specs.declared.modulus.Modulus.{Modulus}
use Rattle.xp_packets.specs.declared.modulus.Modulus.TheVariants as moduli
use Rattle.xp_packets.specs.Digits.{half_octets, octets_for}
use Rattle.xp_packets.specs.Heading.{wrong_format}
use Rattle.xp_packets.specs.Kinds.{kind_of}

-- the fault of the first condition in a list that holds
abbrev pub first_of : List (Bool × Malformed) → Option Malformed
first_of [] = None
first_of (condition ∷ conditions) = if condition.0 then Some condition.1 else first_of conditions

-- ---- a block

-- how many digits its first octet announces, of both addresses together
abbrev pub digit_count : ℕ → ℕ
digit_count lengths = lengths % 16 + lengths / 16

-- the octets that hold its digits
abbrev pub digit_octets : List ℕ → List ℕ
digit_octets [] = []
digit_octets (lengths ∷ rest) = take (octets_for (digit_count lengths)) rest

-- the octets after its digits
abbrev pub after_digits : List ℕ → List ℕ
after_digits [] = []
after_digits (lengths ∷ rest) = drop (octets_for (digit_count lengths)) rest

-- the digits go past the end, a digit is above 9, or the half-octet that fills the last octet is not zero
abbrev pub has_wrong_address : List ℕ → Bool
has_wrong_address [] = false
has_wrong_address (lengths ∷ rest) =
    nat_lt (length rest) (octets_for (digit_count lengths))
    || (not (list_all (λ half. nat_lt half 10) (take (digit_count lengths) (half_octets (digit_octets (lengths ∷ rest)))))
    || not (list_all (λ half. half == 0) (drop (digit_count lengths) (half_octets (digit_octets (lengths ∷ rest))))))

-- the facility length is over 109 or goes past the end
abbrev pub has_wrong_size : List ℕ → Bool
has_wrong_size [] = false
has_wrong_size (size ∷ rest) = nat_lt 109 size || nat_lt (length rest) size

-- the octets after the facilities
abbrev pub after_facilities : List ℕ → List ℕ
after_facilities [] = []
after_facilities (size ∷ rest) = drop size rest

-- ---- a packet

-- the octets of its block
abbrev pub block_octets : Option Kind → List ℕ → List ℕ
block_octets (Some Call) rest = rest
block_octets (Some Accepted) rest = rest
block_octets (Some Clear) rest = drop 2 rest
block_octets (Some ClearConfirm) rest = rest
block_octets _ rest = []

-- how many octets P(R) takes after the type octet
abbrev pub received_octets : Modulus → ℕ
received_octets moduli.Eight = 0
received_octets moduli.Long = 1

-- the same of a packet of this kind, which may have no P(R)
abbrev pub number_octets : Modulus → Option Kind → ℕ
number_octets modulus (Some Data) = received_octets modulus
number_octets modulus (Some Ready) = received_octets modulus
number_octets modulus (Some NotReady) = received_octets modulus
number_octets modulus (Some Reject) = received_octets modulus
number_octets modulus _ = 0

-- how many octets must follow the type octet: a cause, P(R), or the first of a block or of interrupt data
abbrev pub least_octets : Modulus → Option Kind → ℕ
least_octets modulus (Some Call) = 1
least_octets modulus (Some Clear) = 1
least_octets modulus (Some Interrupt) = 1
least_octets modulus (Some Reset) = 1
least_octets modulus kind = number_octets modulus kind

-- how many octets may follow the type and P(R), or the facilities where there is a block
abbrev pub most_octets : Option Kind → ℕ
most_octets (Some Call) = 128
most_octets (Some Accepted) = 128
most_octets (Some Clear) = 128
most_octets (Some Interrupt) = 32
most_octets (Some Reset) = 2
most_octets (Some Data) = 1024
most_octets _ = 0

-- the octets to which that limit applies
abbrev pub bounded_octets : Modulus → Option Kind → List ℕ → List ℕ
bounded_octets modulus (Some Call) rest = after_facilities (after_digits rest)
bounded_octets modulus (Some Accepted) rest = after_facilities (after_digits rest)
bounded_octets modulus (Some Clear) rest = after_facilities (after_digits (drop 2 rest))
bounded_octets modulus (Some ClearConfirm) rest = after_facilities (after_digits rest)
bounded_octets modulus kind rest = drop (number_octets modulus kind) rest

abbrev pub kind_in : Modulus → List ℕ → Option Kind
kind_in modulus octets = kind_of modulus (slice_index octets 2)

abbrev pub block_in : Modulus → List ℕ → List ℕ
block_in modulus octets = block_octets (kind_in modulus octets) (drop 3 octets)

-- the conditions, in the order in which they are checked
abbrev pub conditions : Modulus → List ℕ → List (Bool × Malformed)
conditions modulus octets =
    (nat_lt (length octets) 3, Short)
    ∷ (wrong_format modulus (slice_index octets 0) (slice_index octets 2), Format)
    ∷ (is_none (kind_in modulus octets), Unknown)
    ∷ (nat_lt (length (drop 3 octets)) (least_octets modulus (kind_in modulus octets)), Short)
    ∷ (has_wrong_address (block_in modulus octets), Address)
    ∷ (has_wrong_size (after_digits (block_in modulus octets)), Facilities)
    ∷ (nat_lt (most_octets (kind_in modulus octets)) (length (bounded_octets modulus (kind_in modulus octets) (drop 3 octets))), Long)
    ∷ []

-- this is the fault of the first condition that holds
abbrev pub IsMalformed : Modulus → List ℕ → Malformed → Type 0
IsMalformed modulus octets wrong = first_of (conditions modulus octets) ≡ Some wrong
