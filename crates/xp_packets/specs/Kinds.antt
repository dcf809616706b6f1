-- The packet type identifier (X.25 clause 5.1, table 5-2).
use Rattle.std.specs.Prelude.{ℕ, ◌%◌, ◌==◌, if◌then◌else◌, Option, Some, None}
use Rattle.xp_packets.specs.declared.kind.Kind.{Kind}
use Rattle.xp_packets.specs.declared.kind.Kind.TheVariants.{Call, Accepted, Clear, ClearConfirm, Interrupt, InterruptConfirm, Reset, ResetConfirm, Data, Ready, NotReady, Reject}
use Rattle.xp_packets.specs.declared.modulus.Modulus.{Modulus}
use Rattle.xp_packets.specs.declared.modulus.Modulus.TheVariants.{Eight, Long}

-- the type octet of a kind, with zero where it carries numbers
abbrev pub octet_of : Kind → ℕ
octet_of Call = 11
octet_of Accepted = 15
octet_of Clear = 19
octet_of ClearConfirm = 23
octet_of Interrupt = 35
octet_of InterruptConfirm = 39
octet_of Reset = 27
octet_of ResetConfirm = 31
octet_of Data = 0
octet_of Ready = 1
octet_of NotReady = 5
octet_of Reject = 9

-- the kind of a type octet that carries no numbers
unfoldable pub whole_kind_of : ℕ → Option Kind
whole_kind_of octet =
    if octet == 11 then Some Call else
    (if octet == 15 then Some Accepted else
    (if octet == 19 then Some Clear else
    (if octet == 23 then Some ClearConfirm else
    (if octet == 35 then Some Interrupt else
    (if octet == 39 then Some InterruptConfirm else
    (if octet == 27 then Some Reset else
    (if octet == 31 then Some ResetConfirm else None)))))))

-- the type octet of a flow control packet without the P(R) that it carries modulo 8
abbrev pub without_number : Modulus → ℕ → ℕ
without_number Eight octet = octet % 32
without_number Long octet = octet

-- the kind of a type octet: data where bit 1 is zero
unfoldable pub kind_of : Modulus → ℕ → Option Kind
kind_of modulus octet =
    if octet % 2 == 0 then Some Data else
    (if without_number modulus octet == octet_of Ready then Some Ready else
    (if without_number modulus octet == octet_of NotReady then Some NotReady else
    (if without_number modulus octet == octet_of Reject then Some Reject else whole_kind_of octet)))
