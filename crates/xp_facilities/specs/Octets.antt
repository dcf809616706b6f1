-- The octet for each reason, and the bounds of sizes.
use Rattle.std.specs.Prelude.{ℕ, Bool, nat_le, ◌&&◌}
use Rattle.xp_facilities.specs.declared.direction_sizes.DirectionSizes.{DirectionSizes}
use Rattle.xp_facilities.specs.declared.redirection.Reason.{Reason}
use Rattle.xp_facilities.specs.declared.redirection.Reason.TheVariants.{Busy, Distribution, OutOfOrder, Systematic}

-- the octet for a reason (X.25 clauses 7.2.2.11 and 7.2.2.12)
abbrev pub reason_octet : Reason → ℕ
reason_octet Busy = 0x01
reason_octet Distribution = 0x07
reason_octet OutOfOrder = 0x09
reason_octet Systematic = 0x0f

-- both packet or window sizes are within these bounds
abbrev pub is_within : ℕ → ℕ → DirectionSizes → Bool
is_within least most sizes =
    nat_le least sizes.from_called && nat_le sizes.from_called most && (nat_le least sizes.from_calling && nat_le sizes.from_calling most)
