-- What the far end of a call receives when a DTE requests a clear or a reset (X.25 clauses 5.2.4 and 5.4.3).
use Rattle.std.specs.Prelude.{ℕ, Option, if◌then◌else◌, nat_le, unwrap_or}
use Rattle.xp_causes.specs.declared.diagnostic.TheConstants.{NO_ADDITIONAL_INFORMATION}
use Rattle.xp_causes.specs.declared.dte.TheConstants.{DTE_ORIGINATED, FIRST_DTE_CAUSE}

-- a cause of 0x80 to 0xff is sent unchanged; every other cause is sent as DTE originated
abbrev pub indicated_cause : ℕ → ℕ
indicated_cause cause = if nat_le FIRST_DTE_CAUSE cause then cause else DTE_ORIGINATED

-- a missing diagnostic is sent as no additional information
abbrev pub indicated_diagnostic : Option ℕ → ℕ
indicated_diagnostic diagnostic = unwrap_or diagnostic NO_ADDITIONAL_INFORMATION
