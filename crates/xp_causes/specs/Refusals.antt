-- The refusals of call requests (X.25 clause 5.2.4 and Annex E).
use Rattle.std.specs.Prelude.{ℕ, ◌<◌, List, [], ◌∷◌, All}
use Rattle.xp_causes.specs.declared.refusal.Refusal.{Refusal}
use Rattle.xp_causes.specs.declared.refusal.TheConstants.Refusal.{FACILITY_LENGTH, FACILITY_NOT_ALLOWED, FACILITY_PARAMETER, USER_DATA_TOO_LONG, ACCESS_BARRED, GROUP_NOT_KNOWN, ADDRESS_NOT_KNOWN, INCOMING_CALLS_BARRED, REVERSE_CHARGING_NOT_ACCEPTED, FAST_SELECT_NOT_ACCEPTED, OUT_OF_ORDER, NUMBER_BUSY, TOO_MANY_REDIRECTIONS}

-- those of the decision of a call request
abbrev pub call_refusals : List Refusal
call_refusals =
    FACILITY_LENGTH
    ∷ FACILITY_NOT_ALLOWED
    ∷ FACILITY_PARAMETER
    ∷ USER_DATA_TOO_LONG
    ∷ ACCESS_BARRED
    ∷ GROUP_NOT_KNOWN
    ∷ ADDRESS_NOT_KNOWN
    ∷ INCOMING_CALLS_BARRED
    ∷ REVERSE_CHARGING_NOT_ACCEPTED
    ∷ FAST_SELECT_NOT_ACCEPTED
    ∷ OUT_OF_ORDER
    ∷ NUMBER_BUSY
    ∷ TOO_MANY_REDIRECTIONS
    ∷ []

-- the cause and the diagnostic each fit an octet of the clear indication
pub record FitsOctets (refusal : Refusal) : Type 0 where
  pub cause : refusal.cause < 256
  pub diagnostic : refusal.diagnostic < 256

-- this holds of each refusal
abbrev pub RefusalsFitOctets : Type 0
RefusalsFitOctets = All FitsOctets call_refusals
