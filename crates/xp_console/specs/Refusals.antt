-- Refused calls, counted by the clearing cause.
use Rattle.std.specs.Prelude.{ℕ, ◌+◌, ◌-◌, ◌^◌, ◌==◌, if◌then◌else◌, List, [], ◌∷◌, min}
use Rattle.xp_console.specs.declared.refused.RefusedCalls.{RefusedCalls}

-- the clearing causes that the exchange sends (X.25 clause 5.2.4), each with its count
abbrev pub by_cause : RefusedCalls → List (ℕ × ℕ)
by_cause refused =
    (0x01, refused.number_busy)
    ∷ (0x03, refused.invalid_facility_request)
    ∷ (0x05, refused.network_congestion)
    ∷ (0x09, refused.out_of_order)
    ∷ (0x0b, refused.access_barred)
    ∷ (0x0d, refused.not_obtainable)
    ∷ (0x11, refused.remote_procedure_error)
    ∷ (0x13, refused.local_procedure_error)
    ∷ (0x19, refused.reverse_charging_not_subscribed)
    ∷ (0x29, refused.fast_select_not_subscribed)
    ∷ []

-- one more with this cause
abbrev pub counted : ℕ → ℕ × ℕ → ℕ × ℕ
counted cause refused =
    (refused.0, if refused.0 == cause then min (refused.1 + 1) (2 ^ 64 - 1) else refused.1)
