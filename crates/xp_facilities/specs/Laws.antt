-- Laws of the fields that indicate facilities (X.25 clauses 6 and 7.2).
use Rattle.std.specs.Prelude.{◌≡◌, ℕ, List, false, None, IfSome}
use Rattle.xp_packets.specs.Digits.{AreDigits}
use Rattle.xp_facilities.specs.Requested.{Means}
use Rattle.xp_facilities.specs.Indicated.{Indicates}
use Rattle.xp_facilities.specs.declared.requested.RequestedFacilities.{RequestedFacilities}
use Rattle.xp_facilities.specs.declared.redirection.RedirectionNotification.{RedirectionNotification}
use Rattle.xp_facilities.specs.declared.indicated.IndicatedFacilities.{IndicatedFacilities}

-- the dialled address consists of digits
abbrev pub HasDigits : {A : Type 0} → IndicatedFacilities A → Type 0
HasDigits told = IfSome told.redirected (λ (r : RedirectionNotification). AreDigits r.dialled)

-- The field indicates no other facilities.
abbrev pub IndicatesOnlyThis : {A : Type 0} → IndicatedFacilities A → List ℕ → Type 0
IndicatesOnlyThis {A} told field = (other : IndicatedFacilities A) → HasDigits other → Indicates other field → other ≡ told

-- a request for the facilities that are indicated; charging information can only be requested, not indicated
abbrev pub same_request : {A : Type 0} → IndicatedFacilities A → RequestedFacilities A
same_request told =
    record {
      selection = told.selection;
      fast = told.fast;
      reverse = told.reverse;
      throughput = told.throughput;
      charging = false;
      packet = told.packet;
      window = told.window;
      dte = told.dte;
    }

-- nothing that can only be indicated: a modified address, a duration, segment counts or a redirection
pub record CanBeRequested {A : Type 0} (told : IndicatedFacilities A) : Type 0 where
  pub modified : told.modified ≡ None
  pub duration : told.duration ≡ None
  pub segments : told.segments ≡ None
  pub redirected : told.redirected ≡ None

-- A field that indicates nothing else requests those facilities when it is parsed.
abbrev pub IsReadBack : {A : Type 0} → IndicatedFacilities A → List ℕ → Type 0
IsReadBack told field = CanBeRequested told → Means field (same_request told)
