-- The redirection of a station's calls for one reason (X.25 clause 6.25).
use Rattle.std.specs.Prelude.{◌≡◌, Option, None, Some}
use Rattle.xp_facilities.specs.declared.redirection.Reason.{Reason}
use Rattle.xp_subs.specs.declared.station.Station.{Station}
use Rattle.xp_decide.specs.declared.visit.AddressOutcome.{AddressOutcome}
use Rattle.xp_decide.specs.declared.visit.AddressOutcome.TheVariants as visits
use Rattle.xp_decide.specs.Routes.{alternate}

-- the redirection for this reason, if the station has one
abbrev pub IsRedirected : Station → Reason → Option AddressOutcome → Type 0
IsRedirected station reason None = alternate station reason ≡ None
IsRedirected station reason (Some (visits.RedirectedTo why to)) = (why ≡ reason) × (alternate station reason ≡ Some to.now)
IsRedirected station reason (Some (visits.Taken line admission)) = ⊥
