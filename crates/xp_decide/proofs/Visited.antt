-- What becomes of a call at a place that is known.
use Rattle.std.proofs.Common.{◌≡◌, ℕ, List, Option, None, Some, Ok, Err, refl, sym, ◌∙◌, ap, option_map}
use Rattle.std.specs.Option.{ok_or}
use Rattle.xp_facilities.specs.declared.redirection.Reason.TheVariants.{Busy, OutOfOrder, Systematic}
use Rattle.xp_groups.specs.declared.admission.Admission.{Admission}
use Rattle.xp_causes.specs.declared.refusal.Refusal.{Refusal}
use Rattle.xp_causes.specs.declared.refusal.TheConstants.Refusal.{OUT_OF_ORDER, NUMBER_BUSY}
use Rattle.xp_hunt.specs.Picks.{IsIdleIn, AreOff, HasNoneIdle, HasBusy}
use Rattle.xp_hunt.specs.declared.lines.LineState.{LineState}
use Rattle.xp_subs.specs.Tables.{Tables, station_at, target_of}
use Rattle.xp_subs.specs.declared.station.Station.{Station}
use Rattle.xp_subs.specs.declared.target.Target.{Target}
use Rattle.xp_decide.proofs.Last.{declining_keeps, idle_keeps, off_keeps, busy_keeps, is_last}
use Rattle.xp_decide.specs.Accepts.{Accepts, Declines}
use Rattle.xp_decide.specs.Routes.{Place, lines_of, place_of, place_at, alternate, Redirects, LeavesAt, RefusesAt}
use Rattle.xp_decide.specs.Routes.{Visits}
use Rattle.xp_decide.specs.steps.Routes.{IsRedirected}
use Rattle.xp_decide.specs.Routes as routes
use Rattle.xp_decide.specs.declared.acceptance.Wanted.{Wanted}
use Rattle.xp_decide.specs.declared.visit.AddressOutcome.{AddressOutcome}
use Rattle.xp_decide.specs.declared.visit.AddressOutcome.TheVariants as visits

-- the place of a target, by its station
abbrev pub placed : Station → Target → Place
placed station target = record { station = station; lines = lines_of station target.line }

pub here : (tables : Tables) (address : List ℕ) (found : Option Target) (target : Target) (station : Station)
    → found ≡ target_of tables address → found ≡ Some target → station ≡ station_at tables target.station
    → place_at tables address ≡ Some (placed station target)
here tables address found target station found_is some same =
    ap (option_map (place_of tables)) (sym found_is ∙ some) ∙ ap (λ (s : Station). Some (placed s target)) (sym same)

module _ (tables : Tables) (states : ℕ → LineState) (wanted : Wanted) (address : List ℕ) (place : Place) (known : place_at tables address ≡ Some place) where
  pub leaves : (visit : AddressOutcome) → IsRedirected place.station Systematic (Some visit)
      → Visits tables states wanted address (Ok visit)
  leaves (visits.RedirectedTo reason to) (is, some) =
      record { place = place; known = known; redirects = routes.systematic is some }
  leaves (visits.Taken _ _) never = absurd never

  pub declines : (refusal : Refusal) → alternate place.station Systematic ≡ None → Declines wanted place.station refusal
      → Visits tables states wanted address (Err refusal)
  declines refusal none declined = (
    is_last tables states wanted address place known (declining_keeps states wanted place refusal none declined),
    routes.refused place known (routes.declined declined),
  )

  pub takes : (line : ℕ) (admission : Admission) → alternate place.station Systematic ≡ None
      → Accepts wanted place.station admission → IsIdleIn states place.lines line
      → Visits tables states wanted address (Ok (visits.Taken line admission))
  takes line admission none accepts idle = (
    is_last tables states wanted address place known (idle_keeps states wanted place line none idle),
    record { place = place; known = known; accepts = accepts; idle = idle },
  )

  pub finds_off : (admission : Admission) (left : Option AddressOutcome) → alternate place.station Systematic ≡ None
      → Accepts wanted place.station admission → AreOff states place.lines
      → IsRedirected place.station OutOfOrder left → Visits tables states wanted address (ok_or left OUT_OF_ORDER)
  finds_off admission (Some (visits.RedirectedTo reason to)) none accepts off (is, some) =
      record { place = place; known = known; redirects = routes.out_of_order admission is none accepts off some }
  finds_off admission (Some (visits.Taken _ _)) none accepts off never = absurd never
  finds_off admission None none accepts off no_alternate = (
    is_last tables states wanted address place known (off_keeps states wanted place none off no_alternate),
    routes.refused place known (routes.all_off admission accepts off refl),
  )

  pub finds_busy : (admission : Admission) (left : Option AddressOutcome) → alternate place.station Systematic ≡ None
      → Accepts wanted place.station admission → HasNoneIdle states place.lines → HasBusy states place.lines
      → IsRedirected place.station Busy left → Visits tables states wanted address (ok_or left NUMBER_BUSY)
  finds_busy admission (Some (visits.RedirectedTo reason to)) none accepts none_idle has_busy (is, some) =
      record { place = place; known = known; redirects = routes.busy admission is none accepts none_idle has_busy some }
  finds_busy admission (Some (visits.Taken _ _)) none accepts none_idle has_busy never = absurd never
  finds_busy admission None none accepts none_idle has_busy no_alternate = (
    is_last tables states wanted address place known (busy_keeps states wanted place none has_busy no_alternate),
    routes.refused place known (routes.none_idle admission accepts none_idle has_busy refl),
  )
