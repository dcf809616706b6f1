-- At each address a call is redirected, taken or refused.
use Rattle.std.proofs.Common.{◌≡◌, ℕ, Bool, true, false, List, Option, None, Some, Result, Ok, Err, ◌⊎◌, inl, inr, refl}
use Rattle.xp_facilities.specs.declared.redirection.Reason.{Reason}
use Rattle.xp_facilities.specs.declared.redirection.Reason.TheVariants.{Busy, OutOfOrder, Systematic}
use Rattle.xp_groups.proofs.Exists.{admits_some}
use Rattle.xp_groups.specs.Admits.{Admits}
use Rattle.xp_groups.specs.declared.admission.Admission.{Admission}
use Rattle.xp_causes.specs.declared.refusal.Refusal.{Refusal}
use Rattle.xp_causes.specs.declared.refusal.TheConstants.Refusal.{INCOMING_CALLS_BARRED, REVERSE_CHARGING_NOT_ACCEPTED, FAST_SELECT_NOT_ACCEPTED, ADDRESS_NOT_KNOWN, OUT_OF_ORDER, NUMBER_BUSY}
use Rattle.xp_hunt.proofs.Exists.{picked_some}
use Rattle.xp_hunt.specs.Picks.{Picks}
use Rattle.xp_hunt.specs.declared.choice.HuntOutcome.{HuntOutcome}
use Rattle.xp_hunt.specs.declared.choice.HuntOutcome.TheVariants as picked
use Rattle.xp_hunt.specs.declared.lines.LineState.{LineState}
use Rattle.xp_subs.specs.Tables.{Tables}
use Rattle.xp_subs.specs.declared.station.Station.{Station}
use Rattle.xp_decide.proofs.Last.{declining_keeps, idle_keeps, off_keeps, busy_keeps, is_last, unknown_is_last}
use Rattle.xp_decide.specs.Accepts.{Accepts, Declines}
use Rattle.xp_decide.specs.Accepts as accepts
use Rattle.xp_decide.specs.Routes.{Place, place_at, alternate, LeavesAt, IsLast, RefusesAt, TakesAt}
use Rattle.xp_decide.specs.Routes as routes
use Rattle.xp_decide.specs.declared.acceptance.Wanted.{Wanted}

-- the station takes the call or declines it

-- what is wanted is subscribed to, or wanted in vain
granted : (wants has : Bool) → (wants ≡ true → has ≡ true) ⊎ ((wants ≡ true) × (has ≡ false))
granted false has = inl (λ e. cc)
granted true true = inl (λ e. refl)
granted true false = inr (refl, refl)

module _ (wanted : Wanted) (station : Station) where
  pub data Judges : Type 0 where
    accepted : (admission : Admission) → Accepts wanted station admission → Judges
    declined : (refusal : Refusal) → Declines wanted station refusal → Judges

  admitted : (admission : Admission) → station.facilities.incoming_barred ≡ false → Admits wanted.intent station (Ok admission) → Judges
  admitted admission not_barred admits = by (granted wanted.reverse station.facilities.reverse_charging) (granted wanted.fast station.facilities.fast_select) where
    by : (wanted.reverse ≡ true → station.facilities.reverse_charging ≡ true) ⊎ ((wanted.reverse ≡ true) × (station.facilities.reverse_charging ≡ false))
        → (wanted.fast ≡ true → station.facilities.fast_select ≡ true) ⊎ ((wanted.fast ≡ true) × (station.facilities.fast_select ≡ false))
        → Judges
    by (inl reverse) (inl fast) = accepted admission (record { incoming = not_barred; admitted = admits; reverse = reverse; fast = fast })
    by (inl reverse) (inr (wants, not_taken)) =
        declined FAST_SELECT_NOT_ACCEPTED (accepts.fast_select admission not_barred admits reverse wants not_taken refl)
    by (inr (wants, not_taken)) _ =
        declined REVERSE_CHARGING_NOT_ACCEPTED (accepts.reverse_charging admission not_barred admits wants not_taken refl)

  pub judged : Judges
  judged = by station.facilities.incoming_barred refl where
    asked : station.facilities.incoming_barred ≡ false → (result : Result Admission Refusal) → Admits wanted.intent station result → Judges
    asked not_barred (Ok admission) admits = admitted admission not_barred admits
    asked not_barred (Err refusal) admits = declined refusal (accepts.not_admitted not_barred admits)

    by : (is : Bool) → station.facilities.incoming_barred ≡ is → Judges
    by true barred = declined INCOMING_CALLS_BARRED (accepts.incoming_barred barred refl)
    by false not_barred = let some = admits_some wanted.intent station in asked not_barred some.0 some.1

-- so there is an answer at each address

module _ (tables : Tables) (states : ℕ → LineState) (wanted : Wanted) (address : List ℕ) where
  pub data Answers : Type 0 where
    leaves : (reason : Reason) (to : List ℕ) → LeavesAt tables states wanted address reason to → Answers
    takes : (line : ℕ) (admission : Admission) → IsLast tables states wanted address → TakesAt tables states wanted address line admission → Answers
    refuses : (refusal : Refusal) → IsLast tables states wanted address → RefusesAt tables states wanted address refusal → Answers

  module _ (place : Place) (known : place_at tables address ≡ Some place) where
    finds_off : (admission : Admission) → alternate place.station Systematic ≡ None → Accepts wanted place.station admission
        → Picks states place.lines picked.AllOff → (to : Option (List ℕ)) → alternate place.station OutOfOrder ≡ to → Answers
    finds_off admission none accepting off (Some to) some =
        leaves OutOfOrder to (record { place = place; known = known; redirects = routes.out_of_order admission refl none accepting off some })
    finds_off admission none accepting off None no_alternate =
        refuses OUT_OF_ORDER
        (is_last tables states wanted address place known (off_keeps states wanted place none off no_alternate))
        (routes.refused place known (routes.all_off admission accepting off refl))

    finds_busy : (admission : Admission) → alternate place.station Systematic ≡ None → Accepts wanted place.station admission
        → Picks states place.lines picked.Busy → (to : Option (List ℕ)) → alternate place.station Busy ≡ to → Answers
    finds_busy admission none accepting (none_idle, has_busy) (Some to) some =
        leaves Busy to (record { place = place; known = known; redirects = routes.busy admission refl none accepting none_idle has_busy some })
    finds_busy admission none accepting (none_idle, has_busy) None no_alternate =
        refuses NUMBER_BUSY
        (is_last tables states wanted address place known (busy_keeps states wanted place none has_busy no_alternate))
        (routes.refused place known (routes.none_idle admission accepting none_idle has_busy refl))

    hunts : (admission : Admission) → alternate place.station Systematic ≡ None → Accepts wanted place.station admission
        → (found : HuntOutcome) → Picks states place.lines found → Answers
    hunts admission none accepting (picked.Take line) idle =
        takes line admission
        (is_last tables states wanted address place known (idle_keeps states wanted place line none idle))
        (record { place = place; known = known; accepts = accepting; idle = idle })
    hunts admission none accepting picked.AllOff off = finds_off admission none accepting off (alternate place.station OutOfOrder) refl
    hunts admission none accepting picked.Busy busy = finds_busy admission none accepting busy (alternate place.station Busy) refl

    stays : alternate place.station Systematic ≡ None → Judges wanted place.station → Answers
    stays none (accepted admission accepting) =
        let some = picked_some states place.lines in hunts admission none accepting some.0 some.1
    stays none (declined refusal declining) =
        refuses refusal
        (is_last tables states wanted address place known (declining_keeps states wanted place refusal none declining))
        (routes.refused place known (routes.declined declining))

    there : (to : Option (List ℕ)) → alternate place.station Systematic ≡ to → Answers
    there (Some to) some = leaves Systematic to (record { place = place; known = known; redirects = routes.systematic refl some })
    there None none = stays none (judged wanted place.station)

  pub answered : Answers
  answered = by (place_at tables address) refl where
    by : (place : Option Place) → place_at tables address ≡ place → Answers
    by None unknown = refuses ADDRESS_NOT_KNOWN (unknown_is_last tables states wanted address unknown) (routes.not_known unknown refl)
    by (Some place) known = there place known (alternate place.station Systematic) refl
