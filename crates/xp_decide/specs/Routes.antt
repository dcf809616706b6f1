-- The addresses through which a call goes (X.25 clauses 6.24 and 6.25).
use Rattle.std.specs.Prelude.{◌≡◌, ℕ, option_map, ◌≤◌, List, [], ◌∷◌, length, Bool, false, Option, None, Some, Result, Ok, Err, if◌then◌else◌}
use Rattle.xp_facilities.specs.declared.redirection.Reason.{Reason}
use Rattle.xp_facilities.specs.declared.redirection.Reason.TheVariants.{Busy, Distribution, OutOfOrder, Systematic}
use Rattle.xp_groups.specs.declared.admission.Admission.{Admission}
use Rattle.xp_causes.specs.declared.refusal.Refusal.{Refusal}
use Rattle.xp_causes.specs.declared.refusal.TheConstants.Refusal.{ADDRESS_NOT_KNOWN, OUT_OF_ORDER, NUMBER_BUSY, TOO_MANY_REDIRECTIONS}
use Rattle.xp_hunt.specs.Picks.{IsIdleIn, AreOff, HasNoneIdle, HasBusy}
use Rattle.xp_hunt.specs.declared.lines.LineState.{LineState}
use Rattle.xp_subs.specs.Tables.{Tables, station_at, target_of}
use Rattle.xp_file.specs.declared.entry.Redirection.{Redirection}
use Rattle.xp_subs.specs.declared.station.Station.{Station}
use Rattle.xp_subs.specs.declared.target.Target.{Target}
use Rattle.xp_decide.specs.Accepts.{Accepts, Declines}
use Rattle.xp_decide.specs.declared.acceptance.Wanted.{Wanted}
use Rattle.xp_decide.specs.declared.route.Destination.{Destination}
use Rattle.xp_decide.specs.declared.visit.AddressOutcome.{AddressOutcome}
use Rattle.xp_decide.specs.declared.visit.AddressOutcome.TheVariants as visits

-- whether the station's calls are redirected for this reason
abbrev pub serves : Redirection → Reason → Bool
serves redirection Systematic = redirection.systematic
serves redirection OutOfOrder = redirection.out_of_order
serves redirection Busy = redirection.busy
serves redirection Distribution = false

abbrev pub alternate_of : Option Redirection → Reason → Option (List ℕ)
alternate_of None reason = None
alternate_of (Some redirection) reason = if serves redirection reason then Some redirection.to else None

-- the address to which the station's calls are redirected for this reason, if it has one
abbrev pub alternate : Station → Reason → Option (List ℕ)
alternate station reason = alternate_of station.redirect reason

-- the place that an address belongs to: a station, and the lines of that address
pub record Place : Type 0 where
  pub station : Station
  pub lines : List ℕ

-- the one line that has the address, or all lines of the station
abbrev pub lines_of : Station → Option ℕ → List ℕ
lines_of station None = station.lines.items
lines_of station (Some line) = line ∷ []

abbrev pub place_of : Tables → Target → Place
place_of tables target = record {
  station = station_at tables target.station;
  lines = lines_of (station_at tables target.station) target.line;
}

abbrev pub place_at : Tables → List ℕ → Option Place
place_at tables address = option_map (place_of tables) (target_of tables address)

-- A redirection is due at this place: systematic, or because the station would take the call and has no idle line.
pub data Redirects (states : ℕ → LineState) (wanted : Wanted) (place : Place) (reason : Reason) (to : List ℕ) : Type 0 where
  systematic : reason ≡ Systematic
      → alternate place.station Systematic ≡ Some to → Redirects states wanted place reason to
  out_of_order : (admission : Admission) → reason ≡ OutOfOrder
      → alternate place.station Systematic ≡ None → Accepts wanted place.station admission
      → AreOff states place.lines
      → alternate place.station OutOfOrder ≡ Some to → Redirects states wanted place reason to
  busy : (admission : Admission) → reason ≡ Busy
      → alternate place.station Systematic ≡ None → Accepts wanted place.station admission
      → HasNoneIdle states place.lines → HasBusy states place.lines
      → alternate place.station Busy ≡ Some to → Redirects states wanted place reason to

-- The first refusal at a place where no redirection is due.
pub data Refuses (states : ℕ → LineState) (wanted : Wanted) (place : Place) (refusal : Refusal) : Type 0 where
  declined : Declines wanted place.station refusal → Refuses states wanted place refusal
  all_off : (admission : Admission) → Accepts wanted place.station admission
      → AreOff states place.lines
      → refusal ≡ OUT_OF_ORDER → Refuses states wanted place refusal
  none_idle : (admission : Admission) → Accepts wanted place.station admission
      → HasNoneIdle states place.lines → HasBusy states place.lines
      → refusal ≡ NUMBER_BUSY → Refuses states wanted place refusal

-- an address where a call is redirected, and the reason
pub record Hop : Type 0 where
  pub address : List ℕ
  pub reason : Reason

-- why the call was first redirected, if it was
abbrev pub first_reason : List Hop → Option Reason
first_reason [] = None
first_reason (hop ∷ hops) = Some hop.reason

module _ (tables : Tables) (states : ℕ → LineState) (wanted : Wanted) where
  -- a redirection is due at this address
  pub record LeavesAt (address : List ℕ) (reason : Reason) (to : List ℕ) : Type 0 where
    pub place : Place
    pub known : place_at tables address ≡ Some place
    pub redirects : Redirects states wanted place reason to

  -- no redirection is due at this address
  abbrev pub IsLast : List ℕ → Type 0
  IsLast address = (reason : Reason) (to : List ℕ) → LeavesAt address reason to → ⊥

  -- the call is refused at this address
  pub data RefusesAt (address : List ℕ) (refusal : Refusal) : Type 0 where
    not_known : place_at tables address ≡ None
        → refusal ≡ ADDRESS_NOT_KNOWN → RefusesAt address refusal
    refused : (place : Place) → place_at tables address ≡ Some place → Refuses states wanted place refusal
        → RefusesAt address refusal

  -- an idle line of this address takes the call
  pub record TakesAt (address : List ℕ) (line : ℕ) (admission : Admission) : Type 0 where
    pub place : Place
    pub known : place_at tables address ≡ Some place
    pub accepts : Accepts wanted place.station admission
    pub idle : IsIdleIn states place.lines line

  -- the call goes from an address through these hops to the last address
  abbrev pub Follows : List ℕ → List Hop → List ℕ → Type 0
  Follows address [] last = address ≡ last
  Follows address (hop ∷ hops) last = (address ≡ hop.address) × (to : List ℕ) × LeavesAt address hop.reason to × Follows to hops last

  -- The call goes from the dialled address through its redirections to the last address, and has this outcome there.
  -- At most four redirections are followed.
  pub data Reaches (dialled : List ℕ) (result : Result Destination Refusal) : Type 0 where
    taken : (hops : List Hop) (last : List ℕ) (line : ℕ) (admission : Admission)
        → Follows dialled hops last → length hops ≤ 4 → IsLast last
        → TakesAt last line admission
        → result ≡ Ok (record { line = line; admission = admission; reason = first_reason hops }) → Reaches dialled result
    refused : (hops : List Hop) (last : List ℕ) (refusal : Refusal)
        → Follows dialled hops last → length hops ≤ 4 → IsLast last
        → RefusesAt last refusal
        → result ≡ Err refusal → Reaches dialled result
    too_many : (hops : List Hop) (last : List ℕ)
        → Follows dialled hops last → length hops ≡ 5
        → result ≡ Err TOO_MANY_REDIRECTIONS → Reaches dialled result

  -- the outcome of the call at one address
  abbrev pub Visits : List ℕ → Result AddressOutcome Refusal → Type 0
  Visits address (Ok (visits.RedirectedTo reason to)) = LeavesAt address reason to.now
  Visits address (Ok (visits.Taken line admission)) = IsLast address × TakesAt address line admission
  Visits address (Err refusal) = IsLast address × RefusesAt address refusal
