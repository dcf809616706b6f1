-- Subscriptions without redirections: the same stations, at the same addresses, and calls go no further.
use Rattle.std.proofs.Common.{◌≡◌, ℕ, ◌+◌, ◌<◌, cond, not, List, [], ◌∷◌, length, map, Option, None, Some, option_map, Ok, refl, sym, ◌∙◌, ap, subst, ltb}
use Rattle.std.proofs.Math.ListN.{get_or-map, length-map}
use Rattle.std.specs.List.{position, position_or_len}
use Rattle.xp_decide.specs.Routes.{Place, place_of, place_at, Redirects, IsLast, TakesAt, Reaches, alternate_of}
use Rattle.xp_decide.specs.Routes as routes
use Rattle.xp_decide.specs.declared.acceptance.Wanted.{Wanted}
use Rattle.xp_decide.specs.declared.route.Destination.{Destination}
use Rattle.xp_facilities.specs.declared.redirection.Reason.{Reason}
use Rattle.xp_facilities.specs.declared.redirection.Reason.TheVariants.{Busy, OutOfOrder, Systematic}
use Rattle.xp_file.specs.declared.entry.Redirection.{Redirection}
use Rattle.xp_file.specs.Name.{same}
use Rattle.xp_hunt.specs.declared.lines.LineState.{LineState}
use Rattle.xp_subs.specs.Sound.{IsSound}
use Rattle.xp_subs.specs.Tables.{Tables, no_station, station_at, station_count, target_of, first_target, whole_station, one_line, has_address}
use Rattle.xp_subs.specs.declared.station.Station.{Station}
use Rattle.xp_subs.specs.declared.target.Target.{Target}
use Rattle.xp_summary.specs.Reach.{unredirected, without_redirections}

pub same_station : (tables : Tables) (number : ℕ) → station_at (without_redirections tables) number ≡ unredirected (station_at tables number)
same_station tables number = get_or-map unredirected tables.stations number no_station

-- a station is found at the same place
same_place : (address : List ℕ) (stations : List Station)
    → position_or_len (λ (s : Station). same address s.address) (map unredirected stations) ≡ position_or_len (λ (s : Station). same address s.address) stations
same_place address [] = refl
same_place address (station ∷ stations) =
    ap (λ (n : ℕ). cond (not (same address station.address)) (1 + n) 0) (same_place address stations)

same_position : (address : List ℕ) (stations : List Station)
    → position (λ (s : Station). same address s.address) (map unredirected stations) ≡ position (λ (s : Station). same address s.address) stations
same_position address stations =
    ap (λ (n : ℕ). cond (ltb n (length (map unredirected stations))) (Some n) None) (same_place address stations)
    ∙ ap
    (λ (all : ℕ). cond (ltb (position_or_len (λ (s : Station). same address s.address) stations) all) (Some (position_or_len (λ (s : Station). same address s.address) stations)) None)
    (length-map stations unredirected)

same_target : (tables : Tables) (address : List ℕ) → target_of (without_redirections tables) address ≡ target_of tables address
same_target tables address =
    ap
    (λ (found : Option ℕ). first_target (whole_station found) (one_line tables.lines (position (has_address address) tables.lines)))
    (same_position address tables.stations)

-- a station's own address is that of all its lines
abbrev pub place_with : Station → Place
place_with station = record { station = station; lines = station.lines.items }

abbrev pub own_place : Tables → ℕ → Place
own_place tables station = place_with (unredirected (station_at tables station))

pub own_address : (tables : Tables) (station : ℕ) → IsSound tables → station < station_count tables
    → place_at (without_redirections tables) (station_at tables station).address ≡ Some (own_place tables station)
own_address tables station sound known =
    ap (option_map (place_of (without_redirections tables))) (same_target tables (station_at tables station).address ∙ sound.station_found station known)
    ∙ ap (λ (s : Station). Some (place_with s)) (same_station tables station)

-- no place has a redirection
placed : (tables : Tables) (found : Option Target) (place : Place) → option_map (place_of (without_redirections tables)) found ≡ Some place
    → place.station.redirect ≡ None
placed tables None place e = cc
placed tables (Some target) place e =
    let here : place_of (without_redirections tables) target ≡ place = cc in
    ap (λ (p : Place). p.station.redirect) (sym here) ∙ ap (λ (s : Station). s.redirect) (same_station tables target.station)

pub stays : (states : ℕ → LineState) (wanted : Wanted) (place : Place) (reason : Reason) (to : List ℕ) → place.station.redirect ≡ None
    → Redirects states wanted place reason to → ⊥
stays states wanted place reason to none (routes.systematic _ some) =
    let e : ◌≡◌ {A = Option (List ℕ)} None (Some to) = sym (ap (λ (r : Option Redirection). alternate_of r Systematic) none) ∙ some in cc
stays states wanted place reason to none (routes.out_of_order _ _ _ _ _ some) =
    let e : ◌≡◌ {A = Option (List ℕ)} None (Some to) = sym (ap (λ (r : Option Redirection). alternate_of r OutOfOrder) none) ∙ some in cc
stays states wanted place reason to none (routes.busy _ _ _ _ _ _ some) =
    let e : ◌≡◌ {A = Option (List ℕ)} None (Some to) = sym (ap (λ (r : Option Redirection). alternate_of r Busy) none) ∙ some in cc

module _ (tables : Tables) (states : ℕ → LineState) (wanted : Wanted) where
  -- so each address is the last one
  pub is_last : (address : List ℕ) → IsLast (without_redirections tables) states wanted address
  is_last address reason to leaves =
      stays states wanted leaves.place reason to (placed tables (target_of (without_redirections tables) address) leaves.place leaves.known) leaves.redirects

  -- and the line that a call reaches takes it at the dialled address
  pub takes_there : (dialled : List ℕ) (end : Destination) → Reaches (without_redirections tables) states wanted dialled (Ok end)
      → TakesAt (without_redirections tables) states wanted dialled end.line end.admission
  takes_there dialled end (routes.taken [] last line admission there _ _ takes e) =
      let is : end ≡ record { line = line; admission = admission; reason = None } = cc in
      let A : List ℕ → Type 0 = λ a. TakesAt (without_redirections tables) states wanted a line admission in
      let D : Destination → Type 0 = λ d. TakesAt (without_redirections tables) states wanted dialled d.line d.admission in
      subst D (sym is) (subst A (sym there) takes)
  takes_there dialled end (routes.taken (hop ∷ hops) last line admission (_, to, leaves, _) _ _ takes e) =
      absurd (is_last dialled hop.reason to leaves)
  takes_there dialled end (routes.refused _ _ _ _ _ _ _ e) = cc
  takes_there dialled end (routes.too_many _ _ _ _ e) = cc
