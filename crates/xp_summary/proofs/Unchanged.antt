-- At the address of a station without a redirection, the redirections of other stations change nothing.
use Rattle.std.proofs.Common.{◌≡◌, ℕ, true, false, List, [], ◌∷◌, Option, None, Some, option_map, Ok, refl, sym, ◌∙◌, ap, subst, arith}
use Rattle.std.specs.declared.alloc.Global.{Global}
use Rattle.xp_decide.specs.Accepts.{Accepts}
use Rattle.xp_decide.specs.Asks.{Asks, station_of_line, wanted_of, windows_fit}
use Rattle.xp_decide.specs.Decided.{Decided}
use Rattle.xp_decide.specs.Decided as decided
use Rattle.xp_decide.specs.IncomingCalls.{incoming_call_of}
use Rattle.xp_decide.specs.LinesForCaller.{state_for_caller}
use Rattle.xp_decide.specs.Routes.{Place, place_of, place_at, IsLast, LeavesAt, TakesAt, Reaches}
use Rattle.xp_decide.specs.Routes as routes
use Rattle.xp_decide.specs.declared.acceptance.Wanted.{Wanted}
use Rattle.xp_decide.specs.declared.request.Request.{Request}
use Rattle.xp_decide.specs.declared.route.Destination.{Destination}
use Rattle.xp_decide.specs.declared.verdict.IncomingCall.{IncomingCall}
use Rattle.xp_decide.specs.declared.verdict.Verdict.{Verdict}
use Rattle.xp_decide.specs.declared.verdict.Verdict.TheVariants.{Take}
use Rattle.xp_file.specs.declared.entry.Redirection.{Redirection}
use Rattle.xp_groups.specs.Intends.{Intends}
use Rattle.xp_groups.specs.declared.admission.Admission.{Admission}
use Rattle.xp_hunt.specs.Picks.{IsIdleIn}
use Rattle.xp_hunt.specs.declared.lines.LineState.{LineState}
use Rattle.xp_packets.specs.declared.block.Block.{Block}
use Rattle.xp_packets.specs.declared.modulus.Modulus.{Modulus}
use Rattle.xp_subs.specs.Tables.{Tables, modulus_of, station_at, station_of}
use Rattle.xp_subs.specs.declared.station.Station.{Station}
use Rattle.xp_summary.specs.Reach.{unredirected, without_redirections, IsDecidedAlike}
use Rattle.xp_summary.proofs.Unredirected.{place_with, own_place, own_address, same_station, stays}
use Rattle.xp_summary.proofs.Ways.{intends_redirected}

-- From the one tables to the other: the same lines, the same place at the address, and the caller's station but for its redirection.
module _ (tables other : Tables) (states : ℕ → LineState) (from : ℕ) (place : Place) (address : List ℕ) (redirect : Option Redirection)
    (here : place_at tables address ≡ Some place) (there : place_at other address ≡ Some place) (no_redirect : place.station.redirect ≡ None)
    (same_caller : station_of_line other from ≡ record (station_of_line tables from) { redirect = redirect })
    (same_modulus : (line : ℕ) → modulus_of other line ≡ modulus_of tables line) where
  abbrev seen : ℕ → LineState
  seen = state_for_caller from states

  last_at : (some : Tables) → place_at some address ≡ Some place → (wanted : Wanted) → IsLast some seen wanted address
  last_at some found wanted reason to leaves =
      let same : place ≡ leaves.place = cc (found, leaves.known) in
      let P : Place → Type 0 = λ p. p.station.redirect ≡ None in
      stays seen wanted leaves.place reason to (subst P same no_redirect) leaves.redirects

  takes_too : (wanted : Wanted) (line : ℕ) (admission : Admission) → TakesAt tables seen wanted address line admission
      → TakesAt other seen wanted address line admission
  takes_too wanted line admission takes =
      let same : takes.place ≡ place = cc (takes.known, here) in
      let A : Place → Type 0 = λ p. Accepts wanted p.station admission in
      let I : Place → Type 0 = λ p. IsIdleIn seen p.lines line in
      record { place = place; known = there; accepts = subst A same takes.accepts; idle = subst I same takes.idle }

  reaches_too : (wanted : Wanted) (end : Destination) → Reaches tables seen wanted address (Ok end) → Reaches other seen wanted address (Ok end)
  reaches_too wanted end (routes.taken [] last line admission is _ _ takes e) =
      let T : List ℕ → Type 0 = λ a. TakesAt tables seen wanted a line admission in
      routes.taken [] address line admission refl (omega arith) (last_at other there wanted) (takes_too wanted line admission (subst T (sym is) takes)) e
  reaches_too wanted end (routes.taken (hop ∷ hops) last line admission (_, to, leaves, _) _ _ takes e) =
      absurd (last_at tables here wanted hop.reason to leaves)
  reaches_too wanted end (routes.refused _ _ _ _ _ _ _ e) = cc
  reaches_too wanted end (routes.too_many _ _ _ _ e) = cc

  asks_too : (block : Block Global) (request : Request Global) → Asks tables from block request → Asks other from block request
  asks_too block request asks =
      let W : Modulus → Type 0 = λ m. windows_fit m request.asked.window ≡ true in
      let O : Station → Type 0 = λ s. s.facilities.outgoing_barred ≡ false in
      let S : Station → Type 0 = λ s. Intends s request.asked.selection (Ok request.intent) in
      record {
        means = asks.means;
        window = subst W (sym (same_modulus from)) asks.window;
        room = asks.room;
        outgoing = subst O (sym same_caller) asks.outgoing;
        intends = subst S (sym same_caller) (intends_redirected redirect (station_of_line tables from) request.asked.selection (Ok request.intent) asks.intends);
      }

  decided_too : (block : Block Global) (ring : IncomingCall Global) → block.called ≡ address → Decided tables states from block (Take ring)
      → Decided other states from block (Take ring)
  decided_too block ring dials (decided.not_asked _ _ e) = cc
  decided_too block ring dials (decided.not_reached _ _ _ _ e) = cc
  decided_too block ring dials (decided.reached request end asks reaches e) =
      let R : List ℕ → Type 0 = λ a. Reaches tables seen (wanted_of request) a (Ok end) in
      let Q : List ℕ → Type 0 = λ a. Reaches other seen (wanted_of request) a (Ok end) in
      let rings : Modulus → Verdict Global = λ m. Take (incoming_call_of m request.asked end block.called) in
      decided.reached request end (asks_too block request asks) (subst Q (sym dials) (reaches_too (wanted_of request) end (subst R dials reaches)))
      (e ∙ ap rings (sym (same_modulus end.line)))

pub decided_alike : IsDecidedAlike
decided_alike tables states from called block ring sound known none dials =
    let station = station_at tables called in
    let own = station_at tables (station_of tables from) in
    let moved : Option Redirection → Station = λ r. record station { redirect = r } in
    let bare : unredirected station ≡ station = ap moved (sym none) in
    let in_file : place_at tables station.address ≡ Some (own_place tables called) =
    ap (option_map (place_of tables)) (sound.station_found called known) ∙ ap (λ (s : Station). Some (place_with s)) (sym bare) in
    let without : place_at (without_redirections tables) station.address ≡ Some (own_place tables called) = own_address tables called sound known in
    let back : Station → Station = λ s. record s { redirect = own.redirect } in (
      decided_too tables (without_redirections tables) states from (own_place tables called) station.address None in_file without refl
          (same_station tables (station_of tables from)) (λ line. refl) block ring dials,
      decided_too (without_redirections tables) tables states from (own_place tables called) station.address own.redirect without in_file refl
          (sym (ap back (same_station tables (station_of tables from)))) (λ line. refl) block ring dials,
    )
