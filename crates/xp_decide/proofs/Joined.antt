-- The station of a line that rings.
use Rattle.std.proofs.Common.{◌≡◌, ℕ, zero, suc, ◌<◌, Bool, true, false, nat_eq, if◌then◌else◌, eq-eqb, List, [], ◌∷◌, Option, None, Some, Ok, refl, sym, ◌∙◌, ap, arith, option_map, subst}
use Rattle.std.specs.List.{Contains}
use Rattle.xp_groups.proofs.Joined.{may_join}
use Rattle.xp_groups.specs.MayJoin.{MayJoin}
use Rattle.xp_hunt.specs.declared.lines.LineState.{LineState}
use Rattle.xp_hunt.specs.declared.lines.LineState.TheVariants.{Idle, Busy}
use Rattle.xp_packets.specs.declared.block.Block.{Block}
use Rattle.xp_subs.specs.Sound.{IsSound, IsTarget}
use Rattle.xp_subs.specs.Tables.{Tables, line_count, modulus_of, station_at, station_count, station_of, target_of}
use Rattle.xp_subs.specs.declared.station.Station.{Station}
use Rattle.xp_subs.specs.declared.target.Target.{Target}
use Rattle.xp_decide.specs.Asks.{station_of_line, Asks, wanted_of}
use Rattle.xp_decide.specs.Decided.{Decided}
use Rattle.xp_decide.specs.Decided as decided
use Rattle.xp_decide.specs.Laws.{IsFree}
use Rattle.xp_decide.specs.IncomingCalls.{incoming_call_of}
use Rattle.xp_decide.specs.Routes.{Place, place_of, place_at, lines_of, Reaches, TakesAt}
use Rattle.xp_decide.specs.Routes as routes
use Rattle.xp_decide.specs.LinesForCaller.{state_for_caller}
use Rattle.xp_decide.specs.declared.acceptance.Wanted.{Wanted}
use Rattle.xp_decide.specs.declared.request.Request.{Request}
use Rattle.xp_decide.specs.declared.route.Destination.{Destination}
use Rattle.xp_decide.specs.declared.verdict.IncomingCall.{IncomingCall}
use Rattle.xp_decide.specs.declared.verdict.Verdict.TheVariants.{Take}

-- the target of a place
pub record Leads (tables : Tables) (found : Option Target) (place : Place) : Type 0 where
  pub target : Target
  pub found_is : found ≡ Some target
  pub place_is : place ≡ place_of tables target

led : (tables : Tables) (found : Option Target) (place : Place) → option_map (place_of tables) found ≡ Some place → Leads tables found place
led tables None place e = cc
led tables (Some target) place e = record { target = target; found_is = refl; place_is = cc }

only : (one line : ℕ) → Contains (one ∷ []) line → one ≡ line
only one line (zero, below, is) = is
only one line (suc k, below, is) = absurd (omega arith)

-- each line of a target is one of the lines, and its station's
owned : (tables : Tables) (station : ℕ) (at : Option ℕ) (line : ℕ) → IsSound tables
    → IsTarget tables (record { station = station; line = at })
    → Contains (lines_of (station_at tables station) at) line
    → (line < line_count tables) × (station_of tables line ≡ station)
owned tables station None line sound target contains = sound.own station line target.0 contains
owned tables station (Some one) line sound target contains =
    let P : ℕ → Type 0 = λ l. (l < line_count tables) × (station_of tables l ≡ station) in
    subst P (only one line contains) target.1

-- a line that takes a call is one of the lines, and its station is that of the last address
pub record IsPlaced (tables : Tables) (place : Place) (line : ℕ) : Type 0 where
  pub known : line < line_count tables
  pub station : place.station ≡ station_of_line tables line
  pub is_there : station_of tables line < station_count tables

pub is_placed : (tables : Tables) (address : List ℕ) (place : Place) (line : ℕ) → IsSound tables
    → place_at tables address ≡ Some place → Contains place.lines line → IsPlaced tables place line
is_placed tables address place line sound known contains =
    let p = led tables (target_of tables address) place known in
    let P : Place → Type 0 = λ q. Contains q.lines line in
    let target = sound.target address p.target p.found_is in
    let own = owned tables p.target.station p.target.line line sound target (subst P p.place_is contains) in
    record {
      known = own.0;
      station = ap (λ (q : Place). q.station) p.place_is ∙ ap (station_at tables) (sym own.1);
      is_there = subst (λ station. station < station_count tables) (sym own.1) target.0;
    }

-- a line that a call reaches stands in the tables
pub line_known : (tables : Tables) (states : ℕ → LineState) (wanted : Wanted) (dialled : List ℕ) (end : Destination) → IsSound tables
    → Reaches tables states wanted dialled (Ok end) → end.line < line_count tables
line_known tables states wanted dialled end sound (routes.taken hops last line admission _ _ _ takes e) =
    let same : end ≡ record { line = line; admission = admission; reason = routes.first_reason hops } = cc in
    let here = is_placed tables last takes.place line sound takes.known takes.idle.0 in
    subst (λ l. l < line_count tables) (sym (ap (λ (r : Destination). r.line) same)) here.known
line_known tables states wanted dialled end sound (routes.refused _ _ _ _ _ _ _ e) = cc
line_known tables states wanted dialled end sound (routes.too_many _ _ _ _ e) = cc

-- a line that counts as idle is idle, and not the caller's
seen_idle : (caller : ℕ) (states : ℕ → LineState) (line : ℕ) → state_for_caller caller states line ≡ Idle
    → (states line ≡ Idle) × (line ≡ caller → ⊥)
seen_idle caller states line idle = by (nat_eq line caller) refl idle where
  by : (same : Bool) → nat_eq line caller ≡ same → (if same then Busy else states line) ≡ Idle
      → (states line ≡ Idle) × (line ≡ caller → ⊥)
  by true same idle = cc
  by false other idle = (idle, λ h. let same = eq-eqb line caller h in cc)

-- where a call ends
record EndsAt (tables : Tables) (states : ℕ → LineState) (from : ℕ) (caller : Station) (line : ℕ) : Type 0 where
  joined : MayJoin caller (station_of_line tables line)
  free : IsFree tables states from line

module _ {A : Type 0} (tables : Tables) (states : ℕ → LineState) (from : ℕ) (block : Block A) (ring : IncomingCall A) (sound : IsSound tables) where
  by_way : (request : Request A) (end : Destination) → Asks tables from block request
      → Reaches tables (state_for_caller from states) (wanted_of request) block.called (Ok end)
      → EndsAt tables states from (station_of_line tables from) end.line
  by_way request end asked (routes.taken hops last line admission _ _ _ takes e) =
      let same : end ≡ record { line = line; admission = admission; reason = routes.first_reason hops } = cc in
      let here = is_placed tables last takes.place line sound takes.known takes.idle.0 in
      let seen = seen_idle from states line takes.idle.1 in
      let J : Station → Type 0 = λ s. MayJoin (station_of_line tables from) s in
      let joined = subst J here.station (may_join (station_of_line tables from) takes.place.station request.asked.selection request.intent admission asked.intends takes.accepts.admitted) in
      let P : ℕ → Type 0 = λ l. EndsAt tables states from (station_of_line tables from) l in
      subst P (sym (ap (λ (r : Destination). r.line) same)) (record {
        joined = joined;
        free = record { known = here.known; idle = seen.0; others = seen.1 };
      })
  by_way request end asked (routes.refused _ _ _ _ _ _ _ e) = cc
  by_way request end asked (routes.too_many _ _ _ _ e) = cc

  ends_at : Decided tables states from block (Take ring) → EndsAt tables states from (station_of_line tables from) ring.line
  ends_at (decided.not_asked _ _ e) = cc
  ends_at (decided.not_reached _ _ _ _ e) = cc
  ends_at (decided.reached request end asked way e) =
      let same : ring ≡ incoming_call_of (modulus_of tables end.line) request.asked end block.called = cc in
      let P : ℕ → Type 0 = λ l. EndsAt tables states from (station_of_line tables from) l in
      subst P (sym (ap (λ (r : IncomingCall A). r.line) same)) (by_way request end asked way)

  pub taken_may_join : Decided tables states from block (Take ring) → MayJoin (station_of_line tables from) (station_of_line tables ring.line)
  taken_may_join taken = (ends_at taken).joined

  pub taken_is_free : Decided tables states from block (Take ring) → IsFree tables states from ring.line
  taken_is_free taken = (ends_at taken).free
