-- What is decided on call requests from one station to another, by what lets them through.
use Rattle.std.proofs.Common.{◌≡◌, ℕ, ◌<◌, ◌≤◌, Bool, true, false, if◌then◌else◌, nat_eq, List, [], None, Ok, inl, inr, refl, sym, ◌∙◌, ap, subst, arith}
use Rattle.std.specs.List.{Contains}
use Rattle.std.specs.declared.alloc.Global.{Global}
use Rattle.std.proofs.lemmas.Bool.{ne_eqb, eqb-false, true_from_ne_false}
use Rattle.std.proofs.lemmas.List.Elements.{All-contains}
use Rattle.xp_decide.specs.Accepts.{Accepts}
use Rattle.xp_decide.specs.Asks.{Asks, station_of_line, wanted_of}
use Rattle.xp_decide.specs.Decided.{Decided}
use Rattle.xp_decide.specs.Decided as decided
use Rattle.xp_decide.specs.IncomingCalls.{incoming_call_of}
use Rattle.xp_decide.specs.LinesForCaller.{state_for_caller}
use Rattle.xp_decide.specs.Routes.{Place, TakesAt}
use Rattle.xp_decide.specs.Routes as routes
use Rattle.xp_decide.specs.declared.request.Request.{Request}
use Rattle.xp_decide.specs.declared.route.Destination.{Destination}
use Rattle.xp_decide.specs.declared.verdict.IncomingCall.{IncomingCall}
use Rattle.xp_decide.specs.declared.verdict.Verdict.TheVariants.{Take}
use Rattle.xp_facilities.specs.Requested.{Means}
use Rattle.xp_facilities.specs.declared.requested.RequestedFacilities.{RequestedFacilities}
use Rattle.xp_facilities.specs.declared.selection.Selection.{Selection}
use Rattle.xp_facilities.specs.declared.selection.Selection.TheVariants.{Nothing, Closed, WithOutsideAccess}
use Rattle.xp_groups.specs.Intends.{Intends}
use Rattle.xp_groups.specs.declared.admission.Admission.{Admission}
use Rattle.xp_hunt.specs.Picks.{IsIdleIn}
use Rattle.xp_hunt.specs.declared.lines.LineState.TheVariants.{Idle, Busy}
use Rattle.xp_packets.specs.declared.block.Block.{Block}
use Rattle.xp_subs.specs.Sound.{IsSound, Lists}
use Rattle.xp_subs.specs.Tables.{Tables, modulus_of, station_at, station_count}
use Rattle.xp_subs.specs.declared.station.Membership.{Membership}
use Rattle.xp_subs.specs.declared.station.Station.{Station}
use Rattle.xp_summary.specs.Reach.{unredirected, without_redirections, all_idle, request_to, selecting, Rings, PutsThrough, RingsNone, IsReach, ReachIsDetermined}
use Rattle.xp_summary.specs.declared.reach.Reach.TheVariants.{Plain, Selecting, Never}
use Rattle.xp_summary.specs.steps.Ways.{IsOpen, LetsThrough, LetsThroughIn, LetsThroughInSome, has_two_ends}
use Rattle.xp_summary.proofs.Selections.{nothing_means, nothing_selected, closed_field, open_field, closed_means, open_means}
use Rattle.xp_summary.proofs.Unredirected.{own_place, own_address, same_station, is_last, takes_there}
use Rattle.xp_summary.proofs.Ways.{OtherEnd, intends_redirected, admits_redirected, no_other_end, none_through, other_end, some_end}

-- a line is idle for a call from another one
idle_besides : (from line : ℕ) → (line ≡ from → ⊥) → state_for_caller from all_idle line ≡ Idle
idle_besides from line other = ap (λ (same : Bool). if same then Busy else Idle) (ne_eqb line from other)

busy_itself : (from line : ℕ) → state_for_caller from all_idle line ≡ Idle → line ≡ from → ⊥
busy_itself from line idle = by (nat_eq line from) refl idle where
  by : (same : Bool) → nat_eq line from ≡ same → (if same then Busy else Idle) ≡ Idle → line ≡ from → ⊥
  by true e idle h = cc
  by false e idle h = eqb-false line from e h

module _ (tables : Tables) (caller called : ℕ) (sound : IsSound tables) (knows_caller : caller < station_count tables) (knows_called : called < station_count tables) where
  abbrev of_caller : Station
  of_caller = station_at tables caller

  abbrev of_called : Station
  of_called = station_at tables called

  -- the station of a line of the caller
  caller_is : (from : ℕ) → Lists tables caller from → station_of_line (without_redirections tables) from ≡ unredirected of_caller
  caller_is from own = ap (station_at (without_redirections tables)) (sound.own caller from knows_caller own).1 ∙ same_station tables caller

  -- what a decision to put a call through shows
  pub record Shown (from : ℕ) (block : Block Global) : Type 0 where
    pub asked : RequestedFacilities Global
    pub means : Means block.facilities asked
    pub outgoing : of_caller.facilities.outgoing_barred ≡ false
    pub incoming : of_called.facilities.incoming_barred ≡ false
    pub lets : LetsThrough of_caller of_called asked.selection
    pub other : OtherEnd of_called.lines.items from

  shown_at : (from : ℕ) (block : Block Global) (request : Request Global) (line : ℕ) (admission : Admission) → Lists tables caller from
      → Asks (without_redirections tables) from block request
      → TakesAt (without_redirections tables) (state_for_caller from all_idle) (wanted_of request) of_called.address line admission
      → Shown from block
  shown_at from block request line admission own asks takes =
      let here : takes.place ≡ own_place tables called = cc (takes.known, own_address tables called sound knows_called) in
      let A : Place → Type 0 = λ p. Accepts (wanted_of request) p.station admission in
      let accepts = subst A here takes.accepts in
      let I : Place → Type 0 = λ p. IsIdleIn (state_for_caller from all_idle) p.lines line in
      let idle = subst I here takes.idle in
      let O : Station → Type 0 = λ s. s.facilities.outgoing_barred ≡ false in
      let S : Station → Type 0 = λ s. Intends s request.asked.selection (Ok request.intent) in
      let is = caller_is from own in
      record {
        asked = request.asked;
        means = asks.means;
        outgoing = subst O is asks.outgoing;
        incoming = accepts.incoming;
        lets = record {
          intent = request.intent;
          admission = admission;
          intends = intends_redirected of_caller.redirect (unredirected of_caller) request.asked.selection (Ok request.intent) (subst S is asks.intends);
          admits = admits_redirected of_called.redirect request.intent (unredirected of_called) (Ok admission) accepts.admitted;
        };
        other = record { line = line; has = idle.0; other = busy_itself from line idle.1 };
      }

  pub shown : (from : ℕ) (block : Block Global) (ring : IncomingCall Global) → block.called ≡ of_called.address → Lists tables caller from
      → Decided (without_redirections tables) all_idle from block (Take ring) → Shown from block
  shown from block ring dials own (decided.not_asked _ _ e) = cc
  shown from block ring dials own (decided.not_reached _ _ _ _ e) = cc
  shown from block ring dials own (decided.reached request end asks reaches _) =
      let takes = takes_there tables (state_for_caller from all_idle) (wanted_of request) block.called end reaches in
      let T : List ℕ → Type 0 = λ a. TakesAt (without_redirections tables) (state_for_caller from all_idle) (wanted_of request) a end.line end.admission in
      shown_at from block request end.line end.admission own asks (subst T dials takes)

  -- a call that is let through rings
  rings : (from : ℕ) → Lists tables caller from → IsOpen of_caller of_called → (selection : Selection) → LetsThrough of_caller of_called selection
      → (facilities : List ℕ) → Means facilities (selecting selection) → Rings tables from called (request_to tables called facilities)
  rings from own is_open selection lets facilities means =
      let other = other_end tables caller called from sound knows_caller knows_called is_open.ends own in
      let request : Request Global = record { asked = selecting selection; intent = lets.intent } in
      let end : Destination = record { line = other.line; admission = lets.admission; reason = None } in
      let O : Station → Type 0 = λ s. s.facilities.outgoing_barred ≡ false in
      let S : Station → Type 0 = λ s. Intends s selection (Ok lets.intent) in
      let is = sym (caller_is from own) in
      let asks : Asks (without_redirections tables) from (request_to tables called facilities) request = record {
        means = means;
        window = refl;
        room = inl (omega arith);
        outgoing = subst O is is_open.outgoing;
        intends = subst S is (intends_redirected None of_caller selection (Ok lets.intent) lets.intends);
      } in
      let takes : TakesAt (without_redirections tables) (state_for_caller from all_idle) (wanted_of request) of_called.address other.line lets.admission = record {
        place = own_place tables called;
        known = own_address tables called sound knows_called;
        accepts = record {
          incoming = is_open.incoming;
          admitted = admits_redirected None lets.intent of_called (Ok lets.admission) lets.admits;
          reverse = λ h. cc;
          fast = λ h. cc;
        };
        idle = (other.has, idle_besides from other.line other.other);
      } in
      let last = is_last tables (state_for_caller from all_idle) (wanted_of request) of_called.address in
      record {
        ring = incoming_call_of (modulus_of (without_redirections tables) other.line) (selecting selection) end of_called.address;
        own = other.has;
        decided = decided.reached request end asks (routes.taken [] of_called.address other.line lets.admission refl (omega arith) last takes refl) refl;
      }

  puts : IsOpen of_caller of_called → (selection : Selection) → LetsThrough of_caller of_called selection
      → (facilities : List ℕ) → Means facilities (selecting selection) → PutsThrough tables caller called facilities
  puts is_open selection lets facilities means =
      let some = some_end of_caller of_called is_open.ends in
      record {
        from = some.0;
        own = some.1;
        each = λ line own. rings line own is_open selection lets facilities means;
      }

  puts_in : IsOpen of_caller of_called → (held : Membership) → Contains of_caller.memberships.items held → LetsThroughIn of_caller of_called held
      → (selection : Selection) × (facilities : List ℕ) × Means facilities (selecting selection) × PutsThrough tables caller called facilities
  puts_in is_open held has lets = by lets where
    few : held.index ≤ 9_999
    few = All-contains (λ (m : Membership). m.index ≤ 9_999) of_caller.memberships.items held (sound.indexes caller knows_caller) has

    by : LetsThroughIn of_caller of_called held
        → (selection : Selection) × (facilities : List ℕ) × Means facilities (selecting selection) × PutsThrough tables caller called facilities
    by (inl through) =
        let means = closed_means held.index few in
        (Closed held.index, closed_field held.index, means, puts is_open (Closed held.index) through (closed_field held.index) means)
    by (inr through) =
        let means = open_means held.index few in
        (WithOutsideAccess held.index, open_field held.index, means, puts is_open (WithOutsideAccess held.index) through (open_field held.index) means)

  -- the three ways in which the one reaches the other
  pub plainly : IsOpen of_caller of_called → LetsThrough of_caller of_called Nothing → IsReach tables caller called Plain
  plainly is_open lets = puts is_open Nothing lets [] nothing_means

  pub by_selection : IsOpen of_caller of_called → (LetsThrough of_caller of_called Nothing → ⊥) → LetsThroughInSome of_caller of_called
      → IsReach tables caller called Selecting
  by_selection is_open not_plain some =
      let s = puts_in is_open some.1 (some.0, some.2, some.3) some.4 in
      let P : Selection → Type 0 = λ selection. LetsThrough of_caller of_called selection in (
        λ line ring own taken.
            let found = shown line (request_to tables called []) ring refl own taken in
            not_plain (subst P (nothing_selected found.asked found.means) found.lets),
        s.0,
        s.1,
        s.2,
        s.3,
      )

  pub never_open : (IsOpen of_caller of_called → ⊥) → IsReach tables caller called Never
  never_open not_open block dials line ring own taken =
      let found = shown line block ring dials own taken in
      not_open (record {
        outgoing = found.outgoing;
        incoming = found.incoming;
        ends = true_from_ne_false (has_two_ends of_caller of_called) (λ none. no_other_end of_caller of_called line none own found.other);
      })

  pub never_through : (LetsThrough of_caller of_called Nothing → ⊥) → (LetsThroughInSome of_caller of_called → ⊥) → IsReach tables caller called Never
  never_through not_plain not_some block dials line ring own taken =
      let found = shown line block ring dials own taken in
      none_through of_caller of_called found.asked.selection not_plain not_some found.lets

-- one station has only one reach to another

puts_and_never : (tables : Tables) (caller called : ℕ) (facilities : List ℕ) → PutsThrough tables caller called facilities
    → RingsNone tables caller (request_to tables called facilities) → ⊥
puts_and_never tables caller called facilities put none =
    let rung = put.each put.from put.own in none put.from rung.ring put.own rung.decided

pub reach_determined : ReachIsDetermined
reach_determined tables caller called Plain Plain is also = refl
reach_determined tables caller called Plain Selecting is also = absurd (puts_and_never tables caller called [] is also.0)
reach_determined tables caller called Plain Never is also = absurd (puts_and_never tables caller called [] is (also (request_to tables called []) refl))
reach_determined tables caller called Selecting Plain is also = absurd (puts_and_never tables caller called [] also is.0)
reach_determined tables caller called Selecting Selecting is also = refl
reach_determined tables caller called Selecting Never is also =
    absurd (puts_and_never tables caller called is.2 is.4 (also (request_to tables called is.2) refl))
reach_determined tables caller called Never Plain is also = absurd (puts_and_never tables caller called [] also (is (request_to tables called []) refl))
reach_determined tables caller called Never Selecting is also =
    absurd (puts_and_never tables caller called also.2 also.4 (is (request_to tables called also.2) refl))
reach_determined tables caller called Never Never is also = refl
