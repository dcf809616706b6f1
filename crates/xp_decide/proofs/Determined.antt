-- A call request has one answer, but for the line.
use Rattle.std.proofs.Common.{◌≡◌, ℕ, ◌≤◌, List, [], ◌∷◌, length, Result, Ok, Err, refl, sym, ◌∙◌, ap, arith, subst}
use Rattle.xp_facilities.specs.declared.redirection.Reason.{Reason}
use Rattle.xp_groups.proofs.Determined.{admitted_or_refused, admission_determined}
use Rattle.xp_groups.specs.Admits.{Admits}
use Rattle.xp_groups.specs.declared.admission.Admission.{Admission}
use Rattle.xp_groups.specs.declared.intention.Intent.{Intent}
use Rattle.xp_causes.specs.declared.refusal.Refusal.{Refusal}
use Rattle.xp_hunt.specs.Picks.{IsIdleIn}
use Rattle.xp_hunt.specs.declared.lines.LineState.{LineState}
use Rattle.xp_subs.specs.Tables.{Tables}
use Rattle.xp_subs.specs.declared.station.Station.{Station}
use Rattle.xp_decide.proofs.Accepted.{accepted_or_declined}
use Rattle.xp_decide.proofs.Lines.{idle_not_off, idle_not_none, busy_not_off}
use Rattle.xp_decide.specs.Accepts.{Accepts, Declines}
use Rattle.xp_decide.specs.Accepts as accepts
use Rattle.xp_decide.specs.Routes.{Place, Hop, first_reason, place_at, Redirects, Refuses, LeavesAt, IsLast, RefusesAt, TakesAt, Follows}
use Rattle.xp_decide.specs.Routes as routes
use Rattle.xp_decide.specs.declared.acceptance.Wanted.{Wanted}

-- two refusals by a station

pub admitted_same : (intent : Intent) (station : Station) (one other : Admission) → Admits intent station (Ok one) → Admits intent station (Ok other) → one ≡ other
admitted_same intent station one other first second =
    let same : ◌≡◌ {A = Result Admission Refusal} (Ok one) (Ok other) = admission_determined intent station (Ok one) (Ok other) first second in cc

pub accepts_same : (wanted : Wanted) (station : Station) (one other : Admission) → Accepts wanted station one → Accepts wanted station other → one ≡ other
accepts_same wanted station one other first second = admitted_same wanted.intent station one other first.admitted second.admitted

not_admitted_same : (wanted : Wanted) (station : Station) (one other : Refusal) → Admits wanted.intent station (Err one) → Admits wanted.intent station (Err other) → one ≡ other
not_admitted_same wanted station one other first second =
    let same : ◌≡◌ {A = Result Admission Refusal} (Err one) (Err other) = admission_determined wanted.intent station (Err one) (Err other) first second in cc

pub declines_same : (wanted : Wanted) (station : Station) (one other : Refusal) → Declines wanted station one → Declines wanted station other → one ≡ other
declines_same wanted station one other (accepts.incoming_barred _ is) (accepts.incoming_barred _ also) = is ∙ sym also
declines_same wanted station one other (accepts.incoming_barred barred is) (accepts.not_admitted not_barred _) = cc
declines_same wanted station one other (accepts.incoming_barred barred is) (accepts.reverse_charging _ not_barred _ _ _ _) = cc
declines_same wanted station one other (accepts.incoming_barred barred is) (accepts.fast_select _ not_barred _ _ _ _ _) = cc
declines_same wanted station one other (accepts.not_admitted not_barred _) (accepts.incoming_barred barred _) = cc
declines_same wanted station one other (accepts.not_admitted _ first) (accepts.not_admitted _ second) = not_admitted_same wanted station one other first second
declines_same wanted station one other (accepts.not_admitted _ first) (accepts.reverse_charging _ _ second _ _ _) = absurd (admitted_or_refused _ _ _ _ second first)
declines_same wanted station one other (accepts.not_admitted _ first) (accepts.fast_select _ _ second _ _ _ _) = absurd (admitted_or_refused _ _ _ _ second first)
declines_same wanted station one other (accepts.reverse_charging _ not_barred _ _ _ _) (accepts.incoming_barred barred _) = cc
declines_same wanted station one other (accepts.reverse_charging _ _ second _ _ _) (accepts.not_admitted _ first) = absurd (admitted_or_refused _ _ _ _ second first)
declines_same wanted station one other (accepts.reverse_charging _ _ _ _ _ is) (accepts.reverse_charging _ _ _ _ _ also) = is ∙ sym also
declines_same wanted station one other (accepts.reverse_charging _ _ _ wants not_taken _) (accepts.fast_select _ _ _ taken _ _ _) = cc (taken wants)
declines_same wanted station one other (accepts.fast_select _ not_barred _ _ _ _ _) (accepts.incoming_barred barred _) = cc
declines_same wanted station one other (accepts.fast_select _ _ second _ _ _ _) (accepts.not_admitted _ first) = absurd (admitted_or_refused _ _ _ _ second first)
declines_same wanted station one other (accepts.fast_select _ _ _ taken _ _ _) (accepts.reverse_charging _ _ _ wants not_taken _) = cc (taken wants)
declines_same wanted station one other (accepts.fast_select _ _ _ _ _ _ is) (accepts.fast_select _ _ _ _ _ _ also) = is ∙ sym also

-- two answers at a place

pub redirects_same : (states : ℕ → LineState) (wanted : Wanted) (place : Place) (reason other : Reason) (to also : List ℕ)
    → Redirects states wanted place reason to → Redirects states wanted place other also → (reason ≡ other) × (to ≡ also)
redirects_same states wanted place reason other to also (routes.systematic is some) (routes.systematic was same) = (is ∙ sym was, cc)
redirects_same states wanted place reason other to also (routes.systematic _ some) (routes.out_of_order _ _ none _ _ _) = cc
redirects_same states wanted place reason other to also (routes.systematic _ some) (routes.busy _ _ none _ _ _ _) = cc
redirects_same states wanted place reason other to also (routes.out_of_order _ _ none _ _ _) (routes.systematic _ some) = cc
redirects_same states wanted place reason other to also (routes.out_of_order _ is _ _ _ some) (routes.out_of_order _ was _ _ _ same) = (is ∙ sym was, cc)
redirects_same states wanted place reason other to also (routes.out_of_order _ _ _ _ off _) (routes.busy _ _ _ _ _ has_busy _) = absurd (busy_not_off states place.lines has_busy off)
redirects_same states wanted place reason other to also (routes.busy _ _ none _ _ _ _) (routes.systematic _ some) = cc
redirects_same states wanted place reason other to also (routes.busy _ _ _ _ _ has_busy _) (routes.out_of_order _ _ _ _ off _) = absurd (busy_not_off states place.lines has_busy off)
redirects_same states wanted place reason other to also (routes.busy _ is _ _ _ _ some) (routes.busy _ was _ _ _ _ same) = (is ∙ sym was, cc)

pub refuses_same : (states : ℕ → LineState) (wanted : Wanted) (place : Place) (one other : Refusal)
    → Refuses states wanted place one → Refuses states wanted place other → one ≡ other
refuses_same states wanted place one other (routes.declined first) (routes.declined second) = declines_same wanted place.station one other first second
refuses_same states wanted place one other (routes.declined first) (routes.all_off _ second _ _) = absurd (accepted_or_declined _ _ _ _ second first)
refuses_same states wanted place one other (routes.declined first) (routes.none_idle _ second _ _ _) = absurd (accepted_or_declined _ _ _ _ second first)
refuses_same states wanted place one other (routes.all_off _ first _ _) (routes.declined second) = absurd (accepted_or_declined _ _ _ _ first second)
refuses_same states wanted place one other (routes.all_off _ _ _ is) (routes.all_off _ _ _ also) = is ∙ sym also
refuses_same states wanted place one other (routes.all_off _ _ off _) (routes.none_idle _ _ _ has_busy _) = absurd (busy_not_off states place.lines has_busy off)
refuses_same states wanted place one other (routes.none_idle _ first _ _ _) (routes.declined second) = absurd (accepted_or_declined _ _ _ _ first second)
refuses_same states wanted place one other (routes.none_idle _ _ _ has_busy _) (routes.all_off _ _ off _) = absurd (busy_not_off states place.lines has_busy off)
refuses_same states wanted place one other (routes.none_idle _ _ _ _ is) (routes.none_idle _ _ _ _ also) = is ∙ sym also

-- two answers at an address

abbrev hop_of : List ℕ → Reason → Hop
hop_of address reason = record { address = address; reason = reason }

module _ (tables : Tables) (states : ℕ → LineState) (wanted : Wanted) where
  leaves_same : (address : List ℕ) (reason other : Reason) (to also : List ℕ)
      → LeavesAt tables states wanted address reason to → LeavesAt tables states wanted address other also → (reason ≡ other) × (to ≡ also)
  leaves_same address reason other to also first second =
      let same : first.place ≡ second.place = cc (first.known, second.known) in
      let P : Place → Type 0 = λ p. Redirects states wanted p reason to in
      redirects_same states wanted second.place reason other to also (subst P same first.redirects) second.redirects

  pub refuses_at_same : (address : List ℕ) (one other : Refusal)
      → RefusesAt tables states wanted address one → RefusesAt tables states wanted address other → one ≡ other
  refuses_at_same address one other (routes.not_known _ is) (routes.not_known _ also) = is ∙ sym also
  refuses_at_same address one other (routes.not_known none _) (routes.refused _ some _) = cc
  refuses_at_same address one other (routes.refused _ some _) (routes.not_known none _) = cc
  refuses_at_same address one other (routes.refused place known first) (routes.refused place' known' second) =
      let same : place ≡ place' = cc in
      let P : Place → Type 0 = λ p. Refuses states wanted p one in
      refuses_same states wanted place' one other (subst P same first) second

  pub takes_at_same : (address : List ℕ) (line line' : ℕ) (one other : Admission)
      → TakesAt tables states wanted address line one → TakesAt tables states wanted address line' other → one ≡ other
  takes_at_same address line line' one other first second =
      let same : first.place ≡ second.place = cc (first.known, second.known) in
      let P : Place → Type 0 = λ p. Accepts wanted p.station one in
      accepts_same wanted second.place.station one other (subst P same first.accepts) second.accepts

  pub taken_or_refused : (address : List ℕ) (line : ℕ) (admission : Admission) (refusal : Refusal)
      → TakesAt tables states wanted address line admission → RefusesAt tables states wanted address refusal → ⊥
  taken_or_refused address line admission refusal takes (routes.not_known none _) = cc (takes.known)
  taken_or_refused address line admission refusal takes (routes.refused place known refuses) =
      let same : place ≡ takes.place = cc (takes.known, known) in
      let P : Place → Type 0 = λ p. Refuses states wanted p refusal in
      at_place takes.place takes.accepts takes.idle (subst P same refuses) where
        at_place : (place : Place) → Accepts wanted place.station admission → IsIdleIn states place.lines line
            → Refuses states wanted place refusal → ⊥
        at_place place accepted idle (routes.declined declines) = accepted_or_declined _ _ _ _ accepted declines
        at_place place accepted idle (routes.all_off _ _ off _) = idle_not_off states place.lines line idle off
        at_place place accepted idle (routes.none_idle _ _ none_idle _ _) = idle_not_none states place.lines line idle none_idle

  -- two ways from one address

  pub record IsSameWay (hops hops' : List Hop) (last last' : List ℕ) : Type 0 where
    pub same_hops : hops ≡ hops'
    pub same_last : last ≡ last'

  hop_same : (address : List ℕ) (hop hop' : Hop) → address ≡ hop.address → address ≡ hop'.address → hop.reason ≡ hop'.reason → hop ≡ hop'
  hop_same address hop hop' is is' reason =
      ap (λ (a : List ℕ). hop_of a hop.reason) (sym is ∙ is') ∙ ap (hop_of hop'.address) reason

  pub follows_same : (address : List ℕ) (hops hops' : List Hop) (last last' : List ℕ)
      → Follows tables states wanted address hops last → IsLast tables states wanted last
      → Follows tables states wanted address hops' last' → IsLast tables states wanted last'
      → IsSameWay hops hops' last last'
  follows_same address [] [] last last' is end is' end' = record { same_hops = refl; same_last = sym is ∙ is' }
  follows_same address [] (hop ∷ hops) last last' is end (_, to, leaves, _) end' =
      let P : List ℕ → Type 0 = λ a. LeavesAt tables states wanted a hop.reason to in absurd (end hop.reason to (subst P is leaves))
  follows_same address (hop ∷ hops) [] last last' (_, to, leaves, _) end is' end' =
      let P : List ℕ → Type 0 = λ a. LeavesAt tables states wanted a hop.reason to in absurd (end' hop.reason to (subst P is' leaves))
  follows_same address (hop ∷ hops) (hop' ∷ hops') last last' (is, to, leaves, follows) end (is', to', leaves', follows') end' =
      let same = leaves_same address hop.reason hop'.reason to to' leaves leaves' in
      let P : List ℕ → Type 0 = λ a. Follows tables states wanted a hops last in
      let rest = follows_same to' hops hops' last last' (subst P same.1 follows) end follows' end' in
      let front : hop ≡ hop' = hop_same address hop hop' is is' same.0 in
      record { same_hops = cc (rest.same_hops, front); same_last = rest.same_last }

  -- a way that ends is no shorter than another one
  pub follows_longer : (address : List ℕ) (hops hops' : List Hop) (last last' : List ℕ)
      → Follows tables states wanted address hops last → IsLast tables states wanted last
      → Follows tables states wanted address hops' last' → length hops' ≤ length hops
  follows_longer address hops [] last last' way end way' = omega arith
  follows_longer address [] (hop ∷ hops) last last' is end (_, to, leaves, _) =
      let P : List ℕ → Type 0 = λ a. LeavesAt tables states wanted a hop.reason to in absurd (end hop.reason to (subst P is leaves))
  follows_longer address (hop ∷ hops) (hop' ∷ hops') last last' (is, to, leaves, follows) end (is', to', leaves', follows') =
      let same = leaves_same address hop.reason hop'.reason to to' leaves leaves' in
      let P : List ℕ → Type 0 = λ a. Follows tables states wanted a hops last in
      omega (arith, follows_longer to' hops hops' last last' (subst P same.1 follows) end follows')
