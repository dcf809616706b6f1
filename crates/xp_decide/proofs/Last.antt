-- Where no redirection is due.
use Rattle.std.proofs.Common.{◌≡◌, ℕ, List, None, Some, subst}
use Rattle.xp_facilities.specs.declared.redirection.Reason.{Reason}
use Rattle.xp_facilities.specs.declared.redirection.Reason.TheVariants.{Busy, OutOfOrder, Systematic}
use Rattle.xp_causes.specs.declared.refusal.Refusal.{Refusal}
use Rattle.xp_hunt.specs.Picks.{IsIdleIn, AreOff, HasBusy}
use Rattle.xp_hunt.specs.declared.lines.LineState.{LineState}
use Rattle.xp_subs.specs.Tables.{Tables}
use Rattle.xp_decide.proofs.Accepted.{accepted_or_declined}
use Rattle.xp_decide.proofs.Lines.{idle_not_off, idle_not_none, busy_not_off}
use Rattle.xp_decide.specs.Accepts.{Declines}
use Rattle.xp_decide.specs.Routes.{Place, place_at, alternate, Redirects, LeavesAt, IsLast}
use Rattle.xp_decide.specs.Routes as routes
use Rattle.xp_decide.specs.declared.acceptance.Wanted.{Wanted}

-- nothing is redirected from this place
abbrev pub Keeps : (ℕ → LineState) → Wanted → Place → Type 0
Keeps states wanted place = (reason : Reason) (to : List ℕ) → Redirects states wanted place reason to → ⊥

pub declining_keeps : (states : ℕ → LineState) (wanted : Wanted) (place : Place) (refusal : Refusal)
    → alternate place.station Systematic ≡ None → Declines wanted place.station refusal → Keeps states wanted place
declining_keeps states wanted place refusal none declines reason to (routes.systematic _ some) = cc
declining_keeps states wanted place refusal none declines reason to (routes.out_of_order _ _ _ accepts _ _) = accepted_or_declined _ _ _ _ accepts declines
declining_keeps states wanted place refusal none declines reason to (routes.busy _ _ _ accepts _ _ _) = accepted_or_declined _ _ _ _ accepts declines

pub idle_keeps : (states : ℕ → LineState) (wanted : Wanted) (place : Place) (line : ℕ)
    → alternate place.station Systematic ≡ None → IsIdleIn states place.lines line → Keeps states wanted place
idle_keeps states wanted place line none idle reason to (routes.systematic _ some) = cc
idle_keeps states wanted place line none idle reason to (routes.out_of_order _ _ _ _ off _) = idle_not_off states place.lines line idle off
idle_keeps states wanted place line none idle reason to (routes.busy _ _ _ _ none_idle _ _) = idle_not_none states place.lines line idle none_idle

pub off_keeps : (states : ℕ → LineState) (wanted : Wanted) (place : Place)
    → alternate place.station Systematic ≡ None → AreOff states place.lines → alternate place.station OutOfOrder ≡ None → Keeps states wanted place
off_keeps states wanted place none off no_alternate reason to (routes.systematic _ some) = cc
off_keeps states wanted place none off no_alternate reason to (routes.out_of_order _ _ _ _ _ some) = cc
off_keeps states wanted place none off no_alternate reason to (routes.busy _ _ _ _ _ has_busy _) = busy_not_off states place.lines has_busy off

pub busy_keeps : (states : ℕ → LineState) (wanted : Wanted) (place : Place)
    → alternate place.station Systematic ≡ None → HasBusy states place.lines → alternate place.station Busy ≡ None → Keeps states wanted place
busy_keeps states wanted place none has_busy no_alternate reason to (routes.systematic _ some) = cc
busy_keeps states wanted place none has_busy no_alternate reason to (routes.out_of_order _ _ _ _ off _) = busy_not_off states place.lines has_busy off
busy_keeps states wanted place none has_busy no_alternate reason to (routes.busy _ _ _ _ _ _ some) = cc

pub is_last : (tables : Tables) (states : ℕ → LineState) (wanted : Wanted) (address : List ℕ) (place : Place)
    → place_at tables address ≡ Some place → Keeps states wanted place → IsLast tables states wanted address
is_last tables states wanted address place known keeps reason to leaves =
    let same : leaves.place ≡ place = cc (leaves.known, known) in
    let P : Place → Type 0 = λ p. Redirects states wanted p reason to in
    keeps reason to (subst P same leaves.redirects)

pub unknown_is_last : (tables : Tables) (states : ℕ → LineState) (wanted : Wanted) (address : List ℕ)
    → place_at tables address ≡ None → IsLast tables states wanted address
unknown_is_last tables states wanted address unknown reason to leaves = cc (leaves.known)
