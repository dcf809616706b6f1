-- The redirections that a call has followed.
use Rattle.std.proofs.Common.{◌≡◌, ℕ, ◌+◌, List, [], ◌∷◌, ◌++◌, length, Option, None, Some, refl, sym, ◌∙◌, ap, length-append, subst}
use Rattle.std.specs.Option.{option_or}
use Rattle.xp_facilities.specs.declared.redirection.Reason.{Reason}
use Rattle.xp_hunt.specs.declared.lines.LineState.{LineState}
use Rattle.xp_subs.specs.Tables.{Tables}
use Rattle.xp_decide.specs.Routes.{Hop, first_reason, LeavesAt, Follows}
use Rattle.xp_decide.specs.declared.acceptance.Wanted.{Wanted}

-- the first of two reasons, if there is one
abbrev pub earlier : Option Reason → Reason → Option Reason
earlier None reason = Some reason
earlier (Some first) reason = Some first

-- where a call is after so many redirections, and why it was first redirected
pub record IsOnWay (tables : Tables) (states : ℕ → LineState) (wanted : Wanted) (dialled : List ℕ) (count : ℕ) (address : List ℕ) (reason : Option Reason) : Type 0 where
  pub hops : List Hop
  pub follows : Follows tables states wanted dialled hops address
  pub counted : length hops ≡ count
  pub first : first_reason hops ≡ reason

-- one redirection more
follows_on : (tables : Tables) (states : ℕ → LineState) (wanted : Wanted) (dialled : List ℕ) (hops : List Hop) (address : List ℕ) (reason : Reason) (to : List ℕ)
    → Follows tables states wanted dialled hops address → LeavesAt tables states wanted address reason to
    → Follows tables states wanted dialled (hops ++ (record { address = address; reason = reason }) ∷ []) to
follows_on tables states wanted dialled [] address reason to same leaves =
    let P : List ℕ → Type 0 = λ a. LeavesAt tables states wanted a reason to in (same, to, subst P (sym same) leaves, refl)
follows_on tables states wanted dialled (hop ∷ hops) address reason to (same, next, left, follows) leaves =
    (same, next, left, follows_on tables states wanted next hops address reason to follows leaves)

first_on : (hops : List Hop) (hop : Hop) → first_reason (hops ++ hop ∷ []) ≡ earlier (first_reason hops) hop.reason
first_on [] hop = refl
first_on (first ∷ hops) hop = refl

pub on_way : (tables : Tables) (states : ℕ → LineState) (wanted : Wanted) (dialled : List ℕ) (count : ℕ) (address : List ℕ) (first : Option Reason) (reason : Reason) (to : List ℕ)
    → IsOnWay tables states wanted dialled count address first → LeavesAt tables states wanted address reason to
    → IsOnWay tables states wanted dialled (count + 1) to (earlier first reason)
on_way tables states wanted dialled count address first reason to way leaves =
    let hop : Hop = record { address = address; reason = reason } in
    record {
      hops = way.hops ++ hop ∷ [];
      follows = follows_on tables states wanted dialled way.hops address reason to way.follows leaves;
      counted = length-append way.hops (hop ∷ []) ∙ ap (λ n. n + 1) way.counted;
      first = first_on way.hops hop ∙ ap (λ r. earlier r reason) way.first;
    }

-- the same, as the code keeps the reason
pub earlier_is : (tables : Tables) (states : ℕ → LineState) (wanted : Wanted) (dialled : List ℕ) (count : ℕ) (address : List ℕ) (first : Option Reason) (reason : Reason) (to : List ℕ) (kept : Option Reason)
    → kept ≡ option_or first (Some reason)
    → IsOnWay tables states wanted dialled count address first → LeavesAt tables states wanted address reason to
    → IsOnWay tables states wanted dialled (count + 1) to kept
earlier_is tables states wanted dialled count address None reason to kept is way leaves =
    let P : Option Reason → Type 0 = λ r. IsOnWay tables states wanted dialled (count + 1) to r in
    subst P (sym is) (on_way tables states wanted dialled count address None reason to way leaves)
earlier_is tables states wanted dialled count address (Some early) reason to kept is way leaves =
    let P : Option Reason → Type 0 = λ r. IsOnWay tables states wanted dialled (count + 1) to r in
    subst P (sym is) (on_way tables states wanted dialled count address (Some early) reason to way leaves)
