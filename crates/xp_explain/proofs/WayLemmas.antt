-- The redirections that a call has followed.
use Rattle.std.proofs.Common.{ℕ, List, [], ◌∷◌, ◌++◌, map, refl, sym, subst}
use Rattle.std.proofs.lemmas.List.{map-append}
use Rattle.xp_decide.specs.Routes.{Follows, Hop, LeavesAt}
use Rattle.xp_decide.specs.declared.acceptance.Wanted.{Wanted}
use Rattle.xp_explain.specs.Way.{hop_of}
use Rattle.xp_explain.specs.declared.way.Hop.{Hop as ToldHop}
use Rattle.xp_facilities.specs.declared.redirection.Reason.{Reason}
use Rattle.xp_hunt.specs.declared.lines.LineState.{LineState}
use Rattle.xp_subs.specs.Tables.{Tables}

-- one redirection more
follows_on : (tables : Tables) (states : ℕ → LineState) (wanted : Wanted) (dialled : List ℕ) (hops : List Hop) (address : List ℕ) (reason : Reason) (to : List ℕ)
    → Follows tables states wanted dialled hops address → LeavesAt tables states wanted address reason to
    → Follows tables states wanted dialled (hops ++ (record { address = address; reason = reason }) ∷ []) to
follows_on tables states wanted dialled [] address reason to same leaves =
    let P : List ℕ → Type 0 = λ a. LeavesAt tables states wanted a reason to in (same, to, subst P (sym same) leaves, refl)
follows_on tables states wanted dialled (hop ∷ hops) address reason to (same, next, left, follows) leaves =
    (same, next, left, follows_on tables states wanted next hops address reason to follows leaves)

-- the same, as the code tells it
pub told_on : (tables : Tables) (states : ℕ → LineState) (wanted : Wanted) (dialled : List ℕ) (hops : List ToldHop) (hop : ToldHop) (to : List ℕ)
    → Follows tables states wanted dialled (map hop_of hops) hop.address.now → LeavesAt tables states wanted hop.address.now hop.reason to
    → Follows tables states wanted dialled (map hop_of (hops ++ hop ∷ [])) to
told_on tables states wanted dialled hops hop to follows leaves =
    let P : List Hop → Type 0 = λ all. Follows tables states wanted dialled all to in
    subst P (sym (map-append hop_of hops (hop ∷ []))) (follows_on tables states wanted dialled (map hop_of hops) hop.address.now hop.reason to follows leaves)
