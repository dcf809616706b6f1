-- The addresses through which a call goes.
use Rattle.std.specs.Prelude.{◌≡◌, ℕ, ◌≤◌, List, length, map}
use Rattle.xp_decide.specs.Routes.{Follows, Hop, IsLast, RefusesAt, TakesAt}
use Rattle.xp_decide.specs.declared.acceptance.Wanted.{Wanted}
use Rattle.xp_explain.specs.declared.way.End.{End}
use Rattle.xp_explain.specs.declared.way.End.TheVariants as ends
use Rattle.xp_explain.specs.declared.way.Hop.{Hop as ToldHop}
use Rattle.xp_explain.specs.declared.way.Way.{Way}
use Rattle.xp_hunt.specs.declared.lines.LineState.{LineState}
use Rattle.xp_subs.specs.Tables.{Tables}

-- an address at which the call is redirected, as the rules know it
abbrev pub hop_of : ToldHop → Hop
hop_of hop = record { address = hop.address.now; reason = hop.reason }

module _ (tables : Tables) (states : ℕ → LineState) (wanted : Wanted) where
  -- what comes of the call at the last address: at most four redirections are followed
  abbrev pub EndsAt : ℕ → List ℕ → End → Type 0
  EndsAt hops last (ends.Taken line admission) =
      (hops ≤ 4) × IsLast tables states wanted last × TakesAt tables states wanted last line admission
  EndsAt hops last (ends.Refused refusal) =
      (hops ≤ 4) × IsLast tables states wanted last × RefusesAt tables states wanted last refusal
  EndsAt hops last ends.RedirectedTooOften = hops ≡ 5

  -- the way is that of the rules, from the dialled address
  pub record IsWay (dialled : List ℕ) (way : Way) : Type 0 where
    pub follows : Follows tables states wanted dialled (map hop_of way.hops.items) way.last.now
    pub ends : EndsAt (length way.hops.items) way.last.now way.end
