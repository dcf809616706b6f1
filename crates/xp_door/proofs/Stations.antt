-- Whether all lines behind a router are of one station.
use Rattle.std.proofs.Common.{◌≡◌, ◌<◌, ℕ, List, Option, None, Some, ap, length, slice_index_or, subst, sym, ◌∙◌}
use Rattle.xp_door.specs.Callers.{IsBehind, IsOneStation}
use Rattle.xp_door.specs.declared.choosing.Candidate.{Candidate}
use Rattle.xp_door.specs.declared.router_call.RouterCall.{RouterCall}

-- they are, where each is of the station that was found, if one was
pub all_of_one : (call : RouterCall) (candidates : List Candidate) (station : Option ℕ)
    → ((k : ℕ) (other : Candidate) → k < length candidates → IsBehind call (slice_index_or candidates k other) → station ≡ Some (slice_index_or candidates k other).caller.station)
    → IsOneStation call candidates
all_of_one call candidates (Some station) are = (station, λ k other within behind. cc (are k other within behind))
all_of_one call candidates None are = (0, λ k other within behind. cc (are k other within behind))

-- they are not, where one is of the station that was found first, and another of another
pub not_of_one : (call : RouterCall) (candidates : List Candidate) (k index first : ℕ) (item : Candidate)
    → k < length candidates
    → ((other : Candidate) → IsBehind call (slice_index_or candidates k other) × ((slice_index_or candidates k other).caller.station ≡ first))
    → index < length candidates → item ≡ slice_index_or candidates index item → IsBehind call item
    → (first ≡ item.caller.station → ⊥) → IsOneStation call candidates → ⊥
not_of_one call candidates k index first item within found below at behind differ is =
    differ (sym (found item).1 ∙ is.1 k item within (found item).0 ∙ sym (is.1 index item below (subst (IsBehind call) at behind)) ∙ sym (ap (λ (x : Candidate). x.caller.station) at))
