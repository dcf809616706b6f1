-- Which line behind a router a connection is given to.
use Rattle.std.specs.Prelude.{◌≡◌, ◌<◌, ℕ, true, List, Option, None, Some, All, length, slice_index_or, take}
use Rattle.std.specs.declared.net.ip_addr.IpAddr.{IpAddr}
use Rattle.xp_causes.specs.declared.refusal.Refusal.{Refusal}
use Rattle.xp_causes.specs.declared.refusal.TheConstants.Refusal.{CALLER_NOT_KNOWN, NUMBER_BUSY}
use Rattle.xp_door.specs.Callers.{HasSome, IsBehind, IsByRule, IsRule}
use Rattle.xp_door.specs.Hosts.{IsSameHost}
use Rattle.xp_door.specs.declared.choosing.CallerRule.{CallerRule}
use Rattle.xp_door.specs.declared.choosing.Candidate.{Candidate}
use Rattle.xp_door.specs.declared.choosing.Choice.{Choice}
use Rattle.xp_door.specs.declared.choosing.Choice.TheVariants.{Line, NoCaller, NoFreeLine}
use Rattle.xp_door.specs.declared.router_call.RouterCall.{RouterCall}

-- a line may take a call now: it is behind the router, may take it by this rule, is free, and is of the call's modulus
abbrev pub MayTake : RouterCall → CallerRule → Candidate → Type 0
MayTake call rule candidate =
    (candidate.is_free ≡ true) × (candidate.caller.modulus ≡ call.modulus) × IsBehind call candidate × IsByRule call rule candidate.caller

abbrev pub NoneMayTake : RouterCall → CallerRule → List Candidate → Type 0
NoneMayTake call rule candidates = All (λ candidate. MayTake call rule candidate → ⊥) candidates

-- the line in the place may take the call, and none before it may; or none of those that the rule finds may now, or it finds none
abbrev pub IsChoiceBy : RouterCall → CallerRule → List Candidate → Choice → Type 0
IsChoiceBy call rule candidates (Line place) =
    (place < length candidates) × ((other : Candidate) → MayTake call rule (slice_index_or candidates place other))
    × NoneMayTake call rule (take place candidates)
IsChoiceBy call rule candidates NoFreeLine = HasSome call rule candidates × NoneMayTake call rule candidates
IsChoiceBy call rule candidates NoCaller = HasSome call rule candidates → ⊥

-- the choice by the rule that applies
abbrev pub IsChoice : RouterCall → List Candidate → Choice → Type 0
IsChoice call candidates choice = (rule : CallerRule) × IsRule call candidates rule × IsChoiceBy call rule candidates choice

-- why a call is refused that no line has taken: none may take it; or none is free, also where one was that took another meanwhile
abbrev pub refusal_by : Choice → Refusal
refusal_by (Line place) = NUMBER_BUSY
refusal_by NoFreeLine = NUMBER_BUSY
refusal_by NoCaller = CALLER_NOT_KNOWN

-- a line is behind the peer's router, and free
abbrev pub IsFree : IpAddr → Candidate → Type 0
IsFree peer candidate = (candidate.is_free ≡ true) × IsSameHost candidate.router peer

abbrev pub NoneIsFree : IpAddr → List Candidate → Type 0
NoneIsFree peer candidates = All (λ candidate. IsFree peer candidate → ⊥) candidates

-- the first line behind the peer's router that is free, if one is
abbrev pub IsFirstFree : IpAddr → List Candidate → Option ℕ → Type 0
IsFirstFree peer candidates None = NoneIsFree peer candidates
IsFirstFree peer candidates (Some place) =
    (place < length candidates) × ((other : Candidate) → IsFree peer (slice_index_or candidates place other))
    × NoneIsFree peer (take place candidates)
