-- Whose call a router brings: which lines behind it may take the call.
use Rattle.std.specs.Prelude.{◌≡◌, ℕ, true, List, Some, All, Any}
use Rattle.xp_door.specs.Hosts.{IsSameHost}
use Rattle.xp_door.specs.declared.choosing.Caller.{Caller}
use Rattle.xp_door.specs.declared.choosing.CallerRule.{CallerRule}
use Rattle.xp_door.specs.declared.choosing.CallerRule.TheVariants.{DefaultCaller, OneStation, OwnAddress, StationAddress}
use Rattle.xp_door.specs.declared.choosing.Candidate.{Candidate}
use Rattle.xp_door.specs.declared.router_call.RouterCall.{RouterCall}
use Rattle.xp_subs.specs.Tables.{Tables, station_at}
use Rattle.xp_subs.specs.declared.line.Line.{Line}

-- what the calls of a router are matched with, of a line behind it
abbrev pub caller_of : Tables → Line → Caller
caller_of tables line = record {
  modulus = line.modulus;
  station = line.station;
  own_address = line.address;
  address = (station_at tables line.station).address;
  is_default = (station_at tables line.station).default_caller;
}

-- a line is behind the router that brings the call
abbrev pub IsBehind : RouterCall → Candidate → Type 0
IsBehind call candidate = IsSameHost candidate.router call.peer

-- a line may take the call by a rule: the calling address is its own, or its station's; it is of the one station behind the router; or
-- of the default caller
abbrev pub IsByRule : RouterCall → CallerRule → Caller → Type 0
IsByRule call OwnAddress caller = caller.own_address ≡ Some call.calling
IsByRule call StationAddress caller = caller.address ≡ call.calling
IsByRule call OneStation caller = Unit {0}
IsByRule call DefaultCaller caller = caller.is_default ≡ true

-- some line behind the router may take the call by a rule
abbrev pub HasSome : RouterCall → CallerRule → List Candidate → Type 0
HasSome call rule candidates = Any (λ candidate. IsBehind call candidate × IsByRule call rule candidate.caller) candidates

-- all lines behind the router are of one station
abbrev pub IsOneStation : RouterCall → List Candidate → Type 0
IsOneStation call candidates =
    (station : ℕ) × All (λ candidate. IsBehind call candidate → candidate.caller.station ≡ station) candidates

-- no line behind the router has the calling address, and no station there
abbrev pub IsOfNobody : RouterCall → List Candidate → Type 0
IsOfNobody call candidates = (HasSome call OwnAddress candidates → ⊥) × (HasSome call StationAddress candidates → ⊥)

-- the rule that applies: the first of them
abbrev pub IsRule : RouterCall → List Candidate → CallerRule → Type 0
IsRule call candidates OwnAddress = HasSome call OwnAddress candidates
IsRule call candidates StationAddress = (HasSome call OwnAddress candidates → ⊥) × HasSome call StationAddress candidates
IsRule call candidates OneStation = IsOfNobody call candidates × IsOneStation call candidates
IsRule call candidates DefaultCaller = IsOfNobody call candidates × (IsOneStation call candidates → ⊥)
