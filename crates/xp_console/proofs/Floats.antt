-- The status as JSON has no float.
use Rattle.std.proofs.Common.{◌≡◌, ◌∙◌, ℕ, ap, false, IfOk, Option, None, Some, Result, Ok, Err, refl}
use Rattle.std.specs.declared.alloc.AllocError.{AllocError}
use Rattle.std.specs.declared.net.socket_addr.SocketAddr.{SocketAddr}
use Rattle.serde_json.specs.Data.{Data}
use Rattle.serde_json.specs.View.{view}
use Rattle.serde_json.specs.Written.{has_float}
use Rattle.serde_json.specs.declared.value.Value.{Value}
use Rattle.xp_console.specs.Json.{ended_data, line_data, live_data, optional_data, optional_party_data, peer_data, reloads_data, station_data, totals_data}
use Rattle.xp_console.specs.declared.status.EndedCall.{EndedCall}
use Rattle.xp_console.specs.declared.status.LineStatus.{LineStatus}
use Rattle.xp_console.specs.declared.status.LiveCall.{LiveCall}
use Rattle.xp_console.specs.declared.status.Party.{Party}
use Rattle.xp_console.specs.declared.status.ReloadCounts.{ReloadCounts}
use Rattle.xp_console.specs.declared.status.StationCalls.{StationCalls}
use Rattle.xp_console.specs.declared.status.Totals.{Totals}
use Rattle.xp_console.specs.steps.Objects.{IsSeenAs}

optional_has_no_float : (count : Option ℕ) → has_float (optional_data count) ≡ false
optional_has_no_float None = refl
optional_has_no_float (Some count) = refl

peer_has_no_float : (peer : Option SocketAddr) → has_float (peer_data peer) ≡ false
peer_has_no_float None = refl
peer_has_no_float (Some peer) = refl

party_has_no_float : (party : Option Party) → has_float (optional_party_data party) ≡ false
party_has_no_float None = refl
party_has_no_float (Some party) = refl

pub line_has_no_float : (line : LineStatus) → has_float (line_data line) ≡ false
line_has_no_float line = rw (optional_has_no_float line.call, peer_has_no_float line.peer, optional_has_no_float line.router_unreachable_since) refl

pub live_has_no_float : (call : LiveCall) → has_float (live_data call) ≡ false
live_has_no_float call = rw (optional_has_no_float call.connected) refl

pub ended_has_no_float : (call : EndedCall) → has_float (ended_data call) ≡ false
ended_has_no_float call = rw (party_has_no_float call.called, optional_has_no_float call.connected) refl

pub station_has_no_float : (station : StationCalls) → has_float (station_data station) ≡ false
station_has_no_float station = refl

pub reloads_has_no_float : (reloads : ReloadCounts) → has_float (reloads_data reloads) ≡ false
reloads_has_no_float reloads = rw (optional_has_no_float reloads.last) refl

pub totals_has_no_float : (totals : Totals) → has_float (totals_data totals) ≡ false
totals_has_no_float totals = refl

-- a value that stands for data without floats
pub seen_without_float : (value : Result Value AllocError) (seen : Data) → IsSeenAs value seen → has_float seen ≡ false → IfOk value (λ made. has_float (view made) ≡ false)
seen_without_float (Ok made) seen is without = ap has_float is ∙ without
seen_without_float (Err fault) seen is without = tt
