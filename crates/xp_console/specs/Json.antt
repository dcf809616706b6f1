-- One moment of the exchange as JSON. An object's members stand in the order of their names.
use Rattle.std.specs.Prelude.{ℕ, codes, List, map, Option, None, Some, string_bytes}
use Rattle.std.specs.Net.Text.{socket_text}
use Rattle.std.specs.declared.net.socket_addr.SocketAddr.{SocketAddr}
use Rattle.serde_json.specs.Data.{Data, array, member, no_members, null, number, object, string, unsigned}
use Rattle.serde_json.specs.View.{items_of}
use Rattle.serde_json.specs.Written.{compact_text}
use Rattle.xp_console.specs.Refusals.{by_cause}
use Rattle.xp_console.specs.Words.{cause_text, payer_text, state_text}
use Rattle.xp_console.specs.declared.status.EndedCall.{EndedCall}
use Rattle.xp_console.specs.declared.status.ExchangeStatus.{ExchangeStatus}
use Rattle.xp_console.specs.declared.status.LineStatus.{LineStatus}
use Rattle.xp_console.specs.declared.status.LiveCall.{LiveCall}
use Rattle.xp_console.specs.declared.status.Party.{Party}
use Rattle.xp_console.specs.declared.status.ReloadCounts.{ReloadCounts}
use Rattle.xp_console.specs.declared.status.StationCalls.{StationCalls}
use Rattle.xp_console.specs.declared.status.Totals.{Totals}

-- a count or a moment
abbrev pub count_data : ℕ → Data
count_data count = number (unsigned count)

-- a count or a moment, if there is one
abbrev pub optional_data : Option ℕ → Data
optional_data None = null
optional_data (Some count) = count_data count

-- the far end of a connection, such as `10.0.0.9:40000`, if there is one
abbrev pub peer_data : Option SocketAddr → Data
peer_data None = null
peer_data (Some peer) = string (socket_text peer)

-- a line
abbrev pub line_data : LineStatus → Data
line_data line =
    object (member (codes "address") (string (string_bytes line.address))
    (member (codes "call") (optional_data line.call)
    (member (codes "name") (string (string_bytes line.name))
    (member (codes "peer") (peer_data line.peer)
    (member (codes "router_unreachable_since") (optional_data line.router_unreachable_since)
    (member (codes "since") (count_data line.since)
    (member (codes "state") (string (state_text line.state))
    (member (codes "station") (string (string_bytes line.station)) no_members))))))))

-- a line's part in a call
abbrev pub party_data : Party → Data
party_data party =
    object (member (codes "address") (string (string_bytes party.address))
    (member (codes "line") (string (string_bytes party.line)) no_members))

-- a line's part in a call, if there is one
abbrev pub optional_party_data : Option Party → Data
optional_party_data None = null
optional_party_data (Some party) = party_data party

-- the segments in both directions
abbrev pub segments_data : ℕ → ℕ → Data
segments_data from_caller from_called =
    object (member (codes "from_called") (count_data from_called)
    (member (codes "from_caller") (count_data from_caller) no_members))

-- how a call was cleared
abbrev pub cleared_data : ℕ → ℕ → Data
cleared_data cause diagnostic =
    object (member (codes "cause") (count_data cause)
    (member (codes "diagnostic") (count_data diagnostic)
    (member (codes "words") (string (cause_text cause)) no_members)))

-- a live call
abbrev pub live_data : LiveCall → Data
live_data call =
    object (member (codes "called") (party_data call.called)
    (member (codes "caller") (party_data call.caller)
    (member (codes "connected") (optional_data call.connected)
    (member (codes "number") (count_data call.number)
    (member (codes "requested") (count_data call.requested)
    (member (codes "seconds") (count_data call.seconds)
    (member (codes "segments") (segments_data call.segments_from_caller call.segments_from_called) no_members)))))))

-- an ended call
abbrev pub ended_data : EndedCall → Data
ended_data call =
    object (member (codes "called") (optional_party_data call.called)
    (member (codes "caller") (party_data call.caller)
    (member (codes "cleared") (cleared_data call.cause call.diagnostic)
    (member (codes "connected") (optional_data call.connected)
    (member (codes "dialled") (string (string_bytes call.dialled))
    (member (codes "ended") (count_data call.ended)
    (member (codes "number") (count_data call.number)
    (member (codes "payer") (string (payer_text call.payer))
    (member (codes "requested") (count_data call.requested)
    (member (codes "seconds") (count_data call.seconds)
    (member (codes "segments") (segments_data call.segments_from_caller call.segments_from_called) no_members)))))))))))

-- what was counted of a station
abbrev pub station_data : StationCalls → Data
station_data station =
    object (member (codes "address") (string (string_bytes station.address))
    (member (codes "from") (count_data station.from)
    (member (codes "refused") (count_data station.refused)
    (member (codes "to") (count_data station.to) no_members))))

-- how many call requests were refused with a cause
abbrev pub refused_data : ℕ × ℕ → Data
refused_data refused =
    object (member (codes "cause") (count_data refused.0)
    (member (codes "count") (count_data refused.1)
    (member (codes "words") (string (cause_text refused.0)) no_members)))

-- how often the subscription file was read again, with the moment of the last time that what it has came into force
abbrev pub reloads_data : ReloadCounts → Data
reloads_data reloads =
    object (member (codes "done") (count_data reloads.done)
    (member (codes "last") (optional_data reloads.last)
    (member (codes "refused") (count_data reloads.refused) no_members)))

-- the totals
abbrev pub totals_data : Totals → Data
totals_data totals =
    object (member (codes "calls") (count_data totals.calls)
    (member (codes "events") (count_data totals.events)
    (member (codes "octets_received") (count_data totals.octets_received)
    (member (codes "octets_sent") (count_data totals.octets_sent)
    (member (codes "partial_records") (count_data totals.partial_records)
    (member (codes "records_waiting") (count_data totals.records_waiting)
    (member (codes "refused") (array (items_of (map refused_data (by_cause totals.refused))))
    (member (codes "router_failures") (count_data totals.router_failures)
    (member (codes "router_refusals") (array (items_of (map refused_data (by_cause totals.router_refusals))))
    (member (codes "segments_from_called") (count_data totals.segments_from_called)
    (member (codes "segments_from_callers") (count_data totals.segments_from_callers)
    (member (codes "stalls") (count_data totals.stalls) no_members))))))))))))

-- the lines, the live calls, the ended calls and the stations
abbrev pub lines_data : List LineStatus → Data
lines_data lines = array (items_of (map line_data lines))

abbrev pub calls_data : List LiveCall → Data
calls_data calls = array (items_of (map live_data calls))

abbrev pub recent_data : List EndedCall → Data
recent_data calls = array (items_of (map ended_data calls))

abbrev pub stations_data : List StationCalls → Data
stations_data stations = array (items_of (map station_data stations))

-- one moment of the exchange
abbrev pub status_data : ExchangeStatus → Data
status_data status =
    object (member (codes "calls") (calls_data status.calls.items)
    (member (codes "lines") (lines_data status.lines.items)
    (member (codes "moment") (count_data status.moment)
    (member (codes "recent") (recent_data status.recent.items)
    (member (codes "reloads") (reloads_data status.reloads)
    (member (codes "started") (count_data status.started)
    (member (codes "stations") (stations_data status.stations.items)
    (member (codes "totals") (totals_data status.totals) no_members))))))))

-- its text, with no space
unfoldable pub json_text : ExchangeStatus → List ℕ
json_text status = compact_text (status_data status)
