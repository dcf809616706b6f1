-- The counts in Prometheus' text format.
use Rattle.std.specs.Prelude.{ℕ, Bool, true, false, codes, count_by, decimal, flat_map, List, [], ◌∷◌, ◌++◌, length, string_bytes}
use Rattle.xp_console.specs.Refusals.{by_cause}
use Rattle.xp_console.specs.Words.{cause_text, state_text}
use Rattle.xp_console.specs.declared.refused.RefusedCalls.{RefusedCalls}
use Rattle.xp_console.specs.declared.status.ExchangeStatus.{ExchangeStatus}
use Rattle.xp_console.specs.declared.status.LineStatus.{LineStatus}
use Rattle.xp_console.specs.declared.status.LiveCall.{LiveCall}
use Rattle.xp_console.specs.declared.status.LineState.{LineState}
use Rattle.xp_console.specs.declared.status.LineState.TheVariants.{OutOfService, Ready, DteWaiting, DceWaiting, DataTransfer, DceClearIndication}
use Rattle.xp_console.specs.declared.status.ReloadCounts.{ReloadCounts}
use Rattle.xp_console.specs.declared.status.StationCalls.{StationCalls}
use Rattle.xp_console.specs.declared.status.Totals.{Totals}

-- what a metric is, in front of its samples: what it counts, and whether it only grows (`counter`) or not (`gauge`)
unfoldable pub head_text : List ℕ → List ℕ → List ℕ → List ℕ
head_text name kind help =
    codes "# HELP " ++ name ++ codes " " ++ help ++ codes "\n# TYPE " ++ name ++ codes " " ++ kind ++ codes "\n"

-- a sample of a metric
unfoldable pub sample_text : List ℕ → ℕ → List ℕ
sample_text name value = name ++ codes " " ++ decimal value ++ codes "\n"

-- a sample with a label
unfoldable pub labelled_text : List ℕ → List ℕ → List ℕ → ℕ → List ℕ
labelled_text name label word value =
    name ++ codes "{" ++ label ++ codes "=\"" ++ word ++ codes "\"} " ++ decimal value ++ codes "\n"

-- two states are the same
abbrev pub is_same_state : LineState → LineState → Bool
is_same_state OutOfService OutOfService = true
is_same_state Ready Ready = true
is_same_state DteWaiting DteWaiting = true
is_same_state DceWaiting DceWaiting = true
is_same_state DataTransfer DataTransfer = true
is_same_state DceClearIndication DceClearIndication = true
is_same_state _ _ = false

-- how many lines are in a state
unfoldable pub count_in : LineState → List LineStatus → ℕ
count_in state lines = count_by (λ line. is_same_state line.state state) lines

-- how many lines are in this state
unfoldable pub state_sample : List LineStatus → LineState → List ℕ
state_sample lines state =
    labelled_text (codes "gonukire_lines") (codes "state") (state_text state) (count_in state lines)

-- the states of a channel
abbrev pub all_states : List LineState
all_states = OutOfService ∷ Ready ∷ DteWaiting ∷ DceWaiting ∷ DataTransfer ∷ DceClearIndication ∷ []

unfoldable pub lines_text : List LineStatus → List ℕ
lines_text lines =
    head_text (codes "gonukire_lines") (codes "gauge") (codes "Lines, by the state of their channel.")
    ++ flat_map (state_sample lines) all_states

-- a metric of one sample
unfoldable pub single_text : List ℕ → List ℕ → List ℕ → ℕ → List ℕ
single_text name kind help value = head_text name kind help ++ sample_text name value

-- places that have no line
unfoldable pub spare_text : ℕ → List ℕ
spare_text count =
    single_text (codes "gonukire_spare_lines") (codes "gauge") (codes "Places for lines that a reload may bring.") count

-- calls, those that are live and all
unfoldable pub live_text : List LiveCall → List ℕ
live_text calls =
    single_text (codes "gonukire_calls_live") (codes "gauge") (codes "Calls that have not ended.") (length calls)

unfoldable pub calls_text : ExchangeStatus → List ℕ
calls_text status =
    live_text status.calls.items
    ++ single_text (codes "gonukire_calls_total") (codes "counter") (codes "Call requests, with those that were refused.") status.totals.calls

-- how many calls were refused with this cause
unfoldable pub cause_sample : List ℕ → ℕ × ℕ → List ℕ
cause_sample name refused = labelled_text name (codes "cause") (cause_text refused.0) refused.1

-- calls that were refused, by the clearing cause
unfoldable pub causes_text : List ℕ → List ℕ → RefusedCalls → List ℕ
causes_text name help refused = head_text name (codes "counter") help ++ flat_map (cause_sample name) (by_cause refused)

-- call requests of lines, and calls of routers that no line took
unfoldable pub refused_text : Totals → List ℕ
refused_text totals =
    causes_text (codes "gonukire_refused_total") (codes "Call requests that were refused, by the clearing cause.") totals.refused
    ++ causes_text (codes "gonukire_router_refusals_total") (codes "Calls of routers that no line took, by the clearing cause.") totals.router_refusals

-- connections to routers that could not be made
unfoldable pub failures_text : Totals → List ℕ
failures_text totals =
    single_text (codes "gonukire_router_failures_total") (codes "counter") (codes "Connections to routers that could not be made.") totals.router_failures

-- a sample of the station with this address, and of this direction
unfoldable pub station_direction_text : List ℕ → List ℕ → List ℕ → ℕ → List ℕ
station_direction_text name address direction value =
    name ++ codes "{address=\"" ++ address ++ codes "\",direction=\"" ++ direction ++ codes "\"} "
    ++ decimal value ++ codes "\n"

-- the calls of a station: `from` those that its lines requested, `to` those that were offered to its lines
unfoldable pub station_directions_text : List ℕ → ℕ → ℕ → List ℕ
station_directions_text address from to =
    station_direction_text (codes "gonukire_station_calls_total") address (codes "from") from
    ++ station_direction_text (codes "gonukire_station_calls_total") address (codes "to") to

unfoldable pub station_calls_sample : StationCalls → List ℕ
station_calls_sample station = station_directions_text (string_bytes station.address) station.from station.to

-- the call requests of a station that were refused
unfoldable pub station_refusals_sample : StationCalls → List ℕ
station_refusals_sample station =
    labelled_text (codes "gonukire_station_refusals_total") (codes "address") (string_bytes station.address) station.refused

-- the calls of all stations that have ended, and those of them that were refused
unfoldable pub station_calls_text : List StationCalls → List ℕ
station_calls_text stations =
    head_text (codes "gonukire_station_calls_total") (codes "counter") (codes "Ended calls, by the station that they came from or were offered to.")
    ++ flat_map station_calls_sample stations

unfoldable pub station_refusals_text : List StationCalls → List ℕ
station_refusals_text stations =
    head_text (codes "gonukire_station_refusals_total") (codes "counter") (codes "Call requests that were refused, by the station that they came from.")
    ++ flat_map station_refusals_sample stations

unfoldable pub stations_text : List StationCalls → List ℕ
stations_text stations = station_calls_text stations ++ station_refusals_text stations

-- how many there are of two kinds, such as directions
unfoldable pub directions_text : List ℕ → List ℕ → ℕ → List ℕ → ℕ → List ℕ
directions_text name one first other second =
    labelled_text name (codes "direction") one first ++ labelled_text name (codes "direction") other second

-- segments, and octets, in each direction
unfoldable pub segments_text : Totals → List ℕ
segments_text totals =
    head_text (codes "gonukire_segments_total") (codes "counter") (codes "Segments of ended calls, by the end that sent them.")
    ++ directions_text (codes "gonukire_segments_total") (codes "from_caller") totals.segments_from_callers (codes "from_called") totals.segments_from_called

unfoldable pub octets_text : Totals → List ℕ
octets_text totals =
    head_text (codes "gonukire_link_octets_total") (codes "counter") (codes "Octets of the connections of lines.")
    ++ directions_text (codes "gonukire_link_octets_total") (codes "received") totals.octets_received (codes "sent") totals.octets_sent

-- events, and how many of them were forced stalls
unfoldable pub events_text : Totals → List ℕ
events_text totals =
    single_text (codes "gonukire_events_total") (codes "counter") (codes "Events of lines.") totals.events
    ++ single_text (codes "gonukire_stalls_total") (codes "counter") (codes "Lines taken out of service for not taking their output.") totals.stalls

-- records that wait, and partial records of the run before
unfoldable pub records_text : Totals → List ℕ
records_text totals =
    single_text (codes "gonukire_records_waiting") (codes "gauge") (codes "Records of ended calls that are not written yet.") totals.records_waiting
    ++ single_text (codes "gonukire_partial_records") (codes "gauge") (codes "Calls of the run before that got a partial record.") totals.partial_records

-- reloads, by what became of them
unfoldable pub results_text : ReloadCounts → List ℕ
results_text reloads =
    labelled_text (codes "gonukire_reloads_total") (codes "result") (codes "done") reloads.done
    ++ labelled_text (codes "gonukire_reloads_total") (codes "result") (codes "refused") reloads.refused

unfoldable pub reloads_text : ReloadCounts → List ℕ
reloads_text reloads =
    head_text (codes "gonukire_reloads_total") (codes "counter") (codes "Reloads of the subscription file, by what became of them.")
    ++ results_text reloads

-- all metrics
unfoldable pub metrics_text : ExchangeStatus → List ℕ
metrics_text status =
    lines_text status.lines.items ++ spare_text status.spare_lines ++ calls_text status ++ refused_text status.totals
    ++ failures_text status.totals ++ stations_text status.stations.items ++ segments_text status.totals ++ octets_text status.totals ++ events_text status.totals
    ++ records_text status.totals ++ reloads_text status.reloads
