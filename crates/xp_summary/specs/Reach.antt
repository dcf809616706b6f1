-- Whether a station reaches another by a call: what is decided on its call requests, where every line is idle and no call is
-- redirected.
use Rattle.std.specs.Prelude.{◌≡◌, ℕ, ◌<◌, false, map, List, [], None, ◌↔◌}
use Rattle.std.specs.declared.alloc.Global.{Global}
use Rattle.xp_decide.specs.Decided.{Decided}
use Rattle.xp_decide.specs.declared.verdict.IncomingCall.{IncomingCall}
use Rattle.xp_decide.specs.declared.verdict.Verdict.TheVariants.{Take}
use Rattle.xp_facilities.specs.Requested.{Means}
use Rattle.xp_facilities.specs.declared.fast_select.FastSelect.TheVariants.{No}
use Rattle.xp_facilities.specs.declared.requested.RequestedFacilities.{RequestedFacilities}
use Rattle.xp_facilities.specs.declared.selection.Selection.{Selection}
use Rattle.xp_hunt.specs.declared.lines.LineState.{LineState}
use Rattle.xp_hunt.specs.declared.lines.LineState.TheVariants.{Idle}
use Rattle.xp_packets.specs.declared.block.Block.{Block}
use Rattle.xp_subs.specs.Sound.{IsSound, Lists}
use Rattle.xp_subs.specs.Tables.{Tables, station_at, station_count}
use Rattle.xp_subs.specs.declared.station.Station.{Station}
use Rattle.xp_summary.specs.declared.reach.Reach.{Reach}
use Rattle.xp_summary.specs.declared.reach.Reach.TheVariants.{Plain, Selecting, Never}

-- a station, and the subscriptions, without redirections
abbrev pub unredirected : Station → Station
unredirected station = record station { redirect = None }

abbrev pub without_redirections : Tables → Tables
without_redirections tables = record tables { stations = map unredirected tables.stations }

-- Every line is in service and has no call. The line that makes a call request has that call, so it is none that rings for it: a
-- station with one line has no idle line for a call to itself.
abbrev pub all_idle : ℕ → LineState
all_idle line = Idle

-- a call request that dials a station's own address, with these facilities and without user data
abbrev pub request_to : Tables → ℕ → List ℕ → Block Global
request_to tables called facilities =
    record { called = (station_at tables called).address; calling = []; facilities = facilities; user = [] }

-- this line of the called station rings for the call request of the line `from`
pub record Rings (tables : Tables) (from called : ℕ) (block : Block Global) : Type 0 where
  pub ring : IncomingCall Global
  pub own : Lists tables called ring.line
  pub decided : Decided (without_redirections tables) all_idle from block (Take ring)

-- A line of the called station rings, whichever line of the caller makes the call request with these facilities.
pub record PutsThrough (tables : Tables) (caller called : ℕ) (facilities : List ℕ) : Type 0 where
  pub from : ℕ
  pub own : Lists tables caller from
  pub each : (line : ℕ) → Lists tables caller line → Rings tables line called (request_to tables called facilities)

-- No line rings, whichever line of the caller makes the call request.
abbrev pub RingsNone : Tables → ℕ → Block Global → Type 0
RingsNone tables caller block =
    (line : ℕ) (ring : IncomingCall Global) → Lists tables caller line
    → Decided (without_redirections tables) all_idle line block (Take ring) → ⊥

-- facilities that ask for this selection of a closed user group, and for nothing else
abbrev pub selecting : Selection → RequestedFacilities Global
selecting selection = record {
  selection = selection;
  fast = No;
  reverse = false;
  throughput = None;
  charging = false;
  packet = None;
  window = None;
  dte = [];
}

-- Calls are put through without facilities; or not without, and with some selection of a group; or no call request that dials the
-- station is put through, whatever it asks for.
abbrev pub IsReach : Tables → ℕ → ℕ → Reach → Type 0
IsReach tables caller called Plain = PutsThrough tables caller called []
IsReach tables caller called Selecting =
    RingsNone tables caller (request_to tables called [])
    × (selection : Selection) × (facilities : List ℕ) × Means facilities (selecting selection) × PutsThrough tables caller called facilities
IsReach tables caller called Never =
    (block : Block Global) → block.called ≡ (station_at tables called).address → RingsNone tables caller block

-- one station has only one reach to another
abbrev pub ReachIsDetermined : Type 0
ReachIsDetermined =
    (tables : Tables) (caller called : ℕ) (one other : Reach) → IsReach tables caller called one → IsReach tables caller called other → one ≡ other

-- At the address of a station whose calls are not redirected, the same calls are put through over the subscriptions as they are,
-- with the redirections of other stations.
abbrev pub IsDecidedAlike : Type 0
IsDecidedAlike =
    (tables : Tables) (states : ℕ → LineState) (from called : ℕ) (block : Block Global) (ring : IncomingCall Global) → IsSound tables
    → called < station_count tables → (station_at tables called).redirect ≡ None → block.called ≡ (station_at tables called).address
    → (Decided tables states from block (Take ring) ↔ Decided (without_redirections tables) states from block (Take ring))
