-- What is seen of an exchange at one moment.
use Rattle.std.specs.Prelude.{◌≡◌, ℕ, ◌<◌, List, Some, length, slice_get}
use Rattle.xp_core.specs.Records.{records_of}
use Rattle.xp_step.specs.Stalls.{stalls_in}
use Rattle.xp_core.specs.View.{call_seen_on, flow_at}
use Rattle.xp_step.specs.Worlds.{world_after}
use Rattle.xp_step.specs.declared.entry.Entry.{Entry}
use Rattle.xp_machine.specs.View.{view_of}
use Rattle.xp_machine.specs.World.{line_at}
use Rattle.xp_view.specs.declared.view.LineWithCall.{LineWithCall}
use Rattle.xp_view.specs.declared.view.ExchangeView.{ExchangeView}
use Rattle.xp_subs.specs.Tables.{Tables, line_count}

-- a line, and the call that it is in, in the state to which this history leads
abbrev pub line_with_call : {A : Type 0} → Tables → List (Entry A) → ℕ → LineWithCall
line_with_call tables history line =
    let world = world_after tables history in
    record {
      line = view_of (line_at world line) (flow_at tables history world line);
      call = call_seen_on tables history world line;
    }

-- this view shows each line in the state to which this history leads, and how many entries, stalls and records the history has
pub record Shows {A B : Type 0} (tables : Tables) (history : List (Entry A)) (view : ExchangeView B) : Type 0 where
  pub count : length view.lines.items ≡ line_count tables
  pub each : (line : ℕ) → line < line_count tables → slice_get view.lines.items line ≡ Some (line_with_call tables history line)
  pub entries : view.entries ≡ length history
  pub stalls : view.stalls ≡ stalls_in history
  pub records : view.records ≡ length (records_of history)
