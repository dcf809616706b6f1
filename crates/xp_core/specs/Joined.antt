-- Closed user groups let the stations of every call be joined (X.301, X.25 clause 6.14), by the tables in force when the call
-- was asked for.
use Rattle.std.specs.Prelude.{◌≡◌, ℕ, Some, List, IfSome}
use Rattle.xp_decide.specs.Asks.{station_of_line}
use Rattle.xp_groups.specs.MayJoin.{MayJoin}
use Rattle.xp_subs.specs.Tables.{Tables}
use Rattle.xp_step.specs.declared.entry.Entry.{Entry}
use Rattle.xp_step.specs.InForce.{in_force}
use Rattle.xp_step.specs.Outcomes.{taken_by}
use Rattle.xp_step.specs.Table.{CallRequest}
use Rattle.xp_core.specs.Records.{Begins, Moment}
use Rattle.xp_machine.specs.World.{Call, World, call_numbered}

-- the stations of these two lines may be joined, that of the caller first
abbrev pub MayTalk : Tables → ℕ → ℕ → Type 0
MayTalk tables caller called = MayJoin (station_of_line tables caller) (station_of_line tables called)

-- the call of this number was asked for at a place of the history, and its stations may be joined by the tables in force there
pub record IsJoined {A : Type 0} (tables : Tables) (history : List (Entry A)) (number : ℕ) (call : Call) : Type 0 where
  pub asking : Moment tables history
  pub request : CallRequest A
  pub asks : Begins asking number request
  pub joined : MayTalk (in_force tables asking.before) call.caller call.called

pub record AreJoined {A : Type 0} (tables : Tables) (history : List (Entry A)) (world : World) : Type 0 where
  -- each live call
  pub live : (number : ℕ) (call : Call) → call_numbered world number ≡ Some call → IsJoined tables history number call
  -- and each line that a call was ever put to
  pub taken : (asking : Moment tables history) → IfSome (taken_by asking.entry.outcome) (MayTalk (in_force tables asking.before) asking.entry.event.line)
