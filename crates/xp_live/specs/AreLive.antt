-- Which calls are kept as live (`AreLiveCalls`): those that are connected in the state to which a history leads.
use Rattle.std.specs.Prelude.{◌≡◌, ℕ, ◌<◌, IsSome, Some, List, [], ◌∷◌, All, Contains, map}
use Rattle.std.specs.declared.alloc.Global.{Global as Alloc}
use Rattle.xp_cdr.specs.Ended.{ended_as}
use Rattle.xp_cdr.specs.declared.ended.EndedBy.TheVariants.{Partial}
use Rattle.xp_cdr.specs.declared.ended.EndedCall.{EndedCall}
use Rattle.xp_causes.specs.declared.clearing_cause.TheConstants.{OUT_OF_ORDER}
use Rattle.xp_causes.specs.declared.diagnostic.TheConstants.{NO_ADDITIONAL_INFORMATION}
use Rattle.xp_machine.specs.Clearing.{record_of}
use Rattle.xp_machine.specs.World.{Call, call_numbered}
use Rattle.xp_live.specs.LiveCalls.{live_calls}
use Rattle.xp_step.specs.Run.{Run}
use Rattle.xp_step.specs.Segments.{segments_of}
use Rattle.xp_step.specs.Worlds.{world_after}
use Rattle.xp_step.specs.declared.entry.Entry.{Entry}
use Rattle.xp_subs.specs.Tables.{Tables, line_count}
use Rattle.xp_view.specs.Views.{Shows}
use Rattle.xp_view.specs.declared.view.ExchangeView.{ExchangeView}

-- a live call, as it would have ended if it were cleared at this moment as out of order, by a run that died; `names` tell it
abbrev pub cut_off : {A : Type 0} → Tables → Tables → List (Entry A) → ℕ → ℕ → Call → EndedCall
cut_off names tables history moment number call =
    ended_as names Partial (record_of number call (segments_of tables history number call) moment OUT_OF_ORDER NO_ADDITIONAL_INFORMATION)

-- a call that is live and connected (p4)
pub record IsConnected {A : Type 0} (tables : Tables) (history : List (Entry A)) (number : ℕ) (call : Call) : Type 0 where
  pub is_live : call_numbered (world_after tables history) number ≡ Some call
  pub agreed : IsSome call.agreed

-- one of the calls that are connected, cut off at this moment
pub record IsCutOff {A : Type 0} (names tables : Tables) (history : List (Entry A)) (moment : ℕ) (ended : EndedCall) : Type 0 where
  pub number : ℕ
  pub call : Call
  pub connected : IsConnected tables history number call
  pub is : ended ≡ cut_off names tables history moment number call

-- each of these lines is lower than those behind it
abbrev pub Ascend : List ℕ → Type 0
Ascend [] = Unit {0}
Ascend (line ∷ lines) = All (λ other. line < other) lines × Ascend lines

-- These are the calls that are connected, each once, in the order of their callers' lines, cut off at this moment.
pub record AreLiveCalls {A : Type 0} (names tables : Tables) (history : List (Entry A)) (moment : ℕ) (calls : List EndedCall) : Type 0 where
  pub each : All (IsCutOff names tables history moment) calls
  pub all : (number : ℕ) (call : Call) → IsConnected tables history number call → Contains calls (cut_off names tables history moment number call)
  pub once : Ascend (map (λ ended. ended.charging.caller) calls)

-- Where a view shows the state to which a run leads, the calls that are taken from it as live are those that are connected, told by
-- subscriptions with as many lines.
abbrev pub TakesConnected : Type 0
TakesConnected =
    (names tables : Tables) (history : List (Entry Alloc)) (view : ExchangeView Alloc) (moment : ℕ)
    → line_count names ≡ line_count tables → Run tables history (world_after tables history) → Shows tables history view
    → AreLiveCalls names tables history moment (live_calls names moment view.lines.items)
