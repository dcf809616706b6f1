-- The states of the lines after an event (X.25 Annex C, table C-2).
use Rattle.std.specs.Prelude.{◌≡◌, ◌≢◌, ℕ, None, Some, List}
use Rattle.xp_channel.specs.declared.action.Action.{Action}
use Rattle.xp_channel.specs.declared.action.Action.TheVariants.{NewCall, Collision, Answer, Relayed}
use Rattle.xp_channel.specs.declared.channel.Channel.{Channel}
use Rattle.xp_channel.specs.declared.channel.Channel.TheVariants.{P7}
use Rattle.xp_channel.specs.Table.{state_after}
use Rattle.xp_subs.specs.Tables.{Tables}
use Rattle.xp_step.specs.declared.entry.Entry.{Entry}
use Rattle.xp_step.specs.declared.outcome.Outcome.{Outcome}
use Rattle.xp_step.specs.declared.outcome.Outcome.TheVariants.{Plain, Put, Refused, Connected, Declined, Exceeded}
use Rattle.xp_step.specs.Outcomes.{taken_by}
use Rattle.xp_step.specs.Run.{Run}
use Rattle.xp_step.specs.Step.{Step}
use Rattle.xp_step.specs.Table.{action_at}
use Rattle.xp_machine.specs.Channel.{channel_of}
use Rattle.xp_machine.specs.World.{Call, World, call_numbered, call_on, far_end, line_at, state_at}

-- What an action may settle in a state, and the state after it: that of the table; or p7 (clause 4.1.8), where the exchange
-- clears the line at once, since it refuses a call request, finds an answer at fault, or finds data past the segment limit.
abbrev pub IsStateAfter : Channel → Action → Outcome → Channel → Type 0
IsStateAfter state NewCall (Put called setup) after = after ≡ state_after state NewCall
IsStateAfter state NewCall (Refused why) after = after ≡ P7
IsStateAfter state NewCall outcome after = ⊥
IsStateAfter state Collision (Put called setup) after = after ≡ state_after state Collision
IsStateAfter state Collision (Refused why) after = after ≡ P7
IsStateAfter state Collision outcome after = ⊥
IsStateAfter state Answer (Connected agreement) after = after ≡ state_after state Answer
IsStateAfter state Answer (Declined diagnostic) after = after ≡ P7
IsStateAfter state Answer outcome after = ⊥
IsStateAfter state Relayed Plain after = after ≡ state_after state Relayed
IsStateAfter state Relayed Exceeded after = after ≡ P7
IsStateAfter state Relayed outcome after = ⊥
IsStateAfter state action outcome after = (outcome ≡ Plain) × (after ≡ state_after state action)

-- the state of a line as the table of actions names it
abbrev pub channel_at : World → ℕ → Channel
channel_at world line = channel_of (state_at world line)

-- after each step from a state that a history leads to
abbrev pub StateFollowsTable : Type 0 → Type 0
StateFollowsTable A =
    (tables : Tables) (history : List (Entry A)) (world : World) (entry : Entry A) (next : World)
    → Run tables history world → Step tables history world entry next
    → IsStateAfter (channel_at world entry.event.line) (action_at world entry.event) entry.outcome (channel_at next entry.event.line)

-- the other lines after an event
pub record OthersFollow {A : Type 0} (world : World) (entry : Entry A) (next : World) : Type 0 where
  -- as the call of its line ends, the far end has a clear indication to confirm (p7, clause 4.1.8)
  pub far : (number : ℕ) (call : Call) → call_on world entry.event.line ≡ Some (number, call) → call_numbered next number ≡ None
      → channel_at next (far_end call entry.event.line) ≡ P7
  -- a line that is not in that call, and to which no new call is put, stays as it is
  pub rest : (line : ℕ) → line ≢ entry.event.line → taken_by entry.outcome ≢ Some line
      → ((number : ℕ) (call : Call) → call_on world entry.event.line ≡ Some (number, call) → line ≢ far_end call entry.event.line)
      → line_at next line ≡ line_at world line

-- after each step from a state that a history leads to
abbrev pub OtherLinesFollow : Type 0 → Type 0
OtherLinesFollow A =
    (tables : Tables) (history : List (Entry A)) (world : World) (entry : Entry A) (next : World)
    → Run tables history world → Step tables history world entry next → OthersFollow world entry next
