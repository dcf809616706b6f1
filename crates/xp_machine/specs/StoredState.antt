-- What the machine keeps, seen as the state of the exchange.
use Rattle.std.specs.Prelude.{ℕ, Option, None, Some, List, map}
use Rattle.std.specs.FinMap as finite
use Rattle.std.specs.Ordering.{nat_cmp}
use Rattle.slab.specs.Slab.{Slab}
use Rattle.xp_machine.specs.declared.call.CallKey.{CallKey}
use Rattle.xp_machine.specs.declared.call.LiveCall.{LiveCall}
use Rattle.xp_machine.specs.declared.change.NoCallState.{NoCallState as StoredNoCallState}
use Rattle.xp_machine.specs.declared.change.NoCallState.TheVariants as ways
use Rattle.xp_machine.specs.declared.channel.ChannelState.{ChannelState}
use Rattle.xp_machine.specs.declared.channel.ChannelState.TheVariants as kept
use Rattle.xp_machine.specs.declared.channel.LogicalChannel.{LogicalChannel}
use Rattle.xp_machine.specs.Changes.{NoCallState, GoesOut, IsFree, IsCleared}
use Rattle.xp_machine.specs.Channel.{State, Off, Ready, Waiting, Ringing, Talking, Cleared}
use Rattle.xp_machine.specs.Keyed.{by_number}
use Rattle.xp_machine.specs.World.{Call, Line, World}

abbrev pub state_of : ChannelState → State
state_of kept.Off = Off
state_of kept.Ready = Ready
state_of (kept.Waiting call) = Waiting call.number
state_of (kept.Ringing call) = Ringing call.number
state_of (kept.Talking call) = Talking call.number
state_of kept.Cleared = Cleared

-- the key of the call that a line in this state is in
abbrev pub key_of : ChannelState → Option CallKey
key_of kept.Off = None
key_of kept.Ready = None
key_of (kept.Waiting call) = Some call
key_of (kept.Ringing call) = Some call
key_of (kept.Talking call) = Some call
key_of kept.Cleared = None

abbrev pub line_of : LogicalChannel → Line
line_of kept = record { state = state_of kept.state; identifier = kept.identifier; connection = kept.connection }

abbrev pub call_of_stored : LiveCall → Call
call_of_stored call = record { caller = call.caller; called = call.called; dialled = call.dialled; setup = call.setup; requested = call.requested; agreed = call.agreed }

abbrev pub entry_of : LiveCall → ℕ × Call
entry_of call = (call.number, call_of_stored call)

abbrev pub calls_of : Slab LiveCall → finite.FinMap nat_cmp Call
calls_of calls = by_number entry_of calls

abbrev pub stored_world : List LogicalChannel → Slab LiveCall → ℕ → World
stored_world lines calls next = record { lines = map line_of lines; calls = calls_of calls; next = next }

abbrev pub no_call_state_of : StoredNoCallState → NoCallState
no_call_state_of ways.GoesOut = GoesOut
no_call_state_of ways.IsFree = IsFree
no_call_state_of ways.IsCleared = IsCleared
