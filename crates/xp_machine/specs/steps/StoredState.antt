-- For private steps. What the machine keeps, as it changes.
use Rattle.std.specs.Prelude.{◌≡◌, ◌≤◌, ◌⊎◌, ℕ, ◌+◌, Option, None, Some, List, slice_index_or, slice_set}
use Rattle.slab.specs.Slab.{Slab, Updates, get, slab_len}
use Rattle.xp_machine.specs.declared.call.CallKey.{CallKey}
use Rattle.xp_machine.specs.declared.call.LiveCall.{LiveCall}
use Rattle.xp_machine.specs.declared.change.Change.{Change}
use Rattle.xp_machine.specs.declared.change.Change.TheVariants as changes
use Rattle.xp_machine.specs.declared.channel.ChannelState.{ChannelState}
use Rattle.xp_machine.specs.declared.channel.ChannelState.TheVariants as kept
use Rattle.xp_machine.specs.declared.channel.LogicalChannel.{LogicalChannel}
use Rattle.xp_machine.specs.declared.agreement.Agreement.{Agreement}
use Rattle.xp_machine.specs.Channel.{INITIAL_IDENTIFIER}
use Rattle.xp_machine.specs.steps.Keyed.{HasOneEach}
use Rattle.xp_machine.specs.World.{far_end}
use Rattle.xp_machine.specs.StoredState.{key_of, call_of_stored, entry_of}

-- a line that never was in service
abbrev pub off_channel : LogicalChannel
off_channel = record { state = kept.Off; identifier = 0; connection = 0 }

abbrev pub channel_at : List LogicalChannel → ℕ → LogicalChannel
channel_at lines line = slice_index_or lines line off_channel

-- a line as it comes into service
abbrev pub risen : LogicalChannel → LogicalChannel
risen channel = record { state = kept.Ready; identifier = INITIAL_IDENTIFIER; connection = channel.connection + 1 }

-- a line as its call is refused
abbrev pub turned_down : LogicalChannel → ℕ → LogicalChannel
turned_down channel identifier = record channel { state = kept.Cleared; identifier = identifier }

-- the lines after a call began: both its lines have this key
abbrev pub lines_put : List LogicalChannel → ℕ → LiveCall → ℕ → List LogicalChannel
lines_put lines identifier call key =
    let both : CallKey = record { number = call.number; key = key } in
    slice_set
    (slice_set lines call.caller (record (channel_at lines call.caller) { state = kept.Waiting both; identifier = identifier }))
    call.called
    (record (channel_at lines call.called) { state = kept.Ringing both; identifier = INITIAL_IDENTIFIER })

-- the lines after a call ended: this line of it comes to this state, and its far line is cleared
abbrev pub lines_left : List LogicalChannel → ℕ → ℕ → ChannelState → List LogicalChannel
lines_left lines line far state =
    slice_set
    (slice_set lines far (record (channel_at lines far) { state = kept.Cleared }))
    line
    (record (channel_at lines line) { state = state })

-- the lines after a call was accepted
abbrev pub lines_connected : List LogicalChannel → LiveCall → ℕ → List LogicalChannel
lines_connected lines call key =
    let talking : ChannelState = kept.Talking (record { number = call.number; key = key }) in
    slice_set
    (slice_set lines call.called (record (channel_at lines call.called) { state = talking }))
    call.caller
    (record (channel_at lines call.caller) { state = talking })

-- the call under this key ended
pub record IsEnded (lines : List LogicalChannel) (calls : Slab LiveCall) (key line : ℕ) (state : ChannelState)
    (after : List LogicalChannel) (rest : Slab LiveCall) : Type 0 where
  pub call : LiveCall
  pub there : get calls key ≡ Some call
  pub left : after ≡ lines_left lines line (far_end (call_of_stored call) line) state
  pub updates : Updates calls rest key None
  pub fewer : slab_len rest ≤ slab_len calls
  pub capacity : rest.capacity ≡ calls.capacity

-- the call under this key was accepted
pub record IsAccepted (lines : List LogicalChannel) (calls : Slab LiveCall) (key : ℕ) (agreement : Agreement)
    (after : List LogicalChannel) (rest : Slab LiveCall) : Type 0 where
  pub call : LiveCall
  pub there : get calls key ≡ Some call
  pub connected : after ≡ lines_connected lines call key
  pub updates : Updates calls rest key (Some (record call { agreed = Some agreement }))

-- the call of this number is under this key, and this line is one of its two
abbrev pub IsKeptUnder : Slab LiveCall → ℕ → Option CallKey → Type 0
IsKeptUnder calls line None = Unit {0}
IsKeptUnder calls line (Some shown) =
    (call : LiveCall) × (get calls shown.key ≡ Some call) × (call.number ≡ shown.number) × ((line ≡ call.caller) ⊎ (line ≡ call.called))

pub record AreKeyed (lines : List LogicalChannel) (calls : Slab LiveCall) : Type 0 where
  -- each line that is in a call has the key of its call
  pub keys : (line : ℕ) → IsKeptUnder calls line (key_of (channel_at lines line).state)
  -- no two live calls have one number
  pub one_each : HasOneEach entry_of calls

-- how many places among the live calls a change needs
abbrev pub places_for : Option Change → ℕ
places_for (Some (changes.Begin caller identifier called dialled setup requested)) = 1
places_for change = 0
