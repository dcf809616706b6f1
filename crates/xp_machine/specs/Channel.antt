-- The states of a logical channel (X.25 Annex B).
use Rattle.std.specs.Prelude.{ℕ, Option, Some, None, Bool, true, false}
use Rattle.xp_channel.specs.declared.channel.Channel.{Channel}
use Rattle.xp_channel.specs.declared.channel.Channel.TheVariants as channels
use Rattle.xp_hunt.specs.declared.lines.LineState.{LineState}
use Rattle.xp_hunt.specs.declared.lines.LineState.TheVariants as seen

-- a state tells the number of the call that the line is in
pub data State : Type 0 where
  -- out of service
  Off : State
  -- p1
  Ready : State
  -- p2, DTE waiting: the line asked for this call
  Waiting : ℕ → State
  -- p3, DCE waiting: this call was put to the line
  Ringing : ℕ → State
  -- p4, data transfer
  Talking : ℕ → State
  -- p7, DCE clear indication
  Cleared : State

-- the logical channel identifier of a line that comes into service, and of one that a call is put to
abbrev pub INITIAL_IDENTIFIER : ℕ
INITIAL_IDENTIFIER = 1

-- the number of the call that a line in this state is in
abbrev pub call_of : State → Option ℕ
call_of (Waiting number) = Some number
call_of (Ringing number) = Some number
call_of (Talking number) = Some number
call_of Off = None
call_of Ready = None
call_of Cleared = None

abbrev pub is_off : State → Bool
is_off Off = true
is_off Ready = false
is_off (Waiting number) = false
is_off (Ringing number) = false
is_off (Talking number) = false
is_off Cleared = false

-- the state as the table of actions names it
abbrev pub channel_of : State → Channel
channel_of Off = channels.Off
channel_of Ready = channels.P1
channel_of (Waiting number) = channels.P2
channel_of (Ringing number) = channels.P3
channel_of (Talking number) = channels.P4
channel_of Cleared = channels.P7

-- the state as a call request sees it: a call can be put only to a line in p1
abbrev pub line_state_of : State → LineState
line_state_of Off = seen.Off
line_state_of Ready = seen.Idle
line_state_of (Waiting number) = seen.Busy
line_state_of (Ringing number) = seen.Busy
line_state_of (Talking number) = seen.Busy
line_state_of Cleared = seen.Busy
