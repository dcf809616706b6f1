-- The table of actions (X.25 Annex C, tables C-2 and C-3, and clause 4.1): a row for each state of the channel, a
-- column for each kind of event.
use Rattle.std.specs.Prelude.{ℕ}
use Rattle.xp_channel.specs.declared.action.Action.{Action}
use Rattle.xp_channel.specs.declared.action.Action.TheVariants.{Nothing, Rise, Fall, NewCall, Collision, Answer, Confirm, Free, Error, Relayed, Expired}
use Rattle.xp_channel.specs.declared.channel.Channel.{Channel}
use Rattle.xp_channel.specs.declared.channel.Channel.TheVariants.{Off, P1, P2, P3, P4, P7}
use Rattle.xp_channel.specs.declared.kind.EventKind.{EventKind}
use Rattle.xp_channel.specs.declared.kind.EventKind.TheVariants as kinds

-- The columns. The last one is for a frame that is not a packet; its action depends on the frame's diagnostic.
abbrev pub columns : Action → Action → Action → Action → Action → Action → Action → Action → (ℕ → Action) → EventKind → Action
columns at_up at_down at_call at_accepted at_clear at_confirmation at_data at_expire at_wrong kinds.Up = at_up
columns at_up at_down at_call at_accepted at_clear at_confirmation at_data at_expire at_wrong kinds.Down = at_down
columns at_up at_down at_call at_accepted at_clear at_confirmation at_data at_expire at_wrong kinds.Call = at_call
columns at_up at_down at_call at_accepted at_clear at_confirmation at_data at_expire at_wrong kinds.Accepted = at_accepted
columns at_up at_down at_call at_accepted at_clear at_confirmation at_data at_expire at_wrong kinds.Clear = at_clear
columns at_up at_down at_call at_accepted at_clear at_confirmation at_data at_expire at_wrong kinds.ClearConfirm = at_confirmation
columns at_up at_down at_call at_accepted at_clear at_confirmation at_data at_expire at_wrong kinds.Relayed = at_data
columns at_up at_down at_call at_accepted at_clear at_confirmation at_data at_expire at_wrong kinds.Expire = at_expire
columns at_up at_down at_call at_accepted at_clear at_confirmation at_data at_expire at_wrong (kinds.Malformed diagnostic) = at_wrong diagnostic

-- the action that ignores a frame, whatever its diagnostic
abbrev pub ignored : ℕ → Action
ignored diagnostic = Nothing

-- The rows. Each row gives the action when the connection comes up; when it goes down; for a call request; a call
-- accepted packet; a clear request; a clear confirmation; data, flow control, an interrupt or a reset; when the time
-- to answer an incoming call is over; and for a frame that is not a packet. The diagnostics 20 to 23 are packet type
-- invalid for state p1 to p4 (Annex E).
abbrev pub cell : Channel → EventKind → Action
cell Off = columns Rise Nothing Nothing Nothing Nothing Nothing Nothing Nothing ignored
cell P1 = columns Nothing Fall NewCall (Error 20) Confirm (Error 20) (Error 20) Nothing Error
cell P2 = columns Nothing Fall (Error 21) (Error 21) Confirm (Error 21) (Error 21) Nothing Error
cell P3 = columns Nothing Fall Collision Answer Confirm (Error 22) (Error 22) Expired Error
cell P4 = columns Nothing Fall (Error 23) (Error 23) Confirm (Error 23) Relayed Nothing Error
cell P7 = columns Nothing Fall Nothing Nothing Free Free Nothing Nothing ignored

-- The next state of a line, where the exchange does not clear it in turn: a call request leads to p2 (clause 4.1.2), in a
-- collision by way of p5 (clause 4.1.6), an answer to p4 (clause 4.1.4), and a clear request by way of p6 to p1 (clause
-- 4.1.7). After an error or an expired call the line has a clear indication to confirm (p7, clause 4.1.8).
abbrev pub state_after : Channel → Action → Channel
state_after state Nothing = state
state_after state Rise = P1
state_after state Fall = Off
state_after state NewCall = P2
state_after state Collision = P2
state_after state Answer = P4
state_after state Confirm = P1
state_after state Free = P1
state_after state (Error diagnostic) = P7
state_after state Relayed = state
state_after state Expired = P7
