-- The two directions of a call, and what a packet of one of its ends does to them.
use Rattle.std.specs.Prelude.{if◌then◌else◌, Bool}
use Rattle.xp_packets.specs.declared.end.End.{End}
use Rattle.xp_packets.specs.declared.end.End.TheVariants.{Caller, Called}
use Rattle.xp_relay.specs.declared.state.FlowState.{FlowState}
use Rattle.xp_relay.specs.declared.state.FlowState.TheVariants.{Ready, ResetIndicated}
use Rattle.xp_relay.specs.declared.terms.Terms.{Terms}
use Rattle.xp_relay.specs.Direction.{Direction, opening}
use Rattle.xp_relay.specs.Terms.{terms_from}
use Rattle.xp_relay.specs.Turns.{Turn}

-- the flow control state of an end that owes a reset confirmation, or owes none
abbrev pub state_of : Bool → FlowState
state_of owes = if owes then ResetIndicated else Ready

-- a live call that carries data: what the caller sends, and what the called line sends
pub record Coupled (A : Type 0) : Type 0 where
  pub from_caller : Direction A
  pub from_called : Direction A

-- a call that was just set up on these terms
abbrev pub coupled : {A : Type 0} → Terms → Coupled A
coupled terms = record { from_caller = opening (terms_from Caller terms); from_called = opening (terms_from Called terms) }

module _ {A : Type 0} where
  -- the direction that an end sends
  abbrev pub sent_by : End → Coupled A → Direction A
  sent_by Caller call = call.from_caller
  sent_by Called call = call.from_called

  -- the direction that an end receives
  abbrev pub received_by : End → Coupled A → Direction A
  received_by Caller call = call.from_called
  received_by Called call = call.from_caller

  -- the flow control state of an end's channel
  abbrev pub state_at : End → Coupled A → FlowState
  state_at end call = state_of (received_by end call).owes

  -- the turn that a packet of this end leads to
  abbrev pub turn_at : End → (Direction A → Direction A → Turn A) → Coupled A → Turn A
  turn_at here turn call = turn (sent_by here call) (received_by here call)

  -- the call after such a turn
  abbrev pub after : End → Turn A → Coupled A
  after Caller turn = record { from_caller = turn.sent; from_called = turn.received }
  after Called turn = record { from_caller = turn.received; from_called = turn.sent }
