-- What each change of the machine does to the state.
use Rattle.std.specs.Prelude.{ℕ, ◌+◌, Option, None, Some, slice_set}
use Rattle.std.specs.FinMap as map
use Rattle.xp_machine.specs.declared.change.Change.{Change as KeptChange}
use Rattle.xp_machine.specs.declared.change.Change.TheVariants as kept
use Rattle.xp_machine.specs.declared.agreement.Agreement.{Agreement}
use Rattle.xp_machine.specs.Changes.{IsFree, NoCallState, state_after}
use Rattle.xp_machine.specs.Channel.{Ready, Waiting, Ringing, Talking, Cleared, INITIAL_IDENTIFIER}
use Rattle.xp_machine.specs.StoredState.{no_call_state_of}
use Rattle.xp_machine.specs.World.{Call, World, call_on, far_end, line_at, moved, moved_as}

-- the state after a line comes to a state of no call, and the call that it is in ends
abbrev pub left : ℕ → NoCallState → Option (ℕ × Call) → World → World
left line way None world = record world { lines = moved world line (state_after way) world.lines }
left line way (Some found) world = record world {
  lines = moved world line (state_after way) (moved world (far_end found.1 line) Cleared world.lines);
  calls = map.remove world.calls found.0;
}

-- the state after the call that a line is in is accepted
abbrev pub connected : Option (ℕ × Call) → Agreement → World → World
connected None agreement world = world
connected (Some found) agreement world = record world {
  lines = moved world found.1.caller (Talking found.0) (moved world found.1.called (Talking found.0) world.lines);
  calls = map.insert world.calls found.0 (record found.1 { agreed = Some agreement });
}

-- the state after a change
abbrev pub applied : KeptChange → World → World
applied (kept.Rise line) world = record world {
  lines = slice_set world.lines line (record { state = Ready; identifier = INITIAL_IDENTIFIER; connection = (line_at world line).connection + 1 });
}
applied (kept.Free line) world = record world { lines = moved world line Ready world.lines }
applied (kept.Leave line way) world = left line (no_call_state_of way) (call_on world line) world
applied (kept.Begin caller identifier called dialled setup requested) world = record {
  lines = moved_as world called INITIAL_IDENTIFIER (Ringing world.next) (moved_as world caller identifier (Waiting world.next) world.lines);
  calls = map.insert world.calls world.next (record { caller = caller; called = called; dialled = dialled; setup = setup; requested = requested; agreed = None });
  next = world.next + 1;
}
applied (kept.Refuse line identifier) world =
    record world { lines = moved_as world line identifier Cleared world.lines; next = world.next + 1 }
applied (kept.Connect line agreement) world = connected (call_on world line) agreement world

abbrev pub applied_if_any : Option KeptChange → World → World
applied_if_any None world = world
applied_if_any (Some change) world = applied change world

-- the state after the call that was put to the line is cancelled, if a line is given
abbrev pub freed_if_any : Option ℕ → World → World
freed_if_any None world = world
freed_if_any (Some line) world = left line IsFree (call_on world line) world
