-- The changes of the state of the exchange, and what is recorded with each.
use Rattle.std.specs.Prelude.{ℕ, ◌+◌, None, Some, List, [], ◌∷◌, ◌++◌, slice_set}
use Rattle.std.specs.FinMap as map
use Rattle.xp_answer.specs.declared.setup.Setup.{Setup}
use Rattle.xp_causes.specs.declared.refusal.Refusal.{Refusal}
use Rattle.xp_charge.specs.declared.record.Record.{Record}
use Rattle.xp_packets.specs.declared.end.End.{End}
use Rattle.xp_machine.specs.declared.agreement.Agreement.{Agreement}
use Rattle.xp_machine.specs.Channel.{State, Off, Ready, Waiting, Ringing, Talking, Cleared, INITIAL_IDENTIFIER}
use Rattle.xp_machine.specs.Clearing.{record_of, refused_record}
use Rattle.xp_machine.specs.World.{Call, World, far_end, line_at, moved, moved_as}

-- what becomes of a line that comes to a state of no call
pub data NoCallState : Type 0 where
  -- it goes out of service
  GoesOut : NoCallState
  -- it is free for a call
  IsFree : NoCallState
  -- it has a clear indication to confirm
  IsCleared : NoCallState

abbrev pub state_after : NoCallState → State
state_after GoesOut = Off
state_after IsFree = Ready
state_after IsCleared = Cleared

pub data Change : Type 0 where
  -- a line comes into service
  Rises : (line : ℕ) → Change
  -- a line in no call comes to another state of no call
  Leaves : (line : ℕ) (way : NoCallState) → Change
  -- a call begins that was requested at a moment, and is put to the called line: the line that asked for it takes over
  -- the identifier of its request
  Begins : (line identifier called : ℕ) (dialled : List ℕ) (setup : Setup) (requested : ℕ) → Change
  -- a call request is refused: it gets the next number, and its line a clear indication
  IsRefused : (line identifier : ℕ) (dialled : List ℕ) (why : Refusal) → Change
  -- a call is accepted
  Connects : (number : ℕ) (call : Call) (agreement : Agreement) → Change
  -- a call ends at one of its lines: the other line is cleared, and is told this cause and diagnostic
  Ends : (number : ℕ) (call : Call) (line : ℕ) (way : NoCallState) (cause diagnostic : ℕ) → Change

abbrev pub changed : Change → World → World
changed (Rises line) world = record world {
  lines = slice_set world.lines line (record { state = Ready; identifier = INITIAL_IDENTIFIER; connection = (line_at world line).connection + 1 });
}
changed (Leaves line way) world = record world { lines = moved world line (state_after way) world.lines }
changed (Begins line identifier called dialled setup requested) world = record {
  lines = moved_as world called INITIAL_IDENTIFIER (Ringing world.next) (moved_as world line identifier (Waiting world.next) world.lines);
  calls = map.insert world.calls world.next (record { caller = line; called = called; dialled = dialled; setup = setup; requested = requested; agreed = None });
  next = world.next + 1;
}
changed (IsRefused line identifier dialled why) world =
    record world { lines = moved_as world line identifier Cleared world.lines; next = world.next + 1 }
changed (Connects number call agreement) world = record world {
  lines = moved world call.caller (Talking number) (moved world call.called (Talking number) world.lines);
  calls = map.insert world.calls number (record call { agreed = Some agreement });
}
changed (Ends number call line way cause diagnostic) world = record world {
  lines = moved world line (state_after way) (moved world (far_end call line) Cleared world.lines);
  calls = map.remove world.calls number;
}

-- the state after these changes, one after another
abbrev pub all_changed : List Change → World → World
all_changed [] world = world
all_changed (change ∷ changes) world = all_changed changes (changed change world)

-- what is recorded with a change at a moment, where each end of each call sent this many segments so far
abbrev pub recorded : (ℕ → Call → End → ℕ) → ℕ → World → Change → List Record
recorded counted moment world (IsRefused line identifier dialled why) = refused_record world.next moment line dialled why ∷ []
recorded counted moment world (Ends number call line way cause diagnostic) =
    record_of number call (counted number call) moment cause diagnostic ∷ []
recorded counted moment world change = []

abbrev pub recorded_by : (ℕ → Call → End → ℕ) → ℕ → World → List Change → List Record
recorded_by counted moment world [] = []
recorded_by counted moment world (change ∷ changes) =
    recorded counted moment world change ++ recorded_by counted moment (changed change world) changes
