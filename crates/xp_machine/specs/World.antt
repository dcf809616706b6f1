-- The state of the exchange.
use Rattle.std.specs.Prelude.{ℕ, ◌==◌, if◌then◌else◌, Option, None, Some, List, option_map, replicate, slice_index_or, slice_set}
use Rattle.std.specs.FinMap as map
use Rattle.std.specs.Ordering.{nat_cmp}
use Rattle.xp_answer.specs.declared.setup.Setup.{Setup}
use Rattle.xp_machine.specs.declared.agreement.Agreement.{Agreement}
use Rattle.xp_hunt.specs.declared.lines.LineState.{LineState}
use Rattle.xp_machine.specs.Channel.{State, Off, call_of, line_state_of}

pub record Line : Type 0 where
  pub state : State
  -- the logical channel identifier that every packet to the line carries
  pub identifier : ℕ
  -- how often it came into service
  pub connection : ℕ

-- a virtual call, from its call request to its clearing
pub record Call : Type 0 where
  -- the line that asked for it
  pub caller : ℕ
  -- the line that it was put to
  pub called : ℕ
  -- the called address as the caller gave it
  pub dialled : List ℕ
  -- what the caller asked for, and what was indicated to the called line
  pub setup : Setup
  -- the moment of its call request, in seconds
  pub requested : ℕ
  -- what its answer settled: None until the call is accepted
  pub agreed : Option Agreement

pub record World : Type 0 where
  -- the lines, by their numbers
  pub lines : List Line
  -- the live calls, by their numbers
  pub calls : map.FinMap nat_cmp Call
  -- the number of the next call
  pub next : ℕ

-- a line that never was in service
abbrev pub off_line : Line
off_line = record { state = Off; identifier = 0; connection = 0 }

-- the state in which all lines are out of service and no call was ever made
abbrev pub opening : ℕ → World
opening count = record { lines = replicate count off_line; calls = map.empty; next = 1 }

abbrev pub line_at : World → ℕ → Line
line_at world line = slice_index_or world.lines line off_line

abbrev pub state_at : World → ℕ → State
state_at world line = (line_at world line).state

-- the live call of this number
abbrev pub call_numbered : World → ℕ → Option Call
call_numbered world number = map.get world.calls number

-- the live call of this number, with its number, if a number is given
abbrev pub numbered : World → Option ℕ → Option (ℕ × Call)
numbered world None = None
numbered world (Some number) = option_map (λ call. (number, call)) (call_numbered world number)

-- the call that a line is in, with its number
abbrev pub call_on : World → ℕ → Option (ℕ × Call)
call_on world line = numbered world (call_of (state_at world line))

-- the other line of a call
abbrev pub far_end : Call → ℕ → ℕ
far_end call line = if call.caller == line then call.called else call.caller

-- these lines, where one line comes to this state and this identifier, and its connection stays as in this world
abbrev pub moved_as : World → ℕ → ℕ → State → List Line → List Line
moved_as world line identifier state lines =
    slice_set lines line (record (line_at world line) { state = state; identifier = identifier })

-- where its identifier stays too
abbrev pub moved : World → ℕ → State → List Line → List Line
moved world line state lines = moved_as world line (line_at world line).identifier state lines

-- the states of the lines as a call request sees them
abbrev pub line_states : World → ℕ → LineState
line_states world line = line_state_of (state_at world line)
