-- How far a step is determined: the machine chooses nothing but which idle line of a hunt group a new call is put to. The
-- windows that are indicated are lowered to what that line's modulus allows.
use Rattle.std.specs.Prelude.{◌≡◌, ◌≢◌, ℕ, Option, Some, option_map, List}
use Rattle.xp_decide.specs.IncomingCalls.{default_window_sizes}
use Rattle.xp_packets.specs.declared.modulus.Modulus.{Modulus}
use Rattle.xp_subs.specs.Tables.{Tables, modulus_of}
use Rattle.xp_step.specs.declared.entry.Entry.{Entry}
use Rattle.xp_step.specs.declared.outcome.Outcome.{Outcome}
use Rattle.xp_step.specs.InForce.{in_force}
use Rattle.xp_step.specs.Outcomes.{taken_by, with_line, with_usual_windows}
use Rattle.xp_step.specs.Step.{Step}
use Rattle.xp_core.specs.OutputsPerLine.{to_line}
use Rattle.xp_machine.specs.World.{Call, World, call_numbered, line_at}

-- the modulus of the line that a new call was put to
abbrev pub modulus_taken : Tables → Outcome → Option Modulus
modulus_taken tables outcome = option_map (modulus_of tables) (taken_by outcome)

-- a line that a new call is put to by neither
abbrev pub IsTakenByNeither : Outcome → Outcome → ℕ → Type 0
IsTakenByNeither one other line = (taken_by one ≢ Some line) × (taken_by other ≢ Some line)

-- a call but for the line that it is put to, with windows of the usual size
abbrev pub without_line : Call → Call
without_line call = record call { called = 0; setup = record call.setup { indicated = record call.setup.indicated { window = default_window_sizes } } }

-- two states that are the same but for the two lines that are taken, and but for the new call, if it has this number
pub record IsSameBesides (number : ℕ) (one other : Outcome) (next next' : World) : Type 0 where
  pub lines : (line : ℕ) → IsTakenByNeither one other line → line_at next line ≡ line_at next' line
  pub calls : (old : ℕ) → old ≢ number → call_numbered next old ≡ call_numbered next' old
  -- the new call is the same, but for its line
  pub new : option_map without_line (call_numbered next number) ≡ option_map without_line (call_numbered next' number)
  pub number_after : next.next ≡ next'.next

-- two entries, and the states that they lead to, from this state, in which these tables are in force
pub record IsSameButLine {A : Type 0} (tables : Tables) (from : World) (one : Entry A) (next : World) (other : Entry A) (next' : World) : Type 0 where
  pub number : one.number ≡ other.number
  -- only the line is a choice, and with it the windows: a refusal is none, and what an answer settles is none
  pub outcome : with_line 0 (with_usual_windows one.outcome) ≡ with_line 0 (with_usual_windows other.outcome)
  -- only the line, if the lines that are taken number alike
  pub windows : modulus_taken tables one.outcome ≡ modulus_taken tables other.outcome → with_line 0 one.outcome ≡ with_line 0 other.outcome
  pub records : one.records.items ≡ other.records.items
  -- all lines but those that are taken are told the same, and the states are the same but for these
  pub told : (line : ℕ) → IsTakenByNeither one.outcome other.outcome line → to_line line one.outputs ≡ to_line line other.outputs
  pub besides : IsSameBesides from.next one.outcome other.outcome next next'
  -- neither is the caller's: so the caller is told the same, and is in the same state
  pub caller : IsTakenByNeither one.outcome other.outcome one.event.line
  -- if the same line is taken, the same is settled and put out
  pub whole : taken_by one.outcome ≡ taken_by other.outcome → one.outcome ≡ other.outcome
  pub outputs : taken_by one.outcome ≡ taken_by other.outcome → one.outputs ≡ other.outputs
  -- and both lead to the same state
  pub world : taken_by one.outcome ≡ taken_by other.outcome → next ≡ next'

-- two steps of the same event, from the same history and state, are the same but for the line
abbrev pub IsDeterminedButLine : Type 0 → Type 0
IsDeterminedButLine A =
    (tables : Tables) (history : List (Entry A)) (world : World) (one : Entry A) (next : World) (other : Entry A) (next' : World)
    → Step tables history world one next → Step tables history world other next' → one.event ≡ other.event
    → IsSameButLine (in_force tables history) world one next other next'
