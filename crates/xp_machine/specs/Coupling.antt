-- Which lines are in which live calls.
use Rattle.std.specs.Prelude.{◌≡◌, ◌≢◌, ℕ, ◌<◌, ◌⊎◌, None, Some, IsSome}
use Rattle.xp_subs.specs.Tables.{Tables, line_count}
use Rattle.xp_machine.specs.Channel.{Waiting, Ringing, Talking, call_of}
use Rattle.xp_machine.specs.World.{Call, World, call_numbered, state_at}

-- the call was put to the called line: the caller's line is DTE waiting (p2, clause 4.1.2), the called line DCE waiting
-- (p3, clause 4.1.3)
abbrev pub IsPut : World → ℕ → Call → Type 0
IsPut world number call =
    (state_at world call.caller ≡ Waiting number) × (state_at world call.called ≡ Ringing number) × (call.agreed ≡ None)

-- the call was accepted: both lines are in data transfer (p4, clauses 4.1.4 and 4.1.5), and something was agreed
abbrev pub IsAccepted : World → ℕ → Call → Type 0
IsAccepted world number call =
    (state_at world call.caller ≡ Talking number) × (state_at world call.called ≡ Talking number) × IsSome call.agreed

-- a call between two lines of the subscriptions, which are both in it
pub record IsHeld (tables : Tables) (world : World) (number : ℕ) (call : Call) : Type 0 where
  pub caller : call.caller < line_count tables
  pub called : call.called < line_count tables
  pub two : call.caller ≢ call.called
  pub stage : IsPut world number call ⊎ IsAccepted world number call

-- a line is one of the two lines of a call
abbrev pub IsEnd : Call → ℕ → Type 0
IsEnd call line = (line ≡ call.caller) ⊎ (line ≡ call.called)

pub record AreCoupled (tables : Tables) (world : World) : Type 0 where
  -- both lines of each live call are in it
  pub held : (number : ℕ) (call : Call) → call_numbered world number ≡ Some call → IsHeld tables world number call
  -- a line in p2, p3 or p4 is one of the two lines of the live call that it shows
  pub shown : (line number : ℕ) → call_of (state_at world line) ≡ Some number
      → (call : Call) × (call_numbered world number ≡ Some call) × IsEnd call line
