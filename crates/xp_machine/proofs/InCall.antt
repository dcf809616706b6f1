-- What the coupling tells of a line in a call.
use Rattle.std.proofs.Common.{arith, ◌≡◌, ◌≢◌, ℕ, ◌⊎◌, Option, Some, None, ap, sym, ◌∙◌, inl, inr}
use Rattle.std.proofs.lemmas.Bool.{eq-eqb, ne_eqb, cond-true, cond-false}
use Rattle.xp_subs.specs.Tables.{Tables}
use Rattle.xp_machine.specs.Channel.{Ringing, call_of}
use Rattle.xp_machine.specs.Coupling.{AreCoupled, IsEnd, IsHeld}
use Rattle.xp_machine.specs.World.{Call, World, call_numbered, call_on, far_end, numbered, state_at}

numbered_none : (world : World) (number : ℕ) (call : Call) → call_numbered world number ≡ Some call → numbered world (Some number) ≡ None → ⊥
numbered_none world number call is none = let found : numbered world (Some number) ≡ Some (number, call) = ap (λ c. elim c [ None ↦ None | Some x ↦ Some (number, x) ]) is in absurd (cc)

numbered_some : (world : World) (number : ℕ) (found : ℕ × Call) (call : Option Call) → call_numbered world number ≡ call
    → numbered world (Some number) ≡ Some found → (number ≡ found.0) × (call_numbered world number ≡ Some found.1)
numbered_some world number found None is shows = grind arith
numbered_some world number found (Some call) is shows = grind arith

-- what is found on a line is the call that it shows
pub shown_on : (world : World) (line : ℕ) (found : ℕ × Call) → call_on world line ≡ Some found
    → (call_of (state_at world line) ≡ Some found.0) × (call_numbered world found.0 ≡ Some found.1)
shown_on world line found is = grind (arith, numbered_some)

module _ (tables : Tables) (world : World) (coupled : AreCoupled tables world) where
  -- a line on which no call is found is in none
  pub none_on : (line : ℕ) → call_on world line ≡ None → call_of (state_at world line) ≡ None
  none_on line is = grind (arith, numbered_none)

  -- a line that shows a live call is an end of it
  pub end_of : (line number : ℕ) (call : Call) → call_of (state_at world line) ≡ Some number → call_numbered world number ≡ Some call → IsEnd call line
  end_of line number call shows is = grind arith

-- a line shows one number
pub same_number : (world : World) (line at m n : ℕ) → line ≡ at → call_of (state_at world line) ≡ Some n → call_of (state_at world at) ≡ Some m → m ≡ n
same_number world line at m n is shows this = grind arith

-- a line in no call shows no number
pub shows_none : (world : World) (line at n : ℕ) → line ≡ at → call_of (state_at world line) ≡ Some n → call_of (state_at world at) ≡ None → ⊥
shows_none world line at n is shows none = grind arith

-- both ends of a call show it
module _ (tables : Tables) (world : World) (number : ℕ) (call : Call) (held : IsHeld tables world number call) where
  pub caller_shows : call_of (state_at world call.caller) ≡ Some number
  caller_shows = grind arith

  pub called_shows : call_of (state_at world call.called) ≡ Some number
  called_shows = grind arith

  -- a call goes on where the lines that show it stay as they were
  pub held_still : (next : World) → ((line : ℕ) → call_of (state_at world line) ≡ Some number → state_at next line ≡ state_at world line) → IsHeld tables next number call
  held_still next same = grind (arith, called_shows, caller_shows)

  -- a line that rings is the called line of its call
  pub rings_called : (line : ℕ) → state_at world line ≡ Ringing number → IsEnd call line → line ≡ call.called
  rings_called line rings end = grind arith

-- the ends of a call are each of them and its far end
pub pair : (call : Call) (line other : ℕ) → call.caller ≢ call.called → IsEnd call line → IsEnd call other → (other ≡ line) ⊎ (other ≡ far_end call line)
pair call line other two (inl caller) (inl is) = inl (is ∙ sym caller)
pair call line other two (inl caller) (inr is) = grind (arith, cond-true, eq-eqb)
pair call line other two (inr called) (inl is) = grind (arith, cond-false, ne_eqb)
pair call line other two (inr called) (inr is) = inl (is ∙ sym called)
