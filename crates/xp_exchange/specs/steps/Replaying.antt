-- What the private functions of a replay promise one another about the octets that were read.
use Rattle.std.specs.Prelude.{◌≡◌, ℕ, ◌+◌, ◌<◌, List, [], ◌++◌, length, Option, Some, Result, Ok, Err}
use Rattle.std.specs.List.{AllByRecursion}
use Rattle.xp_step.specs.Exchange.{Exchange}
use Rattle.xp_script.specs.Command.{longest}
use Rattle.xp_exchange.specs.declared.fault.ReplayFault.{ReplayFault}
use Rattle.xp_exchange.specs.declared.fault.ReplayFault.TheVariants.{Script, Memory}
use Rattle.xp_exchange.specs.Play.{PlayState, PlaysAll}
use Rattle.xp_exchange.specs.steps.Playing.{Played}
use Rattle.xp_exchange.specs.WholeScript.{IsWritten, Stops, PlaysOut}
use Rattle.xp_exchange.specs.Splitting.{joined, HasNoFeed}

-- The state between two octets of a script: that after the last whole line, what was read of the next, and its number.
pub record Progress (A : Type 0) : Type 0 where
  pub state : PlayState A
  pub line : List ℕ
  pub number : ℕ

module _ {A : Type 0} where
  -- The octets end these lines, which were played, and begin another. The list has the latest first.
  pub record TakesIn (old : Progress A) (octets : List ℕ) (new : Progress A) (text : List ℕ) : Type 0 where
    pub lines : List (List ℕ)
    pub whole : old.line ++ octets ≡ joined lines ++ new.line
    pub each : AllByRecursion HasNoFeed lines
    pub played : PlaysAll old.state lines new.state
    pub number : new.number ≡ old.number + length lines
    pub told : IsWritten old.state.exchange new.state.exchange text

  -- At a fault it stops, whatever octets follow
  abbrev pub Took : Progress A → List ℕ → Result (Unit {0}) ReplayFault → Progress A → List ℕ → Type 0
  Took old octets (Ok done) new text = TakesIn old octets new text
  Took old octets (Err fault) new text =
      (more : List ℕ) (left : Option (List ℕ)) → Stops old.state old.number (old.line ++ (octets ++ more)) fault left new.state.exchange text

  -- a line is over and played: the next begins
  abbrev pub Ended : Progress A → Result (Unit {0}) ReplayFault → Progress A → List ℕ → Type 0
  Ended old (Ok done) new text =
      Played old.state old.number old.line (Ok done) new.state text × (new.line ≡ []) × (new.number ≡ old.number + 1)
  Ended old (Err fault) new text = Played old.state old.number old.line (Err fault) new.state text

  -- the last line is played
  abbrev pub Finished : Progress A → Result (Unit {0}) ReplayFault → Progress A → List ℕ → Type 0
  Finished old result new text = Played old.state old.number old.line result new.state text

  -- with these octets the line is too long, or there is no memory for them
  abbrev pub Overflows : Progress A → List ℕ → ReplayFault → Type 0
  Overflows old octets (Script found) = (found ≡ old.number) × (longest < length (old.line ++ octets))
  Overflows old octets Memory = Unit {0}
  Overflows old octets fault = ⊥

  -- what a replay from this state to the end of the octets returns, and what it leaves
  abbrev pub ReplaysFrom : Progress A → List ℕ → Result (Unit {0}) ReplayFault → Option (List ℕ) → Exchange A → List ℕ → Type 0
  ReplaysFrom old octets (Ok done) left after text = (left ≡ Some []) × PlaysOut old.state (old.line ++ octets) after text
  ReplaysFrom old octets (Err fault) left after text = Stops old.state old.number (old.line ++ octets) fault left after text
