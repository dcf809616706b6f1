-- For private steps. Subscriptions that were read and laid over those in force.
use Rattle.std.specs.Prelude.{ℕ, List, Result, Ok}
use Rattle.std.specs.declared.io.ErrorKind.{ErrorKind}
use Rattle.xp_subs.specs.Laid.{IsLaidOver}
use Rattle.xp_subs.specs.Tables.{Tables}
use Rattle.xp_tasks.specs.SetUp.{SetsUp}

-- what the file gives, if it gives a text, sets up subscriptions, and these are laid over those in force
pub record IsLaidFrom (force : Tables) (text : Result (List ℕ) ErrorKind) (laid : Tables) : Type 0 where
  pub next : Tables
  pub set_up : SetsUp text (Ok next)
  pub over : IsLaidOver force next laid
