-- A law of all texts of subscription files.
use Rattle.std.specs.Prelude.{◌≡◌, ℕ, List, Result}
use Rattle.xp_file.specs.declared.fault.SubscriptionFault.{SubscriptionFault}
use Rattle.xp_subs.specs.Built.{SetsUp}
use Rattle.xp_subs.specs.Tables.{Tables}

-- A text has only one result: a set of tables, or a first fault. So it is refused exactly where that fault's
-- condition holds.
abbrev pub OneAnswer : Type 0
OneAnswer = (text : List ℕ) (one other : Result Tables SubscriptionFault) → SetsUp text one → SetsUp text other → one ≡ other
