-- The lines that a charging record names.
use Rattle.std.specs.Prelude.{ℕ, ◌<◌, IfSome}
use Rattle.xp_charge.specs.declared.record.Record.{Record}

-- the numbers of both lines are below `count`
pub record HasLines (count : ℕ) (ended : Record) : Type 0 where
  pub caller : ended.caller < count
  pub called : IfSome ended.called (λ line. line < count)
