-- The records of one entry.
use Rattle.std.specs.Prelude.{ℕ, List}
use Rattle.xp_charge.specs.declared.record.Record.{Record}

pub record Recorded : Type 0 where
  pub items : List Record
  -- how many more there is room for
  pub room : ℕ
