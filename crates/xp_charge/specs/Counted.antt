-- The state of a call's meter.
use Rattle.std.specs.Prelude.{ℕ}

-- the segments in each direction, and the limit of each direction
pub record Counted : Type 0 where
  pub limit : ℕ
  pub from_caller : ℕ
  pub from_called : ℕ
