-- Outputs that are being collected.
use Rattle.std.specs.Prelude.{ℕ, List}
use Rattle.xp_step.specs.declared.output.Output.{Output}

pub record Buffered (A : Type 0) : Type 0 where
  -- the outputs that were added so far, in order
  pub outputs : List (Output A)
  -- how many more there is room for
  pub room : ℕ
