-- What the places of lines are to have next.
use Rattle.std.specs.Prelude.{Bool}
use Rattle.xp_tcp.specs.Accesses.{Origin}

pub record NextPlace : Type 0 where
  -- whether the place keeps its line, with its port or its router
  pub is_kept : Bool
  -- where its connections come from
  pub origin : Origin
