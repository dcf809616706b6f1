-- What a push into a link leaves of the octets that are to be written.
use Rattle.std.specs.Prelude.{◌≡◌, ℕ, List, ◌++◌, Option}
use Rattle.std.specs.Io.KnownBytes.{Appends}

-- The octets up to some point were pushed into the link, and those after it are left.
pub record Leaves (before after : Option (List ℕ)) (octets left : List ℕ) : Type 0 where
  pub pushed : List ℕ
  pub grows : Appends before after pushed
  pub whole : pushed ++ left ≡ octets
