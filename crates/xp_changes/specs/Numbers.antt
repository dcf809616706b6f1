-- A list of numbers that leaves none out.
use Rattle.std.specs.Prelude.{◌<◌, ℕ, List, All, Contains}
use Rattle.std.specs.List.{AllPairs}

-- the numbers below `count` of which this holds, in ascending order
pub record AreAllOf (holds : ℕ → Type 0) (count : ℕ) (numbers : List ℕ) : Type 0 where
  pub within : All (λ number. number < count) numbers
  pub hold : All holds numbers
  pub all : (number : ℕ) → number < count → holds number → Contains numbers number
  pub ascending : AllPairs (λ one other. one < other) numbers
