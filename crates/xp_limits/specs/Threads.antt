-- How many threads are asked for to serve the lines.
use Rattle.std.specs.Prelude.{◌≡◌, ℕ, ◌≤◌, List, Option, None, Some, codes}
use Rattle.std.specs.Str.Parse.{IsNumeral, digits_value, without_leading_plus}
use Rattle.xp_limits.specs.declared.threads.ServingThreads.{ServingThreads}
use Rattle.xp_limits.specs.declared.threads.ServingThreads.TheVariants.{Chosen, Lines, Count}

abbrev pub most_threads : ℕ
most_threads = 4096

-- a decimal number from 1 to the most, before which a plus may stand
pub record IsThreadCount (text : List ℕ) (count : ℕ) : Type 0 where
  pub numeral : IsNumeral 10 (without_leading_plus text)
  pub value : digits_value 10 (without_leading_plus text) ≡ count
  pub least : 1 ≤ count
  pub most : count ≤ most_threads

-- the threads that a text asks for: one for each line by its word, or so many; where it is absent, the exchange chooses
abbrev pub AreThreads : Option (List ℕ) → ServingThreads → Type 0
AreThreads None threads = threads ≡ Chosen
AreThreads (Some text) Chosen = ⊥
AreThreads (Some text) Lines = text ≡ codes "lines"
AreThreads (Some text) (Count count) = IsThreadCount text count
