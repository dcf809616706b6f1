-- What serving is asked with.
use Rattle.std.specs.Prelude.{◌≡◌, ℕ, ◌≤◌, List, Option, None, Some}
use Rattle.std.specs.Str.Parse.{IsNumeral, digits_value, without_leading_plus}
use Rattle.xp_limits.specs.Threads.{AreThreads}
use Rattle.xp_limits.specs.declared.limits.Limits.{Limits}

abbrev pub greatest : ℕ
greatest = 1000000000000

-- a number that is never reached
abbrev pub no_limit : ℕ
no_limit = 18446744073709551615

-- a decimal number from 1 to the greatest, before which a plus may stand
pub record IsNumber (text : List ℕ) (number : ℕ) : Type 0 where
  pub numeral : IsNumeral 10 (without_leading_plus text)
  pub value : digits_value 10 (without_leading_plus text) ≡ number
  pub least : 1 ≤ number
  pub most : number ≤ greatest

-- the limit of a text, which may be absent
abbrev pub IsLimit : Option (List ℕ) → ℕ → Type 0
IsLimit None limit = limit ≡ no_limit
IsLimit (Some text) limit = IsNumber text limit

-- the limits of the texts of two numbers, and the threads of a third text; each may be absent
pub record AreLimits (records turns threads : Option (List ℕ)) (limits : Limits) : Type 0 where
  pub records_are : IsLimit records limits.records
  pub turns_are : IsLimit turns limits.turns
  pub threads_are : AreThreads threads limits.threads
