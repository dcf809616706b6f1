-- The packet and window sizes that an incoming call indicates (X.25 clauses 6.12, 7.2.2.1.1 and 7.2.2.1.2).
use Rattle.std.specs.Prelude.{◌≡◌, ℕ, ◌≤◌, Option, Some}
use Rattle.xp_facilities.specs.Limits.{largest_window}
use Rattle.xp_facilities.specs.declared.direction_sizes.DirectionSizes.{DirectionSizes}
use Rattle.xp_facilities.specs.declared.indicated.IndicatedFacilities.{IndicatedFacilities}
use Rattle.xp_packets.specs.declared.modulus.Modulus.{Modulus}
use Rattle.xp_packets.specs.declared.modulus.Modulus.TheVariants.{Eight, Long}
use Rattle.xp_subs.specs.Tables.{Tables, modulus_of}
use Rattle.xp_decide.specs.declared.verdict.IncomingCall.{IncomingCall}

-- the largest window of a line with this modulus
abbrev pub largest_window_on : Modulus → ℕ
largest_window_on Eight = 7
largest_window_on Long = largest_window

-- both sizes are present, each from the least to the most
pub record TellsWithin (least most : ℕ) (told : Option DirectionSizes) : Type 0 where
  pub sizes : DirectionSizes
  pub told_are : told ≡ Some sizes
  pub called_least : least ≤ sizes.from_called
  pub called_most : sizes.from_called ≤ most
  pub calling_least : least ≤ sizes.from_calling
  pub calling_most : sizes.from_calling ≤ most

-- packets of 16 to 1,024 octets, by powers of two, and windows of 1 to the largest of a line with this modulus
pub record IndicatesSizes {A : Type 0} (modulus : Modulus) (told : IndicatedFacilities A) : Type 0 where
  pub packet : TellsWithin 4 10 told.packet
  pub window : TellsWithin 1 (largest_window_on modulus) told.window

-- the sizes are such as the caller's line and the line that rings may both have
abbrev pub IndicatesSizesForBoth : {A : Type 0} → Tables → ℕ → IncomingCall A → Type 0
IndicatesSizesForBoth tables from ring =
    IndicatesSizes (modulus_of tables from) ring.told × IndicatesSizes (modulus_of tables ring.line) ring.told
