-- What the caller's station keeps from being asked.
use Rattle.std.proofs.Common.{◌≡◌, ℕ, List, Bool, true, false, Option, Err, refl, sym, ◌∙◌, ap, subst}
use Rattle.xp_facilities.specs.Requested.{Means}
use Rattle.xp_facilities.specs.declared.direction_sizes.DirectionSizes.{DirectionSizes}
use Rattle.xp_facilities.specs.declared.requested.RequestedFacilities.{RequestedFacilities}
use Rattle.xp_groups.specs.Intends.{Intends}
use Rattle.xp_causes.specs.declared.refusal.Refusal.{Refusal}
use Rattle.xp_causes.specs.declared.refusal.TheConstants.Refusal.{ACCESS_BARRED}
use Rattle.xp_packets.specs.declared.block.Block.{Block}
use Rattle.xp_packets.specs.declared.modulus.Modulus.{Modulus}
use Rattle.xp_subs.specs.Tables.{Tables, modulus_of, station_at, station_of}
use Rattle.xp_subs.specs.declared.station.Station.{Station}
use Rattle.xp_decide.specs.Asks.{station_of_line, windows_fit, HasRoom, MayNotAsk}
use Rattle.xp_decide.specs.Asks as asks

pub caller_is : (tables : Tables) (from number : ℕ) (station : Station)
    → number ≡ station_of tables from → station ≡ station_at tables number → station ≡ station_of_line tables from
caller_is tables from number station numbered same = same ∙ ap (station_at tables) numbered

-- what a copy of the field means, the field means
pub means_of : {A : Type 0} (block : Block A) (field : List ℕ) (asked : RequestedFacilities A) → field ≡ block.facilities → Means field asked → Means block.facilities asked
means_of block field asked same means = let P : List ℕ → Type 0 = λ f. Means f asked in subst P same means

-- whether the windows fit the caller's line
pub fits_as : (tables : Tables) (from : ℕ) (modulus : Modulus) (asked : Option DirectionSizes) (fit told : Bool)
    → modulus ≡ modulus_of tables from → fit ≡ windows_fit modulus asked → fit ≡ told → windows_fit (modulus_of tables from) asked ≡ told
fits_as tables from modulus asked fit told numbered is here = sym (ap (λ m. windows_fit m asked) numbered) ∙ sym is ∙ here

module _ {A : Type 0} (tables : Tables) (from : ℕ) (block : Block A) (asked : RequestedFacilities A) (station : Station)
    (same : station ≡ station_of_line tables from) (means : Means block.facilities asked)
    (fits : windows_fit (modulus_of tables from) asked.window ≡ true) (room : HasRoom block asked) where
  pub barred : station.facilities.outgoing_barred ≡ true → MayNotAsk tables from block ACCESS_BARRED
  barred is = asks.outgoing_barred asked means fits room (sym (ap (λ (s : Station). s.facilities.outgoing_barred) same) ∙ is) refl

  pub not_intended : (refusal : Refusal) → station.facilities.outgoing_barred ≡ false → Intends station asked.selection (Err refusal)
      → MayNotAsk tables from block refusal
  not_intended refusal is intends =
      let P : Station → Type 0 = λ s. Intends s asked.selection (Err refusal) in
      asks.not_intended asked means fits room (sym (ap (λ (s : Station). s.facilities.outgoing_barred) same) ∙ is) (subst P same intends)
