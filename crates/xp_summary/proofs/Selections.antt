-- Facility fields that ask for a selection of a closed user group, and for nothing else.
use Rattle.std.proofs.Common.{◌≡◌, ℕ, ◌≤◌, List, [], ◌∷◌, option_map, refl, ap}
use Rattle.std.specs.declared.alloc.Global.{Global}
use Rattle.xp_facilities.proofs.OneReading.{Means-unique}
use Rattle.xp_facilities.proofs.ReadBack.{four-digits}
use Rattle.xp_facilities.specs.Indicated.{four_digits}
use Rattle.xp_facilities.specs.Requested.{Means, has_accepted_codes, last_of, chosen, selection_of, sizes_within, packet_of, window_of, octet_of, fast_of, first_bit, carried, dte_of}
use Rattle.xp_facilities.specs.declared.requested.RequestedFacilities.{RequestedFacilities}
use Rattle.xp_facilities.specs.declared.selection.Selection.TheVariants.{Nothing, Closed, WithOutsideAccess}
use Rattle.xp_summary.specs.Reach.{selecting}

pub nothing_means : Means [] (selecting Nothing)
unfolding has_accepted_codes last_of chosen selection_of sizes_within packet_of window_of octet_of fast_of first_bit carried dte_of
nothing_means = record {
  items = [];
  whole = record { each = tt; whole = refl };
  accepted = refl;
  selection = refl;
  fast = refl;
  reverse = refl;
  throughput = refl;
  charging = refl;
  packet = refl;
  window = refl;
  dte = refl;
}

-- so a request without facilities selects no group
pub nothing_selected : (asked : RequestedFacilities Global) → Means [] asked → asked.selection ≡ Nothing
nothing_selected asked means = ap (λ (a : RequestedFacilities Global). a.selection) (Means-unique [] asked (selecting Nothing) means nothing_means)

-- the item of an index of four digits
abbrev pub closed_field : ℕ → List ℕ
closed_field index = 0x47 ∷ four_digits index

abbrev pub open_field : ℕ → List ℕ
open_field index = 0x48 ∷ four_digits index

pub closed_means : (index : ℕ) → index ≤ 9_999 → Means (closed_field index) (selecting (Closed index))
unfolding four_digits has_accepted_codes last_of chosen selection_of sizes_within packet_of window_of octet_of fast_of first_bit carried dte_of
closed_means index few = record {
  items = record { code = 0x47; parameters = four_digits index } ∷ [];
  whole = record { each = (λ _. refl, tt); whole = refl };
  accepted = refl;
  selection = ap (option_map Closed) (four-digits index few);
  fast = refl;
  reverse = refl;
  throughput = refl;
  charging = refl;
  packet = refl;
  window = refl;
  dte = refl;
}

pub open_means : (index : ℕ) → index ≤ 9_999 → Means (open_field index) (selecting (WithOutsideAccess index))
unfolding four_digits has_accepted_codes last_of chosen selection_of sizes_within packet_of window_of octet_of fast_of first_bit carried dte_of
open_means index few = record {
  items = record { code = 0x48; parameters = four_digits index } ∷ [];
  whole = record { each = (λ _. refl, tt); whole = refl };
  accepted = refl;
  selection = ap (option_map WithOutsideAccess) (four-digits index few);
  fast = refl;
  reverse = refl;
  throughput = refl;
  charging = refl;
  packet = refl;
  window = refl;
  dte = refl;
}
