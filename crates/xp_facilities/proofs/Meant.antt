-- What a field asks is in the ranges of what a field can tell.
use Rattle.std.proofs.Common.{◌≡◌, ℕ, ◌≤◌, Bool, true, false, cond, leb, eqb-true, List, [], ◌∷◌, length, Option, Some, None, refl, sym, ap, ◌∙◌, subst}
use Rattle.std.specs.Prelude.{option_map}
use Rattle.std.specs.List.{AllByRecursion, list_any}
use Rattle.std.proofs.lemmas.Bool.{leb-true, or_from}
use Rattle.std.proofs.lemmas.Option.{none-some, option_and_then_some}
use Rattle.xp_facilities.specs.Items.{Item, IsItem, octets_of_all}
use Rattle.xp_facilities.specs.Requested.{Means, is_marker, opens, carried, dte_of, sizes_within, packet_of, window_of}
use Rattle.xp_facilities.specs.Limits.{largest_window}
use Rattle.xp_facilities.specs.Octets.{is_within}
use Rattle.xp_facilities.specs.Indicated.{IsCarried, sizes_fit}
use Rattle.xp_facilities.specs.declared.requested.RequestedFacilities.{RequestedFacilities}
use Rattle.xp_facilities.specs.declared.direction_sizes.DirectionSizes.{DirectionSizes}
use Rattle.xp_facilities.proofs.Asking.{carried-marker, carried-wrong, carried-outside, carried-inside}

-- items, none of them a marker
record AreUnmarked (kept : List Item) : Type 0 where
  each : AllByRecursion IsItem kept
  unmarked : list_any is_marker kept ≡ false

-- whatever is carried among these items is so
abbrev Keeps : List Item → Type 0
Keeps items = (inside : Bool) (kept : List Item) → carried inside items ≡ Some kept → AreUnmarked kept

unmarked-more : (item : Item) (more : Option (List Item)) (kept : List Item) → IsItem item → is_marker item ≡ false
    → ((others : List Item) → more ≡ Some others → AreUnmarked others)
    → option_map (λ others. item ∷ others) more ≡ Some kept → AreUnmarked kept
unmarked-more item None kept is other behind e = cc
unmarked-more item (Some others) kept is other behind e =
    let same : item ∷ others ≡ kept = cc in
    let rest = behind others refl in
    subst AreUnmarked same (record {
      each = (is, rest.each);
      unmarked = or_from _ _ other rest.unmarked;
    })

marker-keeps : (item : Item) (items : List Item) → is_marker item ≡ true → Keeps items → Keeps (item ∷ items)
marker-keeps item items is behind inside kept e = by_opens (opens item.parameters) refl where
  code : item.code ≡ 0
  code = eqb-true item.code 0 is

  by_opens : (opened : Option Bool) → opens item.parameters ≡ opened → AreUnmarked kept
  by_opens None o = absurd (none-some _ (sym (carried-wrong inside item items code o) ∙ e))
  by_opens (Some opened) o = behind opened kept (sym (carried-marker inside opened item items code o) ∙ e)

other-keeps : (item : Item) (items : List Item) → IsItem item → is_marker item ≡ false → Keeps items → Keeps (item ∷ items)
other-keeps item items is other behind true kept e =
    unmarked-more item (carried true items) kept is other (behind true) (sym (carried-inside item items other) ∙ e)
other-keeps item items is other behind false kept e = behind false kept (sym (carried-outside item items other) ∙ e)

none-keeps : Keeps []
unfolding carried
none-keeps inside kept e =
    let same : [] ≡ kept = cc in
    subst AreUnmarked same (record { each = tt; unmarked = refl })

carried-unmarked : (items : List Item) → AllByRecursion IsItem items → Keeps items
carried-unmarked [] each = none-keeps
carried-unmarked (item ∷ items) each = by_code (is_marker item) refl (carried-unmarked items each.1) where
  by_code : (marker : Bool) → is_marker item ≡ marker → Keeps items → Keeps (item ∷ items)
  by_code true is behind = marker-keeps item items is behind
  by_code false other behind = other-keeps item items each.0 other behind

-- facilities between DTEs that can be told
pub record IsTellable (dte : List ℕ) : Type 0 where
  pub carried : List Item
  pub is_carried : IsCarried dte carried
  pub few : length dte ≤ 80

dte-tellable : (items : List Item) (dte : List ℕ) → AllByRecursion IsItem items → dte_of items ≡ Some dte → IsTellable dte
unfolding dte_of
dte-tellable items dte each e = option_and_then_some _ (carried false items) dte e kept-tellable where
  by_length : (kept : List Item) → AreUnmarked kept → (fits : Bool) → leb (length (octets_of_all kept)) 80 ≡ fits
      → cond fits (Some (octets_of_all kept)) None ≡ Some dte → IsTellable dte
  by_length kept are true fits e =
      let same : octets_of_all kept ≡ dte = cc in
      subst IsTellable same (record {
        carried = kept;
        is_carried = record { whole = record { each = are.each; whole = refl }; unmarked = are.unmarked };
        few = leb-true (length (octets_of_all kept)) 80 fits;
      })
  by_length kept are false fits e = cc

  kept-tellable : (kept : List Item) → carried false items ≡ Some kept
      → cond (leb (length (octets_of_all kept)) 80) (Some (octets_of_all kept)) None ≡ Some dte → IsTellable dte
  kept-tellable kept is e = by_length kept (carried-unmarked items each false kept is) _ refl e

sizes-fit : (least most : ℕ) (found : Option (List ℕ)) (sizes : Option DirectionSizes) → sizes_within least most found ≡ Some sizes
    → sizes_fit least most sizes ≡ true
unfolding sizes_within sizes_fit
sizes-fit least most None sizes e = let same : None ≡ sizes = cc in ap (sizes_fit least most) (sym same)
sizes-fit least most (Some []) sizes e = cc
sizes-fit least most (Some (called ∷ [])) sizes e = cc
sizes-fit least most (Some (called ∷ calling ∷ [])) sizes e = by_test _ refl e where
  pair : DirectionSizes
  pair = record { from_called = called; from_calling = calling }

  by_test : (fits : Bool) → is_within least most pair ≡ fits → cond fits (Some (Some pair)) None ≡ Some sizes → sizes_fit least most sizes ≡ true
  by_test true fits e = let same : Some pair ≡ sizes = cc in ap (sizes_fit least most) (sym same) ∙ fits
  by_test false fits e = cc
sizes-fit least most (Some (called ∷ calling ∷ other ∷ others)) sizes e = cc

-- what is asked of sizes and of facilities between DTEs
pub record AsksInRange {A : Type 0} (asked : RequestedFacilities A) : Type 0 where
  pub packet : sizes_fit 4 12 asked.packet ≡ true
  pub window : sizes_fit 1 largest_window asked.window ≡ true
  pub dte : IsTellable asked.dte

pub asks_in_range : {A : Type 0} (field : List ℕ) (asked : RequestedFacilities A) → Means field asked → AsksInRange asked
unfolding packet_of window_of
asks_in_range field asked means = record {
  packet = sizes-fit 4 12 _ asked.packet means.packet;
  window = sizes-fit 1 largest_window _ asked.window means.window;
  dte = dte-tellable means.items asked.dte means.whole.each means.dte;
}
