-- One more step of a loop over what a file has.
use Rattle.std.proofs.Common.{◌≡◌, ◌∙◌, ◌+◌, ◌<◌, ◌++◌, ℕ, zero, suc, List, [], ◌∷◌, Ok, add-one, ap, append_assoc, arith, drop, get_or, length, map, refl, replicate, sym, take}
use Rattle.std.proofs.lemmas.List.Sums.{sum_by_more}
use Rattle.xp_file.proofs.Lists.{rest_at}
use Rattle.xp_file.specs.Entries.{StationData}
use Rattle.xp_file.specs.declared.entry.LineEntry.{LineEntry}
use Rattle.xp_subs.specs.Passes.{line_total}
use Rattle.xp_subs.specs.steps.Passes.{Used, with_access, with_addresses, with_name, with_names, with_own, with_ports, with_station, with_stations}

-- what is made of one element after another
module _ {X Y : Type 0} (f : X → Y) (xs : List X) (i : ℕ) (x : X) (within : i < length xs) (here : x ≡ get_or xs i x) where
  pub one_made : (before all : List Y) (y : Y) → y ≡ f x → before ++ map f (drop i xs) ≡ all → (before ++ y ∷ []) ++ map f (drop (i + 1) xs) ≡ all
  one_made before all y is so_far =
      append_assoc before (y ∷ []) (map f (drop (i + 1) xs))
      ∙ ap (λ y. before ++ y ∷ map f (drop (i + 1) xs)) is
      ∙ sym (ap (λ rest. before ++ map f rest) (rest_at xs i x within here))
      ∙ so_far

last_copy : {X : Type 0} (count : ℕ) (x : X) → replicate (suc count) x ≡ replicate count x ++ x ∷ []
last_copy zero x = refl
last_copy (suc count) x = ap (λ more. x ∷ more) (last_copy count x)

-- one more of what is all the same
pub one_copy : {X : Type 0} (before made : List X) (count : ℕ) (x y : X) → y ≡ x → made ≡ before ++ replicate count x
    → made ++ y ∷ [] ≡ before ++ replicate (count + 1) x
one_copy before made count x y is so_far =
    ap (λ made. made ++ y ∷ []) so_far
    ∙ append_assoc before (replicate count x) (y ∷ [])
    ∙ ap (λ y. before ++ (replicate count x ++ y ∷ [])) is
    ∙ ap (λ copies. before ++ copies) (rw add-one (sym (last_copy count x)))

-- the values of one more line
module _ (lines : List LineEntry) (i : ℕ) (entry : LineEntry) (within : i < length lines) (here : entry ≡ get_or lines i entry) (before after : Used) where
  pub one_port : with_access entry.access before ≡ Ok after → with_ports (drop i lines) before ≡ with_ports (drop (i + 1) lines) after
  one_port entered = ap (λ rest. with_ports rest before) (rest_at lines i entry within here) ∙ rw entered refl

  pub one_name : (line : ℕ) → with_name line entry.name before ≡ Ok after → with_names line (drop i lines) before ≡ with_names (line + 1) (drop (i + 1) lines) after
  one_name line entered = ap (λ rest. with_names line rest before) (rest_at lines i entry within here) ∙ rw entered refl

  pub one_address : (station line : ℕ) → with_own station line entry.address before ≡ Ok after
      → with_addresses station line (drop i lines) before ≡ with_addresses station (line + 1) (drop (i + 1) lines) after
  one_address station line entered = ap (λ rest. with_addresses station line rest before) (rest_at lines i entry within here) ∙ rw entered refl

-- one more station, with so many lines
module _ (stations : List StationData) (i : ℕ) (station : StationData) (within : i < length stations) (here : station ≡ get_or stations i station) (count : ℕ) (count_is : count ≡ length station.lines) where
  pub lines_counted : (first : ℕ) → first ≡ line_total (take i stations) → first + count ≡ line_total (take (i + 1) stations)
  lines_counted first so_far =
      let more = sum_by_more (λ (station : StationData). length station.lines) stations i station within in
      let same = ap (λ (station : StationData). length station.lines) here in
      omega (arith, more, same, count_is, so_far)

  pub one_station : (number line : ℕ) (before after : Used) → with_station number line station before ≡ Ok after
      → with_stations number line (drop i stations) before ≡ with_stations (number + 1) (line + count) (drop (i + 1) stations) after
  one_station number line before after entered =
      ap (λ rest. with_stations number line rest before) (rest_at stations i station within here)
      ∙ rw entered (ap (λ n. with_stations (number + 1) (line + n) (drop (i + 1) stations) after) (sym count_is))
