-- A station of a file that an exchange can hold, and the numbers of its lines.
use Rattle.std.proofs.Common.{◌≡◌, ℕ, zero, suc, ◌+◌, ◌<◌, ◌≤◌, List, [], ◌∷◌, ◌++◌, Bool, true, false, cond, Option, None, Some, All, Err, take, drop, length, get_or, refl, sym, ap, subst, ◌∙◌, arith, add-one}
use Rattle.std.specs.Prelude.{nat_lt}
use Rattle.std.proofs.lemmas.Bool.{ltb-false}
use Rattle.std.proofs.lemmas.List.Elements.{All-nil, All-cons, All-head, All-tail}
use Rattle.std.proofs.lemmas.List.Sums.{sum_by_more_le}
use Rattle.xp_file.specs.declared.fault.SubscriptionFault.{SubscriptionFault}
use Rattle.xp_file.specs.declared.key.Key.{Key}
use Rattle.xp_file.specs.declared.key.Key.TheVariants as keys
use Rattle.xp_file.specs.Entries.{StationData, IsStationEntry}
use Rattle.xp_file.specs.SubscriptionFile.{FileData}
use Rattle.xp_subs.specs.Bounds.{most_lines, most_stations}
use Rattle.xp_subs.specs.Built.{numbers}
use Rattle.xp_subs.specs.steps.WithinLimits.{AreWithinLimits, IsStationWithinLimits}
use Rattle.xp_subs.specs.Passes.{station_over, first_key, first_over, over_limit, spare_over, file_over, line_total}
use Rattle.xp_subs.specs.steps.Passes.{Used, with_station, with_stations}
use Rattle.xp_file.proofs.Choices.{none_is_some}
use Rattle.xp_file.proofs.Lists.{rest_at}

pub fit_at : (stations : List StationData) (i : ℕ) (s : StationData) → AreWithinLimits stations → i < length stations → s ≡ get_or stations i s → IsStationWithinLimits s
fit_at stations i s fit within here = subst IsStationWithinLimits (sym here) (fit.each i s within)

pub lines_at : (stations : List StationData) (i : ℕ) (s : StationData) → AreWithinLimits stations → i < length stations → s ≡ get_or stations i s
    → line_total (take i stations) + length s.lines ≤ most_lines
lines_at stations i s fit within here =
    let held = sum_by_more_le (λ (station : StationData). length station.lines) stations i s within in
    let P : StationData → Type 0 = λ station. line_total (take i stations) + length station.lines ≤ line_total stations in
    let all : line_total (take i stations) + length s.lines ≤ line_total stations = subst P (sym here) held in
    let most : line_total stations ≤ most_lines = fit.lines in
    omega arith

-- the rest of a list, from an index on
pub stations_refused : (stations : List StationData) (i : ℕ) (s : StationData) (number line : ℕ) (used : Used) (fault : SubscriptionFault)
    → i < length stations → s ≡ get_or stations i s → with_station number line s used ≡ Err fault
    → with_stations number line (drop i stations) used ≡ Err fault
stations_refused stations i s number line used fault within here refused =
    ap (λ l. with_stations number line l used) (rest_at stations i s within here) ∙ rw refused

-- one number more at the end
pub numbers_more : (first count : ℕ) → numbers first (count + 1) ≡ numbers first count ++ (first + count) ∷ []
numbers_more first count = rw add-one (by first count)
  where
    by : (first count : ℕ) → numbers first (suc count) ≡ numbers first count ++ (first + count) ∷ []
    by first zero = let same : first ≡ first + 0 = omega arith in ap (λ n. n ∷ []) same
    by first (suc count) =
        let next : first + 1 + count ≡ first + suc count = omega arith in
        ap (λ more. first ∷ more) (by (first + 1) count) ∙ ap (λ n. (first ∷ numbers (first + 1) count) ++ n ∷ []) next

chosen_none : {X : Type 0} (test : Bool) (x : X) (other : Option X) → cond test (Some x) other ≡ None → (test ≡ false) × (other ≡ None)
chosen_none true x other e = absurd (none_is_some (sym e))
chosen_none false x other e = (refl, e)

first_none : (a b : Option Key) → first_key a b ≡ None → (a ≡ None) × (b ≡ None)
first_none None b e = (refl, e)
first_none (Some key) b e = absurd (none_is_some (sym e))

fit_station : (station : StationData) → station_over station ≡ None → IsStationEntry station → IsStationWithinLimits station
fit_station station fits entry =
    let (few_lines, more) = chosen_none (nat_lt 32 (length station.lines)) keys.Line _ fits in
    let (few_groups, _) = chosen_none (nat_lt 64 (length station.groups)) keys.Group None more in
    record {
      lines = ltb-false 32 (length station.lines) few_lines;
      groups = ltb-false 64 (length station.groups) few_groups;
      entry = entry;
    }

all_fit : (stations : List StationData) → first_over stations ≡ None → All IsStationEntry stations → All IsStationWithinLimits stations
all_fit [] fits even = All-nil IsStationWithinLimits
all_fit (station ∷ stations) fits even =
    let (here, rest) = first_none (station_over station) (first_over stations) fits in
    All-cons IsStationWithinLimits station stations (fit_station station here (All-head IsStationEntry station stations even))
    (all_fit stations rest (All-tail IsStationEntry station stations even))

-- a file within the limits, each of whose stations is one of a file
pub fits : (stations : List StationData) → over_limit stations ≡ None → All IsStationEntry stations → AreWithinLimits stations
fits stations within even =
    let (few, more) = chosen_none (nat_lt most_stations (length stations)) keys.Station _ within in
    let (lines, rest) = chosen_none (nat_lt most_lines (line_total stations)) keys.Line (first_over stations) more in
    record {
      few = ltb-false most_stations (length stations) few;
      lines = ltb-false most_lines (line_total stations) lines;
      each = all_fit stations rest even;
    }

-- a file that is over no limit
pub file_fits : (file : FileData) (second : List StationData) (over : Option Key) → over ≡ file_over file → over ≡ None → second ≡ file.stations
    → All IsStationEntry file.stations → AreWithinLimits second
file_fits file second over is none two even =
    subst AreWithinLimits (sym two) (fits file.stations (first_none (over_limit file.stations) (spare_over file) (sym is ∙ none)).0 even)

pub places_fit : (file : FileData) → file_over file ≡ None → line_total file.stations + file.spare_lines + file.spare_lines_128 ≤ most_lines
places_fit file none =
    let (_, spare) = first_none (over_limit file.stations) (spare_over file) none in
    let (_, more) = chosen_none (nat_lt most_lines (line_total file.stations + file.spare_lines)) keys.SpareLines _ spare in
    let (fit, _) = chosen_none (nat_lt most_lines (line_total file.stations + file.spare_lines + file.spare_lines_128)) keys.SpareLines128 None more in
    ltb-false most_lines (line_total file.stations + file.spare_lines + file.spare_lines_128) fit

-- stations that are over no limit have few lines
pub lines_fit : (stations : List StationData) → over_limit stations ≡ None → line_total stations ≤ most_lines
lines_fit stations within =
    let (_, more) = chosen_none (nat_lt most_stations (length stations)) keys.Station _ within in
    let (lines, _) = chosen_none (nat_lt most_lines (line_total stations)) keys.Line (first_over stations) more in
    ltb-false most_lines (line_total stations) lines
