-- What the places of lines are to have once other subscriptions are in force.
use Rattle.std.specs.Prelude.{◌≡◌, ◌<◌, ◌↔◌, ℕ, List, false, true, length, slice_index_or}
use Rattle.xp_listening.specs.Accesses.{IsServedAt}
use Rattle.xp_reload.specs.Frame.{KeepsLine}
use Rattle.xp_subs.specs.Tables.{Tables, line_at, line_count}
use Rattle.xp_tcp.specs.Accesses.{Spare}
use Rattle.xp_tcp.specs.NextPlaces.{NextPlace}

-- the result for a place that does not exist
abbrev pub no_place : NextPlace
no_place = record { is_kept = false; origin = Spare }

-- a place is kept exactly where it keeps its line, and is served as that line is subscribed
abbrev pub IsNextPlace : Tables → Tables → ℕ → NextPlace → Type 0
IsNextPlace force next line place =
    (place.is_kept ≡ true ↔ KeepsLine (line_at force line) (line_at next line)) × IsServedAt next (line_at next line) place.origin

-- the first so many places are
pub record AreFirstPlaces (force next : Tables) (count : ℕ) (places : List NextPlace) : Type 0 where
  pub count_is : length places ≡ count
  pub each : (line : ℕ) → line < count → IsNextPlace force next line (slice_index_or places line no_place)

-- all places are
abbrev pub AreNextPlaces : Tables → Tables → List NextPlace → Type 0
AreNextPlaces force next places = AreFirstPlaces force next (line_count next) places
