-- Tables whose lines are moved to other places.
use Rattle.std.specs.Prelude.{◌≡◌, ℕ, ◌<◌, ◌≤◌, List, true, map, option_map}
use Rattle.xp_subs.specs.declared.line.Line.{Line}
use Rattle.xp_subs.specs.declared.target.Target.{Target}
use Rattle.xp_subs.specs.Bounds.{most_lines}
use Rattle.xp_subs.specs.Laid.{station_with}
use Rattle.xp_subs.specs.Tables.{Tables, IsThere, is_spare, line_at, line_count, modulus_of, spare_place}

-- the tables with these lines, each of which stands at its place
abbrev pub moved_tables : (ℕ → ℕ) → Tables → List Line → Tables
moved_tables place tables lines = record tables { stations = map (station_with place) tables.stations; lines = lines }

abbrev pub moved_target : (ℕ → ℕ) → Target → Target
moved_target place target = record { station = target.station; line = option_map place target.line }

-- Each line stands at its place, no two at one, and the other places have none.
pub record IsMoved (place : ℕ → ℕ) (next laid : Tables) : Type 0 where
  pub some : 0 < line_count laid
  pub few : line_count laid ≤ most_lines
  pub apart : (one other : ℕ) → IsThere next one → IsThere next other → place one ≡ place other → one ≡ other
  pub stands : (line : ℕ) → IsThere next line → (place line < line_count laid) × (line_at laid (place line) ≡ line_at next line)
  pub others : (at : ℕ) → IsThere laid at → (line : ℕ) × IsThere next line × (place line ≡ at)
  pub blank : (at : ℕ) → is_spare (line_at laid at) ≡ true → line_at laid at ≡ spare_place (modulus_of laid at)
