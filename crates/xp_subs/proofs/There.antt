-- The lines that are there, and the places that have none.
use Rattle.std.proofs.Common.{◌≡◌, ℕ, ◌<◌, List, Bool, true, false, not, ◌&&◌, Some, inl, inr, refl, ap, arith}
use Rattle.std.proofs.lemmas.Bool.{cases_Bool}
use Rattle.std.proofs.lemmas.List.{get_or_past}
use Rattle.std.proofs.lemmas.List.Quantifiers.{position-Some}
use Rattle.xp_subs.specs.declared.line.Line.{Line}
use Rattle.xp_subs.specs.Sound.{IsSound, Lists}
use Rattle.xp_subs.specs.Tables.{Tables, IsThere, has_name, is_spare, line_at, line_count, line_named_of, no_line, no_station, no_station_number, station_at, station_count, station_of}

pub true_is_false : true ≡ false → ⊥
true_is_false e = cc

-- a line that has a station is there
pub there_of_station : (tables : Tables) (line : ℕ) → IsSound tables → line < line_count tables → station_of tables line < station_count tables → IsThere tables line
there_of_station tables line sound within below =
    elim (cases_Bool (is_spare (line_at tables line))) [
      | inl spare ↦
          let none : station_of tables line ≡ no_station_number = ap (λ (l : Line). l.station) (sound.spare line spare) in
          absurd (omega (arith, none, below, sound.few_stations))
      | inr there ↦ (within, there)
    ]

-- so is each line of a station's list
pub there_of_own : (tables : Tables) (station line : ℕ) → IsSound tables → station < station_count tables → Lists tables station line → IsThere tables line
there_of_own tables station line sound known own =
    let (within, is) = sound.own station line known own in
    there_of_station tables line sound within (omega (arith, is, known))

-- and each line that is found by its name
pub there_of_name : (tables : Tables) (name : List ℕ) (line : ℕ) → line_named_of tables name ≡ Some line → IsThere tables line
there_of_name tables name line found =
    let (within, passes, _) = position-Some (has_name name) tables.lines line no_line found in
    (within, not_spare (is_spare (line_at tables line)) _ passes)
  where
    not_spare : (spare named : Bool) → not spare && named ≡ true → spare ≡ false
    not_spare true named e = cc
    not_spare false named e = refl

-- no station has the number that stands in place of one
pub station_at-none : (tables : Tables) → IsSound tables → station_at tables no_station_number ≡ no_station
station_at-none tables sound = get_or_past tables.stations no_station_number no_station sound.few_stations
