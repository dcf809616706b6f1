-- The lines of a newly read file at the places that the exchange already has. The exchange keeps its places for its life: a line
-- that stays keeps its place, a line that goes leaves it, and a line that comes takes one that is free.
use Rattle.std.specs.Prelude.{◌≡◌, ◌≢◌, ℕ, ◌<◌, None, Some, map}
use Rattle.xp_subs.specs.declared.laid.LayFault.{LayFault}
use Rattle.xp_subs.specs.declared.laid.LayFault.TheVariants as faults
use Rattle.xp_subs.specs.declared.station.Station.{Station}
use Rattle.xp_subs.specs.Tables.{Tables, IsThere, line_at, line_count, line_named_of, modulus_of}

-- the station with its lines renamed
abbrev pub station_with : (ℕ → ℕ) → Station → Station
station_with place station = record station { lines = record { items = map place station.lines.items } }

-- a line that comes: its name is new
abbrev pub Comes : Tables → Tables → ℕ → Type 0
Comes old next line = IsThere next line × (line_named_of old (line_at next line).name ≡ None)

-- `laid` are the tables `next` with their lines at the places of `old`.
pub record IsLaidOver (old next laid : Tables) : Type 0 where
  -- where each line stands; no two lines stand at one place
  pub place : ℕ → ℕ
  pub apart : (one other : ℕ) → IsThere next one → IsThere next other → place one ≡ place other → one ≡ other
  -- the places are the old ones
  pub count : line_count laid ≡ line_count old
  pub moduli : (at : ℕ) → at < line_count old → modulus_of laid at ≡ modulus_of old at
  -- each line stands at its place, with all that its file says of it; no other lines are there
  pub stands : (line : ℕ) → IsThere next line → (place line < line_count old) × (line_at laid (place line) ≡ line_at next line)
  pub others : (at : ℕ) → IsThere laid at → (line : ℕ) × IsThere next line × (place line ≡ at)
  -- a line keeps its place while its name stays
  pub kept : (was line : ℕ) → IsThere next line → line_named_of old (line_at next line).name ≡ Some was → place line ≡ was
  -- A line that comes takes the first place that is left: the places of its modulus that come before it have lines, and the lines
  -- that come stand in the order of the file.
  pub first : (line at : ℕ) → Comes old next line → at < place line → modulus_of old at ≡ modulus_of next line → IsThere laid at
  pub in_order : (line later : ℕ) → Comes old next line → Comes old next later → modulus_of next line ≡ modulus_of next later
      → line < later → place line < place later
  -- everything else is as in the next file, with the lines renamed
  pub rest : laid ≡ record next { stations = map (station_with place) next.stations; lines = laid.lines }

-- The lines of this one's modulus are more than the places of that modulus: each such place is held by another line.
pub record HasNoPlace (old next : Tables) (line : ℕ) : Type 0 where
  pub holder : ℕ → ℕ
  pub holds : (at : ℕ) → at < line_count old → modulus_of old at ≡ modulus_of next line
      → IsThere next (holder at) × (modulus_of next (holder at) ≡ modulus_of next line) × (holder at ≢ line)
  pub apart : (one other : ℕ) → one < line_count old → other < line_count old
      → modulus_of old one ≡ modulus_of next line → modulus_of old other ≡ modulus_of next line → holder one ≡ holder other → one ≡ other

-- Why the lines of `next` have no places among those of `old`: a line that stays has another modulus than its place; or a line
-- that comes has no place. The fault names the line.
abbrev pub CannotBeLaid : Tables → Tables → LayFault → Type 0
CannotBeLaid old next (faults.Modulus name) =
    (was line : ℕ) × (line_named_of old name ≡ Some was) × (line_named_of next name ≡ Some line) × (modulus_of next line ≢ modulus_of old was)
CannotBeLaid old next (faults.Place name) =
    (line : ℕ) × (line_named_of next name ≡ Some line) × (line_named_of old name ≡ None) × HasNoPlace old next line
CannotBeLaid old next faults.Memory = ⊥
