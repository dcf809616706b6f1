-- Where lines stand in a ladder diagram: who called at the left, who is called at the right.
use Rattle.std.specs.Prelude.{ℕ, zero, suc, List, [], ◌∷◌, Option, None, Some, if◌then◌else◌, slice_index_or, slice_set}
use Rattle.xp_subs.specs.Tables.{Tables}
use Rattle.xp_step.specs.declared.entry.Entry.{Entry}
use Rattle.xp_step.specs.declared.event.What.{What}
use Rattle.xp_step.specs.declared.event.What.TheVariants.{Frame}
use Rattle.xp_step.specs.declared.output.Output.{Output}
use Rattle.xp_step.specs.declared.output.Put.{Put}
use Rattle.xp_step.specs.declared.output.Put.TheVariants.{Send}
use Rattle.xp_ladder.specs.declared.side.Side.{Side}
use Rattle.xp_ladder.specs.declared.side.Side.TheVariants.{Left, Right}
use Rattle.xp_packets.specs.declared.packet.Packet.TheVariants.{Call}
use Rattle.xp_transcript.specs.declared.place.Pair.{Pair}
use Rattle.xp_transcript.specs.declared.place.Place.{Place}
use Rattle.xp_transcript.specs.Changed.{is_other}

-- at the left, with nobody at the right: before the first call of a line, and where it calls
abbrev pub alone : Place
alone = record { side = Left; other = None }

abbrev pub place_of : List Place → ℕ → Place
place_of places line = slice_index_or places line alone

-- the lines at both sides where a line stands so
abbrev pub pair_by : Side → Option ℕ → ℕ → Pair
pair_by Left other line = record { left = Some line; right = other }
pair_by Right other line = record { left = other; right = Some line }

abbrev pub pair_of : List Place → ℕ → Pair
pair_of places line = pair_by (place_of places line).side (place_of places line).other line

-- the line of a place that has no other line now
abbrev pub still : Tables → Tables → Option ℕ → Option ℕ
still old next None = None
still old next (Some line) = if is_other old next line then None else Some line

-- where a line stands once other tables are in force: a line that comes is alone, and nobody is opposite to one that is gone
abbrev pub renewed_place : Tables → Tables → ℕ → Place → Place
renewed_place old next line place =
    if is_other old next line then alone else record { side = place.side; other = still old next place.other }

-- the same of the first so many places
abbrev pub renewed_places : Tables → Tables → List Place → ℕ → List Place
renewed_places old next places zero = places
renewed_places old next places (suc line) =
    slice_set (renewed_places old next places line) line (renewed_place old next line (place_of (renewed_places old next places line) line))

abbrev pub renewed_pair : Tables → Tables → Pair → Pair
renewed_pair old next pair = record { left = still old next pair.left; right = still old next pair.right }

module _ {A : Type 0} where
  -- a line that calls stands at the left
  abbrev pub placed_by_what : List Place → ℕ → What A → List Place
  placed_by_what places line (Frame identifier (Call d block)) = slice_set places line alone
  placed_by_what places line what = places

  -- a line that is called stands at the right of its caller
  abbrev pub placed_by_put : List Place → ℕ → ℕ → Put A → List Place
  placed_by_put places caller line (Send identifier (Call d block)) =
      slice_set (slice_set places line (record { side = Right; other = Some caller })) caller (record { side = Left; other = Some line })
  placed_by_put places caller line put = places

  abbrev pub placed_by_outputs : List Place → ℕ → List (Output A) → List Place
  placed_by_outputs places caller [] = places
  placed_by_outputs places caller (output ∷ outputs) =
      placed_by_outputs (placed_by_put places caller output.line output.outgoing.put) caller outputs

  -- where the lines stand for the messages of an entry, and behind it
  unfoldable pub placed_by : List Place → Entry A → List Place
  placed_by places entry =
      placed_by_outputs (placed_by_what places entry.event.line entry.event.what) entry.event.line entry.outputs
