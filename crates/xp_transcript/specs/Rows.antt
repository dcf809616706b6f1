-- The entries of a history as rows of a ladder diagram.
use Rattle.std.specs.Prelude.{ℕ, ◌-◌, ◌^◌, ◌==◌, ◌&&◌, Bool, true, false, codes, if◌then◌else◌, List, [], ◌∷◌, ◌++◌, Option, None, Some, option_map}
use Rattle.std.specs.Fmt.{decimal, format_spec, padded_integral}
use Rattle.xp_packets.specs.Diagnostics.{diagnostic_of}
use Rattle.xp_charge.specs.Text.{name_of}
use Rattle.xp_subs.specs.Tables.{Tables, line_count}
use Rattle.xp_step.specs.declared.entry.Entry.{Entry}
use Rattle.xp_step.specs.declared.event.What.{What}
use Rattle.xp_step.specs.declared.event.What.TheVariants.{Up, Down, Frame, WrongFrame, Expire, Stall, Reload}
use Rattle.xp_step.specs.declared.output.Output.{Output}
use Rattle.xp_step.specs.declared.output.Put.{Put}
use Rattle.xp_step.specs.declared.output.Put.TheVariants.{Send, Close}
use Rattle.xp_ladder.specs.Ladder.{heading_text, row_text}
use Rattle.xp_words.specs.Packets.{short_packet_text}
use Rattle.xp_words.specs.declared.direction.Direction.{Direction}
use Rattle.xp_words.specs.declared.direction.Direction.TheVariants.{FromDte, FromDce}
use Rattle.xp_transcript.specs.declared.ladder.Ladder.{Ladder}
use Rattle.xp_transcript.specs.declared.place.Pair.{Pair}
use Rattle.xp_transcript.specs.Places.{pair_of, place_of, placed_by, renewed_pair, renewed_places}
use Rattle.xp_transcript.specs.Words.{change_words}

-- the name of a line, if there is one
abbrev pub name_at : Tables → Option ℕ → List ℕ
name_at tables None = []
name_at tables (Some line) = name_of tables line

abbrev pub same_line : Option ℕ → Option ℕ → Bool
same_line None None = true
same_line None (Some other) = false
same_line (Some line) None = false
same_line (Some line) (Some other) = line == other

abbrev pub same_pair : Pair → Pair → Bool
same_pair one other = same_line one.left other.left && same_line one.right other.right

abbrev pub named_heading : Tables → Pair → List ℕ
named_heading tables pair = heading_text (name_at tables pair.left) (name_at tables pair.right) ++ codes "\n"

-- a heading, where the last one names other lines; an empty row parts it from the rows before
abbrev pub heading_rows : Tables → Option Pair → Pair → List ℕ
heading_rows tables None pair = named_heading tables pair
heading_rows tables (Some last) pair = if same_pair last pair then [] else codes "\n" ++ named_heading tables pair

module _ {A : Type 0} where
  -- what happened on a line, in few words; that a connection comes is not told, and a reload is no line's
  abbrev pub few_words : What A → Option (List ℕ)
  few_words Up = None
  few_words Down = Some (codes "connection goes")
  few_words (Frame identifier packet) = Some (short_packet_text FromDte packet)
  few_words (WrongFrame wrong) = Some (codes "no packet, diagnostic " ++ decimal (diagnostic_of wrong))
  few_words Expire = Some (codes "no answer in time")
  few_words Stall = Some (codes "given up")
  few_words Reload = None

  abbrev pub few_put_words : Put A → Option (List ℕ)
  few_put_words (Send identifier packet) = Some (short_packet_text FromDce packet)
  few_put_words Close = Some (codes "connection closed")

-- that the tables of this name are in force: a row of its own, with the moment in ten columns
abbrev pub reload_row : ℕ → List ℕ → ℕ → ℕ → List ℕ
reload_row moment name new gone =
    padded_integral (format_spec 32 3 0 10 (2 ^ 64 - 1)) false [] (decimal moment)
    ++ codes "  tables " ++ name ++ codes " are in force" ++ change_words new gone ++ codes "\n"

-- then no line stands where another one stood, and a heading counts as far as its lines stay
abbrev pub renewed_ladder : Tables → Tables → Ladder → Ladder
renewed_ladder old next ladder =
    record {
      places = renewed_places old next ladder.places (line_count old);
      headed = option_map (renewed_pair old next) ladder.headed;
    }

-- the row of a message, if it is told, below its heading
abbrev pub message_rows : Tables → ℕ → Ladder → ℕ → Direction → Option (List ℕ) → List ℕ
message_rows tables moment ladder line direction None = []
message_rows tables moment ladder line direction (Some words) =
    heading_rows tables ladder.headed (pair_of ladder.places line)
    ++ row_text moment (place_of ladder.places line).side direction words ++ codes "\n"

abbrev pub after_message : Ladder → ℕ → Option (List ℕ) → Ladder
after_message ladder line None = ladder
after_message ladder line (Some words) = record ladder { headed = Some (pair_of ladder.places line) }

module _ {A : Type 0} where
  -- the rows of what is put out, in turn
  abbrev pub output_rows : Tables → ℕ → Ladder → List (Output A) → List ℕ
  output_rows tables moment ladder [] = []
  output_rows tables moment ladder (output ∷ outputs) =
      message_rows tables moment ladder output.line FromDce (few_put_words output.outgoing.put)
      ++ output_rows tables moment (after_message ladder output.line (few_put_words output.outgoing.put)) outputs

  abbrev pub after_outputs : Ladder → List (Output A) → Ladder
  after_outputs ladder [] = ladder
  after_outputs ladder (output ∷ outputs) = after_outputs (after_message ladder output.line (few_put_words output.outgoing.put)) outputs

  -- the lines of an entry in their places
  abbrev pub in_places : Ladder → Entry A → Ladder
  in_places ladder entry = record ladder { places = placed_by ladder.places entry }

  -- the event, then the packets that it puts out
  abbrev pub entry_rows : Tables → Ladder → Entry A → List ℕ
  entry_rows tables ladder entry =
      message_rows tables entry.event.moment (in_places ladder entry) entry.event.line FromDte (few_words entry.event.what)
      ++ output_rows tables entry.event.moment (after_message (in_places ladder entry) entry.event.line (few_words entry.event.what)) entry.outputs

  abbrev pub after_entry : Ladder → Entry A → Ladder
  after_entry ladder entry =
      after_outputs (after_message (in_places ladder entry) entry.event.line (few_words entry.event.what)) entry.outputs
