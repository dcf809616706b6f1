-- The entries of a history in words, a line for each event, each packet put out and each record.
use Rattle.std.specs.Prelude.{ℕ, ◌==◌, codes, flat_map, if◌then◌else◌, List, [], ◌∷◌, ◌++◌, Option, None, Some}
use Rattle.std.specs.Fmt.{decimal}
use Rattle.xp_packets.specs.Diagnostics.{diagnostic_of}
use Rattle.xp_packets.specs.declared.end.End.{End}
use Rattle.xp_packets.specs.declared.end.End.TheVariants.{Caller, Called}
use Rattle.xp_charge.specs.Duration.{seconds_of}
use Rattle.xp_charge.specs.Text.{name_of}
use Rattle.xp_charge.specs.declared.record.Record.{Record}
use Rattle.xp_subs.specs.Tables.{Tables}
use Rattle.xp_step.specs.declared.entry.Entry.{Entry}
use Rattle.xp_step.specs.declared.event.Event.{Event}
use Rattle.xp_step.specs.declared.event.What.{What}
use Rattle.xp_step.specs.declared.event.What.TheVariants.{Up, Down, Frame, WrongFrame, Expire, Stall, Reload}
use Rattle.xp_step.specs.declared.output.Output.{Output}
use Rattle.xp_step.specs.declared.output.Put.{Put}
use Rattle.xp_step.specs.declared.output.Put.TheVariants.{Send, Close}
use Rattle.xp_words.specs.Causes.{cause_text, diagnostic_text}
use Rattle.xp_words.specs.Names.{clearing_causes}
use Rattle.xp_words.specs.Packets.{address_text, packet_text}
use Rattle.xp_words.specs.declared.direction.Direction.{Direction}
use Rattle.xp_words.specs.declared.direction.Direction.TheVariants.{FromDte, FromDce}

-- the character →
abbrev pub arrow : List ℕ
arrow = 0xe2 ∷ 0x86 ∷ 0x92 ∷ []

-- `12  a1 → exchange  `: the moment, and who sends to whom
abbrev pub heading_words : ℕ → List ℕ → Direction → List ℕ
heading_words moment name FromDte = decimal moment ++ codes "  " ++ name ++ codes " " ++ arrow ++ codes " exchange  "
heading_words moment name FromDce = decimal moment ++ codes "  exchange " ++ arrow ++ codes " " ++ name ++ codes "  "

abbrev pub channel_words : ℕ → List ℕ
channel_words identifier = codes "channel " ++ decimal identifier ++ codes ": "

-- `2 lines new`
abbrev pub counted_lines : ℕ → List ℕ → List ℕ
counted_lines count what = decimal count ++ (if count == 1 then codes " line " else codes " lines ") ++ what

-- `: 2 lines new, 1 line gone`, without a part that is 0
abbrev pub change_words : ℕ → ℕ → List ℕ
change_words new gone =
    if new == 0 then (if gone == 0 then [] else codes ": " ++ counted_lines gone (codes "gone"))
    else if gone == 0 then codes ": " ++ counted_lines new (codes "new")
    else codes ": " ++ counted_lines new (codes "new") ++ codes ", " ++ counted_lines gone (codes "gone")

-- `12  tables day are in force: 2 lines new, 1 line gone`: a reload is no line's
abbrev pub reload_words : ℕ → List ℕ → ℕ → ℕ → List ℕ
reload_words moment name new gone =
    decimal moment ++ codes "  tables " ++ name ++ codes " are in force" ++ change_words new gone ++ codes "\n"

module _ {A : Type 0} where
  -- what happened on a line
  abbrev pub what_words : What A → List ℕ
  what_words Up = codes "connection comes"
  what_words Down = codes "connection goes"
  what_words (Frame identifier packet) = channel_words identifier ++ packet_text FromDte packet
  what_words (WrongFrame wrong) = codes "frame without a packet, diagnostic " ++ diagnostic_text (diagnostic_of wrong)
  what_words Expire = codes "no answer in time (T11)"
  what_words Stall = codes "given up"
  what_words Reload = codes "other subscriptions are in force"

  -- what a line hands in
  abbrev pub line_words : Tables → Event A → List ℕ
  line_words tables event = heading_words event.moment (name_of tables event.line) FromDte ++ what_words event.what ++ codes "\n"

  -- what is put out to a line
  abbrev pub put_words : Put A → List ℕ
  put_words (Send identifier packet) = channel_words identifier ++ packet_text FromDce packet
  put_words Close = codes "connection closed"

  abbrev pub output_words : Tables → ℕ → Output A → List ℕ
  output_words tables moment output =
      heading_words moment (name_of tables output.line) FromDce ++ put_words output.outgoing.put ++ codes "\n"

-- the line that the call was offered to
abbrev pub called_words : Tables → Option ℕ → List ℕ
called_words tables None = codes "no line"
called_words tables (Some line) = name_of tables line

-- who pays
abbrev pub payer_words : End → List ℕ
payer_words Caller = codes "caller"
payer_words Called = codes "called line"

-- `call 1: a1 to b1, dialled 2080020`
abbrev pub call_words : ℕ → List ℕ → List ℕ → List ℕ → List ℕ
call_words number caller called dialled =
    codes "call " ++ decimal number ++ codes ": " ++ caller ++ codes " to " ++ called ++ address_text (codes ", dialled ") dialled

-- one segment, or a number of them
abbrev pub segment_noun : ℕ → List ℕ
segment_noun count = if count == 1 then codes "segment" else codes "segments"

-- `3 segments from the caller, 2 from the called line`
abbrev pub segment_words : ℕ → ℕ → List ℕ
segment_words from_caller from_called =
    decimal from_caller ++ codes " " ++ segment_noun from_caller ++ codes " from the caller, " ++ decimal from_called ++ codes " from the called line"

-- `the caller pays, 3 segments from the caller, 2 from the called line, connected for 60 s`
abbrev pub charge_words : Record → List ℕ
charge_words ended =
    codes "the " ++ payer_words ended.payer ++ codes " pays, " ++ segment_words ended.from_caller ended.from_called
    ++ codes ", connected for " ++ decimal (seconds_of ended) ++ codes " s"

-- the record of an ended call as a sentence, with the moment at which it ended
abbrev pub record_words : Tables → Record → List ℕ
record_words tables ended =
    decimal ended.ended ++ codes "  record of "
    ++ call_words ended.number (name_of tables ended.caller) (called_words tables ended.called) ended.dialled
    ++ codes ", " ++ charge_words ended
    ++ codes ", cause " ++ cause_text clearing_causes ended.cause ++ codes ", diagnostic " ++ diagnostic_text ended.diagnostic ++ codes "\n"

module _ {A : Type 0} where
  -- the event, then the packets that it puts out, then its records
  abbrev pub entry_words : Tables → Entry A → List ℕ
  entry_words tables entry =
      line_words tables entry.event
      ++ flat_map (output_words tables entry.event.moment) entry.outputs
      ++ flat_map (record_words tables) entry.records.items
