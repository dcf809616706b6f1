-- The text of a charging record.
use Rattle.std.specs.Prelude.{ℕ, codes, decimal, List, [], ◌∷◌, ◌++◌, Option, None, Some}
use Rattle.hex.specs.Hex.{encode_lower}
use Rattle.xp_packets.specs.Digits.{text_of as text_of_digits}
use Rattle.xp_packets.specs.declared.end.End.{End}
use Rattle.xp_packets.specs.declared.end.End.TheVariants.{Caller, Called}
use Rattle.xp_subs.specs.Tables.{Tables, line_at}
use Rattle.xp_charge.specs.declared.record.Record.{Record}
use Rattle.xp_charge.specs.Duration.{seconds_of}

-- a space, then the field
abbrev pub field : List ℕ → List ℕ
field text = 32 ∷ text

abbrev pub name_of : Tables → ℕ → List ℕ
name_of tables line = (line_at tables line).name

-- `-` if there is no called line
abbrev pub called_text : Tables → Option ℕ → List ℕ
called_text tables None = codes "-"
called_text tables (Some line) = name_of tables line

-- `-` if there are no digits
abbrev pub digits_text : List ℕ → List ℕ
digits_text [] = codes "-"
digits_text (digit ∷ digits) = text_of_digits (digit ∷ digits)

abbrev pub payer_text : End → List ℕ
payer_text Caller = codes "caller"
payer_text Called = codes "called"

-- which call ended: its number, its lines and the dialled digits
abbrev pub call_text : Tables → Record → List ℕ
call_text tables ended =
    field (decimal ended.number)
    ++ field (name_of tables ended.caller)
    ++ field (called_text tables ended.called)
    ++ field (digits_text ended.dialled)

-- who pays, for how much, how the call ended, and for how many seconds it was connected
abbrev pub charge_text : Record → List ℕ
charge_text ended =
    field (payer_text ended.payer)
    ++ field (decimal ended.from_caller)
    ++ field (decimal ended.from_called)
    ++ field (encode_lower (ended.cause ∷ []))
    ++ field (decimal ended.diagnostic)
    ++ field (decimal (seconds_of ended))

-- the charging record of an ended call, as one line
abbrev pub record_text : Tables → Record → List ℕ
record_text tables ended = codes "record" ++ call_text tables ended ++ charge_text ended ++ 10 ∷ []
