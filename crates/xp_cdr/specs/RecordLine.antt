-- The line of the charging record of an ended call.
use Rattle.std.specs.Prelude.{◌≡◌, ℕ, codes, decimal, List, [], ◌∷◌, ◌++◌, Option, None, Some}
use Rattle.xp_charge.specs.Text.{charge_text, digits_text, field, record_text}
use Rattle.xp_charge.specs.declared.record.Record.{Record}
use Rattle.xp_subs.specs.Tables.{Tables}
use Rattle.xp_cdr.specs.Ended.{ended_as}
use Rattle.xp_cdr.specs.declared.ended.EndedBy.{EndedBy}
use Rattle.xp_cdr.specs.declared.ended.EndedCall.{EndedCall}
use Rattle.xp_cdr.specs.declared.ended.NamedLine.{NamedLine}

-- `-` if there is no called line
abbrev pub called_name : Option NamedLine → List ℕ
called_name None = codes "-"
called_name (Some line) = line.name

-- which call ended: its number, the names of its lines and the dialled digits
abbrev pub line_of_call : EndedCall → List ℕ
line_of_call call =
    field (decimal call.charging.number)
    ++ field call.caller.name
    ++ field (called_name call.called)
    ++ field (digits_text call.charging.dialled)

-- the charging record of an ended call, as one line
abbrev pub record_line : EndedCall → List ℕ
record_line call = codes "record" ++ line_of_call call ++ charge_text call.charging ++ 10 ∷ []

-- The line is the text that the charging record has by the subscriptions that name the lines of the call.
abbrev pub AreRecordTexts : Type 0
AreRecordTexts = (tables : Tables) (by : EndedBy) (ended : Record) → record_line (ended_as tables by ended) ≡ record_text tables ended
