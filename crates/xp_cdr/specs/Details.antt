-- The text of call detail records: a line of CSV for each call that has ended.
use Rattle.std.specs.Prelude.{◌≡◌, ℕ, codes, decimal, List, [], ◌∷◌, ◌++◌, Option, None, Some}
use Rattle.std.specs.List.{join_with_byte}
use Rattle.csv.specs.Machine.{next_record}
use Rattle.csv.specs.Reading.{default_config}
use Rattle.csv.specs.Writing.{default_writer, row_text}
use Rattle.csv.specs.declared.parser.State.TheVariants.{StartRecord}
use Rattle.hex.specs.Hex.{encode_lower}
use Rattle.xp_packets.specs.Digits.{text_of}
use Rattle.xp_subs.specs.Sound.{IsSound}
use Rattle.xp_subs.specs.Tables.{Tables, line_count}
use Rattle.xp_charge.specs.declared.record.Record.{Record}
use Rattle.xp_charge.specs.Duration.{seconds_of}
use Rattle.xp_charge.specs.Lines.{HasLines}
use Rattle.xp_charge.specs.Text.{payer_text}
use Rattle.xp_cdr.specs.Ended.{ended_as}
use Rattle.xp_cdr.specs.Moments.{moment_text}
use Rattle.xp_cdr.specs.Names.{IsExchangeName}
use Rattle.xp_cdr.specs.declared.ended.EndedBy.{EndedBy}
use Rattle.xp_cdr.specs.declared.ended.EndedBy.TheVariants.{Call, Stop, Partial}
use Rattle.xp_cdr.specs.declared.ended.EndedCall.{EndedCall}
use Rattle.xp_cdr.specs.declared.ended.NamedLine.{NamedLine}
use Rattle.xp_cdr.specs.declared.run.ExchangeRun.{ExchangeRun}

-- the names of the fields, as the first line of a file
abbrev pub header_text : List ℕ
header_text =
    codes "started,number,caller_line,caller_address,called_line,called_address,dialled,payer,segments_from_caller,segments_from_called,requested,connected,ended,seconds,cause,diagnostic,exchange,ended_by\n"

-- the name and the address of a line
abbrev pub line_fields : NamedLine → List (List ℕ)
line_fields line = line.name ∷ text_of line.address ∷ []

-- both are empty if there is no line
abbrev pub called_fields : Option NamedLine → List (List ℕ)
called_fields None = [] ∷ [] ∷ []
called_fields (Some line) = line_fields line

-- empty if there is no moment
abbrev pub connected_text : Option ℕ → List ℕ
connected_text None = []
connected_text (Some moment) = moment_text moment

-- which call it was
abbrev pub call_fields : ℕ → EndedCall → List (List ℕ)
call_fields started call =
    moment_text started
    ∷ decimal call.charging.number
    ∷ line_fields call.caller
    ++ called_fields call.called
    ++ text_of call.charging.dialled
    ∷ []

-- who pays, and for how much
abbrev pub charge_fields : Record → List (List ℕ)
charge_fields ended = payer_text ended.payer ∷ decimal ended.from_caller ∷ decimal ended.from_called ∷ []

-- its moments, and for how many seconds it was connected
abbrev pub moment_fields : Record → List (List ℕ)
moment_fields ended =
    moment_text ended.requested
    ∷ connected_text ended.connected
    ∷ moment_text ended.ended
    ∷ decimal (seconds_of ended)
    ∷ []

-- how it ended
abbrev pub end_fields : Record → List (List ℕ)
end_fields ended = encode_lower (ended.cause ∷ []) ∷ decimal ended.diagnostic ∷ []

-- by what the call ended: it was cleared, serving stopped, or the run that had it came to an end without one
abbrev pub ended_by_text : EndedBy → List ℕ
ended_by_text Call = codes "call"
ended_by_text Stop = codes "stop"
ended_by_text Partial = codes "partial"

-- of which exchange it was, and by what it ended
abbrev pub origin_fields : ExchangeRun → EndedBy → List (List ℕ)
origin_fields run ended_by = run.exchange ∷ ended_by_text ended_by ∷ []

-- the eighteen fields of a call detail record
abbrev pub detail_fields : ExchangeRun → EndedCall → List (List ℕ)
detail_fields run call =
    call_fields run.started call
    ++ charge_fields call.charging
    ++ moment_fields call.charging
    ++ end_fields call.charging
    ++ origin_fields run call.ended_by

-- The call detail record of an ended call, of a run of an exchange: its fields as a line of CSV.
unfoldable pub detail_text : ExchangeRun → EndedCall → List ℕ
detail_text run call = row_text default_writer (detail_fields run call)

-- A reader of CSV reads the eighteen fields back, whatever follows the line.
abbrev pub AreReadBack : Type 0
AreReadBack =
    (run : ExchangeRun) (call : EndedCall) (rest : List ℕ)
    → next_record default_config StartRecord [] [] (detail_text run call ++ rest)
    ≡ Some (detail_fields run call, StartRecord, rest)

-- No field needs quotes: the line is the eighteen fields with commas between them, and then a line feed. Its lines are as subscriptions
-- name them.
abbrev pub AreJoined : Type 0
AreJoined =
    (tables : Tables) (run : ExchangeRun) (by : EndedBy) (ended : Record) → IsSound tables → HasLines (line_count tables) ended
    → IsExchangeName run.exchange
    → detail_text run (ended_as tables by ended) ≡ join_with_byte 44 (detail_fields run (ended_as tables by ended)) ++ 10 ∷ []
