-- No field of a call detail record has an octet that calls for quotes.
use Rattle.std.proofs.Common.{◌≡◌, ℕ, zero, suc, ◌+◌, ◌/◌, ◌%◌, ◌≤◌, ◌<◌, Bool, true, false, cond, nat_eq, nat_le, List, [], ◌∷◌, ◌++◌, Option, None, Some, IfSome, ap, append-nil, arith, decimal, get_or, inl, inr, option_map, refl, subst, sym, ◌∙◌, ◌||◌}
use Rattle.std.proofs.lemmas.Bool.{and_parts, cases_Bool, or_parts}
use Rattle.std.proofs.lemmas.Bool.Decides.{nat_tests}
use Rattle.std.specs.Fmt.{digit_glyph, digits, digits_onto}
use Rattle.std.specs.List.{join_with_byte, list_all, list_any}
use Rattle.csv.specs.Quoting.{needs_byte}
use Rattle.csv.specs.Writing.{default_writer, field_text, fields_text, is_blank, row_text}
use Rattle.hex.specs.Hex.{encode_lower, encode_with, lower_digits}
use Rattle.jiff_fmt.specs.Text.{pad2}
use Rattle.xp_packets.specs.Digits.{text_of}
use Rattle.xp_packets.specs.declared.end.End.{End}
use Rattle.xp_packets.specs.declared.end.End.TheVariants.{Caller, Called}
use Rattle.xp_file.specs.Name.{is_line_letter}
use Rattle.xp_subs.specs.Sound.{IsSound}
use Rattle.xp_subs.specs.Tables.{Tables, address_of, is_spare, line_at, line_count}
use Rattle.xp_subs.specs.declared.line.Line.{Line}
use Rattle.xp_charge.specs.declared.record.Record.{Record}
use Rattle.xp_charge.specs.Duration.{seconds_of}
use Rattle.xp_charge.specs.Lines.{HasLines}
use Rattle.xp_charge.specs.Text.{name_of, payer_text}
use Rattle.xp_cdr.specs.Details.{AreJoined, call_fields, called_fields, charge_fields, connected_text, detail_fields, detail_text, end_fields, ended_by_text, line_fields, moment_fields, origin_fields}
use Rattle.xp_cdr.specs.Ended.{ended_as, named_line}
use Rattle.xp_cdr.specs.Names.{IsExchangeName, is_exchange_letter}
use Rattle.xp_cdr.specs.declared.ended.EndedBy.{EndedBy}
use Rattle.xp_cdr.specs.declared.ended.EndedBy.TheVariants.{Call, Stop, Partial}
use Rattle.xp_cdr.specs.declared.ended.EndedCall.{EndedCall}
use Rattle.xp_cdr.specs.declared.run.ExchangeRun.{ExchangeRun}
use Rattle.xp_cdr.specs.Moments.{calendar_text, date_in_year, last_moment, moment_text, time_text, year_and_day, month_and_day}

-- no octet of the field calls for quotes
record IsPlain (field : List ℕ) : Type 0 where
  pub none : list_any (needs_byte default_writer) field ≡ false

abbrev ArePlain : List (List ℕ) → Type 0
ArePlain [] = Unit {0}
ArePlain (field ∷ fields) = IsPlain field × ArePlain fields

or_false : (a b : Bool) → a ≡ false → b ≡ false → (a || b) ≡ false
or_false a b first second = rw (first, second)

-- what calls for quotes comes before `-`
plain_octet : (octet : ℕ) → 45 ≤ octet → needs_byte default_writer octet ≡ false
plain_octet octet high = grind (arith, nat_tests)

plain_cons : (octet : ℕ) (field : List ℕ) → 45 ≤ octet → IsPlain field → IsPlain (octet ∷ field)
plain_cons octet field high plain = record { none = or_false _ _ (plain_octet octet high) plain.none }

plain_none : IsPlain []
plain_none = record { none = refl }

-- digits, with what follows them
plain_digits : (digits : List ℕ) → IsPlain (text_of digits)
plain_digits [] = plain_none
plain_digits (digit ∷ digits) = plain_cons (48 + digit) (text_of digits) (omega arith) (plain_digits digits)

glyph_high : (digit : ℕ) → 45 ≤ digit_glyph false digit
glyph_high digit = grind (arith, nat_tests)

if_plain : (test : Bool) (a b : List ℕ) → IsPlain a → IsPlain b → IsPlain (cond test a b)
if_plain true a b first second = first
if_plain false a b first second = second

plain_onto : (most number : ℕ) (rest : List ℕ) → IsPlain rest → IsPlain (digits_onto most 10 false number rest)
plain_onto zero number rest plain = plain
plain_onto (suc most) number rest plain =
    let here = plain_cons (digit_glyph false (number % 10)) rest (glyph_high (number % 10)) plain in
    if_plain (nat_eq (number / 10) 0) (digit_glyph false (number % 10) ∷ rest) (digits_onto most 10 false (number / 10) (digit_glyph false (number % 10) ∷ rest))
    here (plain_onto most (number / 10) (digit_glyph false (number % 10) ∷ rest) here)

plain_decimal : (number : ℕ) → IsPlain (decimal number)
unfolding digits
plain_decimal number = plain_onto 64 number [] plain_none

plain_pad2 : (number : ℕ) (rest : List ℕ) → IsPlain rest → IsPlain (pad2 number ++ rest)
plain_pad2 number rest plain =
    plain_cons (48 + number / 10) ((48 + number % 10) ∷ rest) (omega arith) (plain_cons (48 + number % 10) rest (omega arith) plain)

-- moments
plain_date : (dated : ℕ × ℕ) (rest : List ℕ) → IsPlain rest → IsPlain (date_in_year dated ++ rest)
plain_date dated rest plain =
    let there = month_and_day 12 dated.0 1 dated.1 in
    plain_pad2 (dated.0 / 100) _ (plain_pad2 (dated.0 % 100) _ (plain_cons 45 _ (omega arith) (plain_pad2 there.0 _ (plain_cons 45 _ (omega arith) (plain_pad2 there.1 rest plain)))))

plain_time : (seconds : ℕ) → IsPlain (time_text seconds ++ 90 ∷ [])
plain_time seconds =
    plain_pad2 (seconds / 3_600) _ (plain_cons 58 _ (omega arith) (plain_pad2 (seconds % 3_600 / 60) _ (plain_cons 58 _ (omega arith) (plain_pad2 (seconds % 60) (90 ∷ []) (plain_cons 90 [] (omega arith) plain_none)))))

plain_calendar : (seconds : ℕ) → IsPlain (calendar_text seconds)
unfolding calendar_text
plain_calendar seconds =
    plain_date (year_and_day 8_030 1_970 (seconds / 86_400)) (84 ∷ (time_text (seconds % 86_400) ++ 90 ∷ []))
    (plain_cons 84 (time_text (seconds % 86_400) ++ 90 ∷ []) (omega arith) (plain_time (seconds % 86_400)))

plain_moment : (seconds : ℕ) → IsPlain (moment_text seconds)
plain_moment seconds = if_plain (nat_le seconds last_moment) _ _ (plain_calendar seconds) (plain_decimal seconds)

plain_connected : (connected : Option ℕ) → IsPlain (connected_text connected)
plain_connected None = plain_none
plain_connected (Some moment) = plain_moment moment

-- hexadecimal digits
plain_at : (octets : List ℕ) (place : ℕ) → IsPlain octets → needs_byte default_writer (get_or octets place 0) ≡ false
plain_at [] place plain = refl
plain_at (octet ∷ octets) zero plain = (or_parts _ _ plain.none).0
plain_at (octet ∷ octets) (suc place) plain = plain_at octets place (record { none = (or_parts _ _ plain.none).1 })

plain_hex : (octet : ℕ) → IsPlain (encode_lower (octet ∷ []))
unfolding encode_with
plain_hex octet =
    let digits : IsPlain lower_digits = record { none = refl } in
    record { none = or_false _ _ (plain_at lower_digits (octet / 16) digits) (or_false _ _ (plain_at lower_digits (octet % 16) digits) refl) }

-- the names of lines
letter_high : (octet : ℕ) → is_line_letter octet ≡ true → 45 ≤ octet
letter_high octet is = grind (arith, nat_tests)

plain_letters : (name : List ℕ) → list_all is_line_letter name ≡ true → IsPlain name
plain_letters [] all = plain_none
plain_letters (octet ∷ name) all = plain_cons octet name (letter_high octet ((and_parts _ _ all).0)) (plain_letters name ((and_parts _ _ all).1))

-- a place without a line has none
plain_name : (tables : Tables) (line : ℕ) → IsSound tables → line < line_count tables → IsPlain (name_of tables line)
plain_name tables line sound there =
    elim (cases_Bool (is_spare (line_at tables line))) [
      | inl spare ↦ subst IsPlain (sym (ap (λ (l : Line). l.name) (sound.spare line spare))) plain_none
      | inr has_line ↦ plain_letters (name_of tables line) (and_parts _ _ (sound.spelled line (there, has_line))).1
    ]

plain_line : (tables : Tables) (line : ℕ) → IsSound tables → line < line_count tables → ArePlain (line_fields (named_line tables line))
plain_line tables line sound there = (plain_name tables line sound there, (plain_digits (address_of tables line), tt))

plain_called : (tables : Tables) (called : Option ℕ) → IsSound tables → IfSome called (λ line. line < line_count tables) → ArePlain (called_fields (option_map (named_line tables) called))
plain_called tables None sound there = (plain_none, (plain_none, tt))
plain_called tables (Some line) sound there = plain_line tables line sound there

plain_payer : (payer : End) → IsPlain (payer_text payer)
plain_payer Caller = record { none = refl }
plain_payer Called = record { none = refl }

plain_both : (fields more : List (List ℕ)) → ArePlain fields → ArePlain more → ArePlain (fields ++ more)
plain_both [] more first second = second
plain_both (field ∷ fields) more first second = (first.0, plain_both fields more first.1 second)

-- the names of exchanges
exchange_letter_high : (octet : ℕ) → is_exchange_letter octet ≡ true → 45 ≤ octet
exchange_letter_high octet is = grind (arith, nat_tests)

plain_exchange : (name : List ℕ) → IsExchangeName name → IsPlain name
plain_exchange [] all = plain_none
plain_exchange (octet ∷ name) all =
    plain_cons octet name (exchange_letter_high octet ((and_parts _ _ all).0)) (plain_exchange name ((and_parts _ _ all).1))

plain_end : (ended_by : EndedBy) → IsPlain (ended_by_text ended_by)
plain_end Call = record { none = refl }
plain_end Stop = record { none = refl }
plain_end Partial = record { none = refl }

plain_fields : (tables : Tables) (run : ExchangeRun) (by : EndedBy) (ended : Record) → IsSound tables → HasLines (line_count tables) ended → IsExchangeName run.exchange
    → ArePlain (detail_fields run (ended_as tables by ended))
plain_fields tables run by ended sound lines name =
    let call : EndedCall = ended_as tables by ended in
    let caller = plain_line tables ended.caller sound lines.caller in
    let called = plain_called tables ended.called sound lines.called in
    let which : ArePlain (call_fields run.started call) = (
      plain_moment run.started,
      (
        plain_decimal ended.number,
        plain_both (line_fields call.caller ++ called_fields call.called) (text_of ended.dialled ∷ [])
            (plain_both (line_fields call.caller) (called_fields call.called) caller called)
            (plain_digits ended.dialled, tt),
      ),
    ) in
    let charge : ArePlain (charge_fields ended) = (plain_payer ended.payer, (plain_decimal ended.from_caller, (plain_decimal ended.from_called, tt))) in
    let moments : ArePlain (moment_fields ended) =
    (plain_moment ended.requested, (plain_connected ended.connected, (plain_moment ended.ended, (plain_decimal (seconds_of ended), tt)))) in
    let end : ArePlain (end_fields ended) = (plain_hex ended.cause, (plain_decimal ended.diagnostic, tt)) in
    let origin : ArePlain (origin_fields run by) = (plain_exchange run.exchange name, (plain_end by, tt)) in
    plain_both (call_fields run.started call ++ charge_fields ended ++ moment_fields ended ++ end_fields ended) (origin_fields run by)
    (plain_both (call_fields run.started call ++ charge_fields ended ++ moment_fields ended) (end_fields ended)
    (plain_both (call_fields run.started call ++ charge_fields ended) (moment_fields ended)
    (plain_both (call_fields run.started call) (charge_fields ended) which charge) moments) end) origin

-- plain fields are written as they are, with commas between them
plain_field : (field : List ℕ) → IsPlain field → field_text default_writer field ≡ field
plain_field field plain = rw plain.none

fields_joined : (first : List ℕ) (fields : List (List ℕ)) → ArePlain fields → first ++ fields_text default_writer fields ≡ join_with_byte 44 (first ∷ fields)
unfolding fields_text
fields_joined first [] plain = append-nil first
fields_joined first (next ∷ rest) plain =
    ap (λ field. first ++ 44 ∷ (field ++ fields_text default_writer rest)) (plain_field next plain.0)
    ∙ ap (λ more. first ++ 44 ∷ more) (fields_joined next rest plain.1)

row_joined : (first next : List ℕ) (rest : List (List ℕ)) → ArePlain (first ∷ next ∷ rest) → row_text default_writer (first ∷ next ∷ rest) ≡ join_with_byte 44 (first ∷ next ∷ rest) ++ 10 ∷ []
unfolding is_blank
row_joined first next rest plain =
    ap (λ field. (field ++ fields_text default_writer (next ∷ rest)) ++ 10 ∷ []) (plain_field first plain.0)
    ∙ ap (λ body. body ++ 10 ∷ []) (fields_joined first (next ∷ rest) plain.1)

pub are_joined : AreJoined
unfolding detail_text
are_joined tables run by ended sound lines name = row_joined _ _ _ (plain_fields tables run by ended sound lines name)
