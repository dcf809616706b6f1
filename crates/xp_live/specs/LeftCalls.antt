-- Which lines of a live file of a run that died have no record (`left_behind`).
use Rattle.std.specs.Prelude.{ℕ, ◌==◌, ◌&&◌, Bool, not, nat_eq, Option, None, Some, if◌then◌else◌, List, [], ◌∷◌, ◌++◌, codes, drop, filter, flat_map, length}
use Rattle.std.specs.Io.BufRead.{drop_through, take_through}
use Rattle.std.specs.List.{ends_with, list_all, starts_with}
use Rattle.xp_cdr.specs.Details.{header_text}

-- an octet in front of lines, as the first of their first one
abbrev pub in_front : ℕ → List (List ℕ) → List (List ℕ)
in_front octet [] = (octet ∷ []) ∷ []
in_front octet (line ∷ lines) = (octet ∷ line) ∷ lines

-- the lines of a text, each with its line feed; the last one lacks it where the text does not end with one
abbrev pub lines_of : List ℕ → List (List ℕ)
lines_of [] = []
lines_of (octet ∷ octets) = if octet == 10 then (octet ∷ []) ∷ lines_of octets else in_front octet (lines_of octets)

-- of which call a line of CSV is: its first two fields, `started` and `number`, each with the comma behind it
abbrev pub call_name : List ℕ → List ℕ
call_name line = take_through 44 line ++ take_through 44 (drop_through 44 line)

-- how many commas a line has
abbrev pub commas : List ℕ → ℕ
commas line = length (filter (λ octet. octet == 44) line)

-- whether a line is a whole partial record: it has eighteen fields, and the last is `partial`
abbrev pub is_partial_line : List ℕ → Bool
is_partial_line line = ends_with nat_eq line (codes ",partial\n") && commas line == 17

-- the lines of a text, if all are such lines
abbrev pub partial_lines : List ℕ → Option (List (List ℕ))
partial_lines text = if list_all is_partial_line (lines_of text) then Some (lines_of text) else None

-- the lines of a live file behind the names of the fields; none where the text is no such file
abbrev pub live_lines : List ℕ → Option (List (List ℕ))
live_lines text = if starts_with nat_eq text header_text then partial_lines (drop (length header_text) text) else None

-- those of these lines that this record is not of the call of
abbrev pub without_record : List ℕ → List (List ℕ) → List (List ℕ)
without_record row lines = filter (λ line. not (starts_with nat_eq row (call_name line))) lines

-- those that none of these records is of the call of
abbrev pub without_records : List (List ℕ) → List (List ℕ) → List (List ℕ)
without_records [] lines = lines
without_records (row ∷ rows) lines = without_records rows (without_record row lines)

-- those whose calls have no record in a file of this text
abbrev pub left_behind : List ℕ → List (List ℕ) → List (List ℕ)
left_behind text lines = without_records (lines_of text) lines

-- lines, one after the other
abbrev pub joined : List (List ℕ) → List ℕ
joined lines = flat_map (λ line. line) lines
