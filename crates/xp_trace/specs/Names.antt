-- Which lines are traced, by the names of lines.
use Rattle.std.specs.Prelude.{◌≡◌, ◌≢◌, ℕ, ◌<◌, ◌==◌, Bool, true, List, [], ◌∷◌, ◌++◌, length, slice_index, None, Some, flat_map}
use Rattle.std.specs.List.{AllByRecursion, list_any}
use Rattle.xp_subs.specs.Tables.{Tables, line_named_of}
use Rattle.xp_trace.specs.declared.names.NamesFault.{NamesFault}
use Rattle.xp_trace.specs.declared.names.NamesFault.TheVariants.{Memory, Unknown}
use Rattle.xp_trace.specs.declared.names.TracedLines.{TracedLines}
use Rattle.xp_trace.specs.declared.names.TracedLines.TheVariants.{All, Named}

abbrev pub comma : ℕ
comma = 44

abbrev pub HasNoComma : List ℕ → Type 0
HasNoComma name = (place : ℕ) → place < length name → slice_index name place ≢ comma

-- the names, with a comma behind each
abbrev pub with_commas : List (List ℕ) → List ℕ
with_commas names = flat_map (λ name. name ++ comma ∷ []) names

-- the names of a text, between which commas stand
pub record AreNames (text : List ℕ) (names : List (List ℕ)) : Type 0 where
  pub joined : text ++ comma ∷ [] ≡ with_commas names
  pub each : AllByRecursion HasNoComma names

-- these are the lines of the names, in order
abbrev pub AreLines : Tables → List (List ℕ) → List ℕ → Type 0
AreLines tables [] [] = Unit {0}
AreLines tables [] (line ∷ lines) = ⊥
AreLines tables (name ∷ names) [] = ⊥
AreLines tables (name ∷ names) (line ∷ lines) = (line_named_of tables name ≡ Some line) × AreLines tables names lines

-- the lines that the names of a text have are traced
abbrev pub AreLinesOf : Tables → List ℕ → TracedLines → Type 0
AreLinesOf tables text All = ⊥
AreLinesOf tables text (Named lines) = (names : List (List ℕ)) × AreNames text names × AreLines tables names lines.items

-- The first name of a text that no line has: those before it have these lines, and behind it a comma stands, or nothing.
pub record IsUnknown (tables : Tables) (text name : List ℕ) : Type 0 where
  pub before : List (List ℕ)
  pub lines : List ℕ
  pub rest : List ℕ
  pub joined : text ++ comma ∷ [] ≡ with_commas before ++ (name ++ comma ∷ rest)
  pub each : AllByRecursion HasNoComma before
  pub known : AreLines tables before lines
  pub one : HasNoComma name
  pub unknown : line_named_of tables name ≡ None

-- why the lines of a text are not known
abbrev pub IsFaultOf : Tables → List ℕ → NamesFault → Type 0
IsFaultOf tables text (Unknown name) = IsUnknown tables text name.bytes.items
IsFaultOf tables text Memory = Unit {0}

abbrev pub is_traced : TracedLines → ℕ → Bool
is_traced All line = true
is_traced (Named lines) line = list_any (λ traced. traced == line) lines.items
