-- A text of names, and a name that no line has.
use Rattle.std.specs.Prelude.{◌≡◌, ℕ, List, ◌∷◌, ◌++◌, Option, None, Some}
use Rattle.xp_subs.specs.Tables.{Tables, line_named_of}
use Rattle.xp_trace.specs.declared.names.NamesFault.{NamesFault}
use Rattle.xp_trace.specs.declared.names.NamesFault.TheVariants.{Memory, Unknown}
use Rattle.xp_trace.specs.Names.{HasNoComma, comma}

-- why there is no line of a name
abbrev pub IsNoLine : Tables → List ℕ → NamesFault → Type 0
IsNoLine tables name (Unknown text) = (text.bytes.items ≡ name) × (line_named_of tables name ≡ None)
IsNoLine tables name Memory = Unit {0}

-- the texts before and behind the first comma
abbrev pub IsParted : List ℕ → Option (List ℕ × List ℕ) → Type 0
IsParted text None = HasNoComma text
IsParted text (Some parts) = (text ≡ parts.0 ++ comma ∷ parts.1) × HasNoComma parts.0
