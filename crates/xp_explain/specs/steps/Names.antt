-- A name that no line has.
use Rattle.std.specs.Prelude.{◌≡◌, ℕ, List, None}
use Rattle.xp_explain.specs.declared.names.NamesFault.{NamesFault}
use Rattle.xp_explain.specs.declared.names.NamesFault.TheVariants.{Memory, Unknown}
use Rattle.xp_subs.specs.Tables.{Tables, line_named_of}

-- why there is no line of a name
abbrev pub IsNoLine : Tables → List ℕ → NamesFault → Type 0
IsNoLine tables name (Unknown told) = (told.now ≡ name) × (line_named_of tables name ≡ None)
IsNoLine tables name Memory = Unit {0}
