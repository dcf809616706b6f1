-- Lines by their names, as an operator writes them.
use Rattle.std.specs.Prelude.{◌≡◌, ◌==◌, ℕ, if◌then◌else◌, length, List, [], ◌∷◌, ◌++◌, map, None, Some}
use Rattle.std.specs.List.{slice_split}
use Rattle.std.specs.Str.{trim}
use Rattle.xp_explain.specs.declared.names.NamesFault.{NamesFault}
use Rattle.xp_explain.specs.declared.names.NamesFault.TheVariants.{Memory, Unknown}
use Rattle.xp_subs.specs.Tables.{Tables, line_named_of}

abbrev pub comma : ℕ
comma = 44

-- the names of a text: what stands between its commas, without the white space around it; none where it is white space alone
abbrev pub names_in : List ℕ → List (List ℕ)
names_in text = if length (trim text) == 0 then [] else map trim (slice_split (λ octet. octet == comma) text)

-- these are the lines of the names, in order
abbrev pub AreLines : Tables → List (List ℕ) → List ℕ → Type 0
AreLines tables names lines = map (line_named_of tables) names ≡ map Some lines

-- the first of the names that no line has
pub record IsUnknown (tables : Tables) (names : List (List ℕ)) (name : List ℕ) : Type 0 where
  pub before : List (List ℕ)
  pub behind : List (List ℕ)
  pub lines : List ℕ
  pub placed : names ≡ before ++ name ∷ behind
  pub known : AreLines tables before lines
  pub unknown : line_named_of tables name ≡ None

-- why the lines of the names are not known
abbrev pub IsFaultOf : Tables → List (List ℕ) → NamesFault → Type 0
IsFaultOf tables names (Unknown name) = IsUnknown tables names name.now
IsFaultOf tables names Memory = Unit {0}
