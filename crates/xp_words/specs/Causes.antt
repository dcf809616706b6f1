-- Causes and diagnostics in words.
use Rattle.std.specs.Prelude.{ℕ, codes, List, ◌++◌, Option, None, Some}
use Rattle.std.specs.Fmt.{decimal}
use Rattle.xp_words.specs.Names.{cause_name, diagnostics, name_in}
use Rattle.xp_words.specs.Octets.{hex_pair}

-- a code, and its name if it has one
abbrev pub with_name : List ℕ → Option (List ℕ) → List ℕ
with_name code None = code
with_name code (Some name) = code ++ codes " " ++ name

-- `09 out of order`
abbrev pub cause_text : List (ℕ × List ℕ) → ℕ → List ℕ
cause_text table cause = with_name (hex_pair cause) (cause_name table cause)

-- `39 packet too long`
abbrev pub diagnostic_text : ℕ → List ℕ
diagnostic_text diagnostic = with_name (decimal diagnostic) (name_in diagnostics diagnostic)
