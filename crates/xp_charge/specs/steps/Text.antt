-- What a text keeps while a record is appended to it.
use Rattle.std.specs.Prelude.{◌≡◌, ℕ, List, length, take}

-- The text still begins with its previous content.
abbrev pub Keeps : List ℕ → List ℕ → Type 0
Keeps before after = take (length before) after ≡ before
