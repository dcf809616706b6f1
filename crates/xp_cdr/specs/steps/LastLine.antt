-- For private steps. The last of several lines.
use Rattle.std.specs.Prelude.{◌≡◌, List, ◌∷◌, ◌++◌, ℕ}
use Rattle.std.specs.Io.{StopsAt}

-- Behind a line feed, the last of these lines begins with this text and a comma.
pub record LastBegins (lines text : List ℕ) : Type 0 where
  pub before : List ℕ
  pub rest : List ℕ
  pub lines_are : lines ≡ before ++ 10 ∷ (text ++ 44 ∷ rest)
  -- there is no line feed behind but as the last octet
  pub is_last : StopsAt (text ++ 44 ∷ rest) 10
