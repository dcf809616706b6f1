-- The lines of a script.
use Rattle.std.specs.Prelude.{◌≡◌, ℕ, List, [], ◌∷◌, ◌++◌}
use Rattle.std.specs.List.{AllByRecursion}

abbrev pub line_feed : ℕ
line_feed = 10

abbrev pub HasNoFeed : List ℕ → Type 0
HasNoFeed octets = AllByRecursion (λ octet. octet ≡ line_feed → ⊥) octets

-- the octets of these lines, each with its line feed; the list has the latest line first
abbrev pub joined : List (List ℕ) → List ℕ
joined [] = []
joined (line ∷ earlier) = joined earlier ++ (line ++ line_feed ∷ [])

-- The octets are these lines, the latest first, and a last one that has no line feed.
pub record IsSplit (octets : List ℕ) (lines : List (List ℕ)) (last : List ℕ) : Type 0 where
  pub whole : octets ≡ joined lines ++ last
  pub each : AllByRecursion HasNoFeed lines
  pub no_feed : HasNoFeed last

-- the line is over: a line feed follows, or nothing
abbrev pub EndsLine : List ℕ → Type 0
EndsLine [] = Unit {0}
EndsLine (octet ∷ octets) = octet ≡ line_feed
