-- Two lists whose elements belong together, place by place.
use Rattle.std.specs.Prelude.{List, [], ◌∷◌}

-- the lists are of one length, and this holds of each element of the first and the one at its place in the second
abbrev pub AreEach : {X Y : Type 0} → (X → Y → Type 0) → List X → List Y → Type 0
AreEach R [] [] = Unit {0}
AreEach R (x ∷ xs) (y ∷ ys) = R x y × AreEach R xs ys
AreEach R [] (y ∷ ys) = ⊥
AreEach R (x ∷ xs) [] = ⊥
