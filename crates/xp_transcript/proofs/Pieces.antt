-- A text in pieces, as `write!` puts them one after the other.
use Rattle.std.proofs.Common.{◌≡◌, ℕ, List, ◌++◌, append_assoc}

pub pieces3 : (a b c : List ℕ) → a ++ (b ++ c) ≡ a ++ b ++ c
pieces3 a b c = simp append_assoc

pub pieces6 : (a b c d e f : List ℕ) → a ++ (b ++ (c ++ (d ++ (e ++ f)))) ≡ a ++ b ++ c ++ d ++ e ++ f
pieces6 a b c d e f = simp append_assoc

pub pieces7 : (a b c d e f g : List ℕ) → a ++ (b ++ (c ++ (d ++ (e ++ (f ++ g))))) ≡ a ++ b ++ c ++ d ++ e ++ f ++ g
pieces7 a b c d e f g = simp append_assoc

pub pieces10 : (a b c d e f g h i j : List ℕ) → a ++ (b ++ (c ++ (d ++ (e ++ (f ++ (g ++ (h ++ (i ++ j)))))))) ≡ a ++ b ++ c ++ d ++ e ++ f ++ g ++ h ++ i ++ j
pieces10 a b c d e f g h i j = simp append_assoc
