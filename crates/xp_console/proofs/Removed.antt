-- Lists of which one element is written or removed.
use Rattle.std.proofs.Common.{◌≡◌, ℕ, zero, suc, ◌≤◌, List, [], ◌∷◌, ◌++◌, All, length, map, remove, take, drop, slice_index_or, slice_set, refl, sym, subst, ap, ◌∙◌}
use Rattle.std.proofs.lemmas.List.{map-append, take-map, drop-map, take_at, length-take-le}
use Rattle.std.proofs.lemmas.List.Elements.{All-append, All-take, All-drop}

-- an element is written that f takes for the one before
pub map-set_same : {A B : Type 0} (f : A → B) (xs : List A) (i : ℕ) (y d : A) → f y ≡ f (slice_index_or xs i d) → map f (slice_set xs i y) ≡ map f xs
map-set_same f [] i y d e = refl
map-set_same f (x ∷ xs) zero y d e = ap (λ z. z ∷ map f xs) e
map-set_same f (x ∷ xs) (suc i) y d e = ap (λ t. f x ∷ t) (map-set_same f xs i y d e)

pub map-remove : {A B : Type 0} (f : A → B) (xs : List A) (i : ℕ) → map f (remove xs i) ≡ remove (map f xs) i
map-remove f xs i =
    map-append f (take i xs) (drop (suc i) xs)
    ∙ ap (λ t. t ++ map f (drop (suc i) xs)) (sym (take-map f i xs))
    ∙ ap (λ t. take i (map f xs) ++ t) (sym (drop-map f (suc i) xs))

pub All-remove : {A : Type 0} (P : A → Type 0) (xs : List A) (i : ℕ) → All P xs → All P (remove xs i)
All-remove P xs i h = All-append P (take i xs) (drop (suc i) xs) (All-take P i xs h) (All-drop P (suc i) xs h)

-- what stands before a removed element stays
pub All-take-remove : {A : Type 0} (P : A → Type 0) (xs : List A) (i : ℕ) → i ≤ length xs → All P (take i xs) → All P (take i (remove xs i))
All-take-remove P xs i h k = subst (All P) (sym (take_at (take i xs) (drop (suc i) xs) i (length-take-le i xs h))) k
