-- What the items of a list stand for, one after the other.
use Rattle.std.proofs.Common.{◌≡◌, ℕ, ◌+◌, ◌<◌, ◌≤◌, List, [], ◌∷◌, ◌++◌, length, get_or, take, flat_map, append_assoc, arith, sym, ap, ◌∙◌, refl}
use Rattle.std.proofs.lemmas.Grind.{common_steps, flat_map-append}
use Rattle.std.proofs.lemmas.List.{length-append, take-take, take_at}
use Rattle.std.proofs.Math.Seq.{take-length}
use Rattle.xp_charge.specs.steps.Text.{Keeps}

-- one item more
pub flat_map-more : {X : Type 0} (f : X → List ℕ) (xs : List X) (i : ℕ) (x : X) → i < length xs → x ≡ get_or xs i x
    → flat_map f (take (i + 1) xs) ≡ flat_map f (take i xs) ++ f x
flat_map-more f xs i x within is =
    let longer : take (i + 1) xs ≡ take i xs ++ x ∷ [] = grind (arith, common_steps) in
    rw (longer, flat_map-append f (take i xs) (x ∷ [])) (grind (arith, common_steps))

-- the text so far, with that of one item more
pub text-more : {X : Type 0} (f : X → List ℕ) (xs : List X) (i : ℕ) (x : X) (before so_far : List ℕ) → i < length xs → x ≡ get_or xs i x
    → so_far ≡ before ++ flat_map f (take i xs) → so_far ++ f x ≡ before ++ flat_map f (take (i + 1) xs)
text-more f xs i x before so_far within is invariant =
    rw (flat_map-more f xs i x within is, invariant) (append_assoc before (flat_map f (take i xs)) (f x))

-- the front stays where some was added to it, and what it was then stays
pub still_kept : (before more so_far after : List ℕ) → so_far ≡ before ++ more → Keeps so_far after → Keeps before after
still_kept before more so_far after is kept =
    let within : length before ≤ length so_far = omega (arith, length-append before more, ap length is) in
    sym (take-take (length before) (length so_far) after within)
    ∙ ap (take (length before)) (kept ∙ is)
    ∙ take_at before more (length before) refl

-- a text that is the same keeps its front
pub same_kept : (before after : List ℕ) → after ≡ before → Keeps before after
same_kept before after same = ap (take (length before)) same ∙ take-length before
