-- Where the lines are served, one after the other.
use Rattle.std.proofs.Common.{◌≡◌, ℕ, suc, refl, ◌+◌, ◌<◌, List, [], ◌∷◌, ◌++◌, ap, length, slice_index_or, subst, sym, take}
use Rattle.std.proofs.lemmas.List.{take_more}
use Rattle.xp_links.specs.Pairs.{AreEach}
use Rattle.xp_listening.specs.Accesses.{IsServedAt}
use Rattle.xp_subs.specs.declared.line.Line.{Line}
use Rattle.xp_subs.specs.Tables.{Tables, no_line}
use Rattle.xp_tcp.specs.Accesses.{Origin}

each_more : {X Y : Type 0} (R : X → Y → Type 0) (xs : List X) (ys : List Y) (x : X) (y : Y) → AreEach R xs ys → R x y → AreEach R (xs ++ x ∷ []) (ys ++ y ∷ [])
each_more R [] [] x y are is = (is, tt)
each_more R [] (b ∷ ys) x y are is = absurd are
each_more R (a ∷ xs) [] x y are is = absurd are
each_more R (a ∷ xs) (b ∷ ys) x y are is = (are.0, each_more R xs ys x y are.1 is)

-- one more line is served
pub served_more : (tables : Tables) (lines : List Line) (i : ℕ) (origins : List Origin) (origin : Origin) → i < length lines
    → AreEach (IsServedAt tables) (take i lines) origins → IsServedAt tables (slice_index_or lines i no_line) origin
    → AreEach (IsServedAt tables) (take (i + 1) lines) (origins ++ origin ∷ [])
served_more tables lines i origins origin within are is =
    subst (λ xs. AreEach (IsServedAt tables) xs (origins ++ origin ∷ [])) (sym (take_more lines i no_line within))
    (each_more (IsServedAt tables) (take i lines) origins (slice_index_or lines i no_line) origin are is)

each_count : {X Y : Type 0} (R : X → Y → Type 0) (xs : List X) (ys : List Y) → AreEach R xs ys → length ys ≡ length xs
each_count R [] [] are = refl
each_count R [] (y ∷ ys) are = absurd are
each_count R (x ∷ xs) [] are = absurd are
each_count R (x ∷ xs) (y ∷ ys) are = ap suc (each_count R xs ys are.1)

-- as many lines are served as there are
pub served_count : (tables : Tables) (lines : List Line) (origins : List Origin) → AreEach (IsServedAt tables) lines origins → length origins ≡ length lines
served_count tables lines origins are = each_count (IsServedAt tables) lines origins are
