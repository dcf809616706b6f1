-- Lists of lines, of which one after the other is moved, begun or ended.
use Rattle.std.proofs.Common.{◌≡◌, List, [], ◌∷◌, ◌++◌, ℕ, Option, Result, refl, sym, ap, ◌∙◌, append_assoc, append-nil, map, subst}
use Rattle.std.proofs.lemmas.List.{map-append}
use Rattle.std.specs.declared.alloc.Global.{Global as Alloc}
use Rattle.std.specs.declared.thread.PromisedHandle.{PromisedHandle}
use Rattle.std.specs.declared.vec.Vec.{Vec}
use Rattle.xp_subs.specs.Tables.{Tables}
use Rattle.xp_lock.specs.Passes.{Pass}
use Rattle.xp_links.specs.Pairs.{AreEach}
use Rattle.xp_lines.specs.Sessions.{IsLineDown, IsLineServed}
use Rattle.xp_lines.specs.steps.Serving.{EndsSo}
use Rattle.xp_lines.specs.steps.Threads.{Adds, begun_lines, lines_of}
use Rattle.xp_lines.specs.declared.line.EndReason.TheVariants.{Stopped}
use Rattle.xp_lines.specs.declared.line.LineEnd.{LineEnd}
use Rattle.xp_lines.specs.declared.threads.OfLines.{OfLines}

module _ {X Y Z : Type 0} (f : X → Z) (g : Y → Z) where
  -- the first of those that are left is the last of those that were moved
  pub one_moved : (xs : List X) (x : X) (y : Y) (ys rest : List Y) (all : List Z) → f x ≡ g y → ys ≡ y ∷ rest → map f xs ++ map g ys ≡ all → map f (xs ++ x ∷ []) ++ map g rest ≡ all
  one_moved xs x y ys rest all same first was =
      ap (λ zs. zs ++ map g rest) (map-append f xs (x ∷ [])) ∙ append_assoc (map f xs) (f x ∷ []) (map g rest)
      ∙ ap (λ n. map f xs ++ n ∷ map g rest) same ∙ ap (λ zs. map f xs ++ map g zs) (sym first) ∙ was

  -- none is left
  pub all_moved : (xs : List X) (ys : List Y) (all : List Z) → ys ≡ [] → map f xs ++ map g ys ≡ all → map f xs ≡ all
  all_moved xs ys all none was = sym (append-nil (map f xs)) ∙ ap (λ zs. map f xs ++ map g zs) (sym none) ∙ was

-- none is left of those behind
pub none_behind : {X : Type 0} (xs ys all : List X) → ys ≡ [] → xs ++ ys ≡ all → xs ≡ all
none_behind xs ys all none was = sym (append-nil xs) ∙ ap (λ zs. xs ++ zs) (sym none) ∙ was

module _ {X Y : Type 0} (R : X → Y → Type 0) where
  -- one pair more
  pub each_more : (xs : List X) (ys : List Y) (x : X) (y : Y) → AreEach R xs ys → R x y → AreEach R (xs ++ x ∷ []) (ys ++ y ∷ [])
  each_more [] [] x y each one = (one, tt)
  each_more (first ∷ xs) (other ∷ ys) x y each one = (each.0, each_more xs ys x y each.1 one)
  each_more [] (other ∷ ys) x y each one = absurd each
  each_more (first ∷ xs) [] x y each one = absurd each

  module _ {Z : Type 0} (f : Z → X) where
    -- the elements at the front of these have their pairs, and the rest are left
    abbrev pub EachSoFar : List X → List Z → List Y → Type 0
    EachSoFar all rest ys = (done : List X) × (done ++ map f rest ≡ all) × AreEach R done ys

    pub so_far_none : (rest : List Z) (all : List X) (ys : List Y) → ys ≡ [] → map f rest ≡ all → EachSoFar all rest ys
    so_far_none rest all ys none is = ([], is, subst (AreEach R []) (sym none) tt)

    pub so_far_more : (all : List X) (zs rest : List Z) (z : Z) (ys : List Y) (y : Y) → EachSoFar all zs ys → zs ≡ z ∷ rest → R (f z) y → EachSoFar all rest (ys ++ y ∷ [])
    so_far_more all zs rest z ys y so_far first one = (
      so_far.0 ++ f z ∷ [],
      append_assoc so_far.0 (f z ∷ []) (map f rest) ∙ ap (λ zs. so_far.0 ++ map f zs) (sym first) ∙ so_far.1,
      each_more so_far.0 ys (f z) y so_far.2 one,
    )

    pub so_far_all : (all : List X) (zs : List Z) (ys : List Y) → EachSoFar all zs ys → zs ≡ [] → AreEach R all ys
    so_far_all all zs ys so_far none =
        subst (λ xs. AreEach R xs ys) (sym (append-nil so_far.0) ∙ ap (λ zs. so_far.0 ++ map f zs) (sym none) ∙ so_far.1) so_far.2

-- to what belongs together these were added, but for the rest of them
module _ {X Y : Type 0} (R : X → Y → Type 0) where
  abbrev pub AddsSoFar : List Y → List X → List X → List Y → Type 0
  AddsSoFar old all rest new = (done : List X) → AreEach R done old → (so : List X) × (so ++ rest ≡ all) × AreEach R (done ++ so) new

  pub adds_none : (old : List Y) (all rest : List X) → rest ≡ all → AddsSoFar old all rest old
  adds_none old all rest is done each = ([], is, subst (λ xs. AreEach R xs old) (sym (append-nil done)) each)

  pub adds_more : (old : List Y) (all xs rest : List X) (new : List Y) (x : X) (y : Y) → AddsSoFar old all xs new → xs ≡ x ∷ rest → R x y → AddsSoFar old all rest (new ++ y ∷ [])
  adds_more old all xs rest new x y so_far first one done each =
      let so = so_far done each in (
        so.0 ++ x ∷ [],
        append_assoc so.0 (x ∷ []) rest ∙ ap (λ zs. so.0 ++ zs) (sym first) ∙ so.1,
        subst (λ zs. AreEach R zs (new ++ y ∷ [])) (append_assoc done so.0 (x ∷ [])) (each_more R (done ++ so.0) new x y so.2 one),
      )

  pub adds_all : (old : List Y) (all rest : List X) (new : List Y) → AddsSoFar old all rest new → rest ≡ [] → Adds R old all new
  adds_all old all rest new so_far none done each =
      let so = so_far done each in
      subst (λ xs. AreEach R (done ++ xs) new) (sym (append-nil so.0) ∙ ap (λ xs. so.0 ++ xs) (sym none) ∙ so.1) so.2

module _ {N P C B L : Type 0} where
  -- the lines of one thread more
  pub begun_more : (begun : List (Result (PromisedHandle (Vec (Pass Alloc) Alloc) (OfLines N P C B L)) (Vec (Pass Alloc) Alloc))) (one : Result (PromisedHandle (Vec (Pass Alloc) Alloc) (OfLines N P C B L)) (Vec (Pass Alloc) Alloc))
      → begun_lines (begun ++ one ∷ []) ≡ begun_lines begun ++ lines_of one
  begun_more [] one = append-nil (lines_of one)
  begun_more (first ∷ more) one = ap (λ rest. lines_of first ++ rest) (begun_more more one) ∙ sym (append_assoc (lines_of first) (begun_lines more) (lines_of one))

module _ {N : Type 0} (subs : Tables) (of_link : Option (List ℕ) → Option (List ℕ) → Type 0) where
  pub each_served : (lines : List (Pass Alloc)) (ends : List (LineEnd N Alloc)) → AreEach (EndsSo subs of_link) lines ends
      → AreEach (IsLineServed subs of_link) lines (map (λ end. end.pass) ends)
  each_served [] [] each = tt
  each_served [] (end ∷ ends) each = absurd each
  each_served (line ∷ lines) [] each = absurd each
  each_served (line ∷ lines) (end ∷ ends) each = (each.0.0, each_served lines ends each.1)

  pub each_down : (lines : List (Pass Alloc)) (ends : List (LineEnd N Alloc)) → AreEach (EndsSo subs of_link) lines ends
      → AreEach (λ line end. end.why ≡ Stopped → IsLineDown subs of_link line end.pass) lines ends
  each_down [] [] each = tt
  each_down [] (end ∷ ends) each = absurd each
  each_down (line ∷ lines) [] each = absurd each
  each_down (line ∷ lines) (end ∷ ends) each = (each.0.1, each_down lines ends each.1)

module _ {A : Type 0} (subs : Tables) (of_link : Option (List ℕ) → Option (List ℕ) → Type 0) where
  -- the passes that come back are of the same lines
  pub same_lines : {X Y : Type 0} (f : X → Pass A) (g : Y → Pass A) (xs : List X) (ys : List Y) → AreEach (IsLineServed subs of_link) (map f xs) (map g ys)
      → map (λ y. (g y).line) ys ≡ map (λ x. (f x).line) xs
  same_lines f g [] [] each = refl
  same_lines f g [] (y ∷ ys) each = absurd each
  same_lines f g (x ∷ xs) [] each = absurd each
  same_lines f g (x ∷ xs) (y ∷ ys) each = ap (λ line. line ∷ map (λ y. (g y).line) ys) each.0.0 ∙ ap (λ lines. (f x).line ∷ lines) (same_lines f g xs ys each.1)
