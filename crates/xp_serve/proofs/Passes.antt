-- The passes of all lines come back.
use Rattle.std.proofs.Common.{◌≡◌, ℕ, zero, suc, ◌+◌, ◌<◌, ◌==◌, ◌||◌, Bool, true, false, List, [], ◌∷◌, Option, Some, ap, arith, eq-eqb, length, map, option_map, refl, slice_get, subst, sym, true≢false, ◌∙◌}
use Rattle.std.proofs.lemmas.List.{length-map}
use Rattle.std.proofs.lemmas.Option.{slice_get-map}
use Rattle.std.specs.declared.alloc.Global.{Global as Alloc}
use Rattle.xp_lock.specs.Closing.{IsMissing, has_line}
use Rattle.xp_lock.specs.Opening.{AreFirst, first_pass}
use Rattle.xp_lock.specs.Passes.{Pass}
use Rattle.xp_subs.specs.Tables.{Tables, line_count}
use Rattle.std.specs.List.{AllByRecursion}
use Rattle.xp_links.specs.Pairs.{AreEach}
use Rattle.xp_lines.specs.Sessions.{IsAnyLink, IsLineDown, IsLineServed}
use Rattle.xp_lines.specs.declared.line.EndReason.{EndReason}
use Rattle.xp_lines.specs.declared.line.EndReason.TheVariants.{Stopped}
use Rattle.xp_lines.specs.declared.line.LineEnd.{LineEnd}
use Rattle.xp_lines.proofs.Sessions.{down_less, served_less}
use Rattle.xp_serve.specs.Served.{AreInOrder, IsBrought}
use Rattle.xp_serve.specs.steps.Serving.{WereServed, WereStopped}

abbrev is_among : ℕ → List ℕ → Bool
is_among line [] = false
is_among line (other ∷ others) = (other == line) || is_among line others

or_true : (b : Bool) → (b || true) ≡ true
or_true true = refl
or_true false = refl

module _ {A : Type 0} where
  is_among_lines : (line : ℕ) (passes : List (Pass A)) → has_line line passes ≡ is_among line (map (λ pass. pass.line) passes)
  is_among_lines line [] = refl
  is_among_lines line (pass ∷ passes) = ap (λ b. (pass.line == line) || b) (is_among_lines line passes)

  some_line : (pass other : Pass A) → Some pass ≡ Some other → pass.line ≡ other.line
  some_line pass other same = cc

  pub some_same : (pass other : Pass A) → Some pass ≡ Some other → pass ≡ other
  some_same pass other same = cc

  got : (passes : List (Pass A)) (place : ℕ) (pass : Pass A) → slice_get passes place ≡ Some pass → has_line pass.line passes ≡ true
  got [] place pass is = absurd (cc)
  got (first ∷ passes) zero pass is = ap (λ b. b || has_line pass.line passes) (eq-eqb first.line pass.line (some_line first pass is))
  got (first ∷ passes) (suc place) pass is = ap (λ b. (first.line == pass.line) || b) (got passes place pass is) ∙ or_true (first.line == pass.line)

  never_missing : (lines : ℕ) (firsts passes : List (Pass A)) (line : ℕ) → AreFirst lines firsts
      → map (λ pass. pass.line) passes ≡ map (λ pass. pass.line) firsts → IsMissing lines passes line → ⊥
  never_missing lines firsts passes line first same missing =
      let here = got firsts line (first_pass line) (first.each line missing.within) in
      true≢false (sym here ∙ is_among_lines line firsts ∙ ap (is_among line) (sym same) ∙ sym (is_among_lines line passes) ∙ missing.missing)

-- the passes that come back are of all lines in order, as those that were given out
in_order : (lines : ℕ) (firsts passes : List (Pass Alloc)) → AreFirst lines firsts
    → map (λ pass. pass.line) passes ≡ map (λ pass. pass.line) firsts → AreInOrder lines passes
in_order lines firsts passes first same = record {
  count = sym (length-map passes (λ pass. pass.line)) ∙ ap length same ∙ length-map firsts (λ pass. pass.line) ∙ first.count;
  each = λ line within.
      ap (λ lines. slice_get lines line) same ∙ slice_get-map (λ pass. pass.line) firsts line
      ∙ ap (option_map (λ pass. pass.line)) (first.each line within);
}

-- each of these is the first pass of its line
are_firsts : (start : ℕ) (firsts : List (Pass Alloc)) → ((line : ℕ) → line < length firsts → slice_get firsts line ≡ Some (first_pass (start + line)))
    → AllByRecursion (λ pass. pass ≡ first_pass pass.line) firsts
are_firsts start [] each = tt
are_firsts start (first ∷ firsts) each =
    let here : first ≡ first_pass (start + 0) = some_same first (first_pass (start + 0)) (each 0 (omega arith)) in (
      here ∙ ap first_pass (sym (ap (λ p. p.line) here)),
      are_firsts (suc start) firsts (λ line within. each (suc line) (omega (arith, within)) ∙ ap (λ n. Some (first_pass n)) (omega arith)),
    )

each_length : {X Y : Type 0} (R : X → Y → Type 0) (xs : List X) (ys : List Y) → AreEach R xs ys → length xs ≡ length ys
each_length R [] [] each = refl
each_length R [] (y ∷ ys) each = absurd each
each_length R (x ∷ xs) [] each = absurd each
each_length R (x ∷ xs) (y ∷ ys) each = ap suc (each_length R xs ys each.1)

module _ (tables : Tables) where
  same_lines : (firsts passes : List (Pass Alloc)) → AreEach (IsLineServed tables IsAnyLink) firsts passes → map (λ pass. pass.line) passes ≡ map (λ pass. pass.line) firsts
  same_lines [] [] each = refl
  same_lines [] (pass ∷ passes) each = absurd each
  same_lines (first ∷ firsts) [] each = absurd each
  same_lines (first ∷ firsts) (pass ∷ passes) each =
      ap (λ line. line ∷ map (λ pass. pass.line) passes) each.0.0 ∙ ap (λ lines. first.line ∷ lines) (same_lines firsts passes each.1)

  brought_each : (firsts passes : List (Pass Alloc)) → AllByRecursion (λ pass. pass ≡ first_pass pass.line) firsts → AreEach (IsLineServed tables IsAnyLink) firsts passes
      → AllByRecursion (IsBrought tables) passes
  brought_each [] [] all each = tt
  brought_each [] (pass ∷ passes) all each = absurd each
  brought_each (first ∷ firsts) [] all each = absurd each
  brought_each (first ∷ firsts) (pass ∷ passes) all each = (
    subst (λ p. IsLineServed tables IsAnyLink p pass) (all.0 ∙ ap first_pass (sym each.0.0)) each.0,
    brought_each firsts passes all.1 each.1,
  )

  each_by_any : (of_link : Option (List ℕ) → Option (List ℕ) → Type 0) (firsts passes : List (Pass Alloc)) → AreEach (IsLineServed tables of_link) firsts passes
      → AreEach (IsLineServed tables IsAnyLink) firsts passes
  each_by_any of_link [] [] each = tt
  each_by_any of_link [] (pass ∷ passes) each = absurd each
  each_by_any of_link (first ∷ firsts) [] each = absurd each
  each_by_any of_link (first ∷ firsts) (pass ∷ passes) each =
      (served_less tables of_link IsAnyLink (λ _ _ _. tt) first pass each.0, each_by_any of_link firsts passes each.1)

  -- the lines were served from their first passes on
  pub were_served : (of_link : Option (List ℕ) → Option (List ℕ) → Type 0) (firsts passes : List (Pass Alloc)) → AreFirst (line_count tables) firsts
      → AreEach (IsLineServed tables of_link) firsts passes → WereServed tables passes
  were_served of_link firsts passes are_first each = record { firsts = firsts; are_first = are_first; each = each_by_any of_link firsts passes each }

  module _ (passes : List (Pass Alloc)) (served : WereServed tables passes) where
    -- as many passes come back as there are lines
    pub served_count : length passes ≡ line_count tables
    served_count = sym (each_length (IsLineServed tables IsAnyLink) served.firsts passes served.each) ∙ served.are_first.count

    pub served_in_order : AreInOrder (line_count tables) passes
    served_in_order = in_order (line_count tables) served.firsts passes served.are_first (same_lines served.firsts passes served.each)

    pub served_none_missing : (line : ℕ) → IsMissing (line_count tables) passes line → ⊥
    served_none_missing line = never_missing (line_count tables) served.firsts passes line served.are_first (same_lines served.firsts passes served.each)

    -- each line had what its links brought
    pub served_brought : AllByRecursion (IsBrought tables) passes
    served_brought =
        let count = served.are_first.count in
        brought_each served.firsts passes
        (are_firsts 0 served.firsts (λ line within. served.are_first.each line (omega (arith, within, count)) ∙ ap (λ n. Some (first_pass n)) (omega arith))) served.each

-- each two of the lines' reasons and passes
pub each_end : {N : Type 0} (R : EndReason → Pass Alloc → Type 0) (ends : List (LineEnd N Alloc)) → AllByRecursion (λ end. R end.why end.pass) ends
    → AreEach R (map (λ end. end.why) ends) (map (λ end. end.pass) ends)
each_end R [] all = tt
each_end R (end ∷ ends) all = (all.0, each_end R ends all.1)

module _ {N : Type 0} (tables : Tables) (of_link : Option (List ℕ) → Option (List ℕ) → Type 0) where
  stopped_each : (firsts : List (Pass Alloc)) (ends : List (LineEnd N Alloc)) → AllByRecursion (λ pass. pass ≡ first_pass pass.line) firsts
      → AreEach (IsLineServed tables of_link) firsts (map (λ end. end.pass) ends)
      → AreEach (λ first end. end.why ≡ Stopped → IsLineDown tables of_link first end.pass) firsts ends → WereStopped tables ends
  stopped_each [] [] all served down = tt
  stopped_each [] (end ∷ ends) all served down = absurd served
  stopped_each (first ∷ firsts) [] all served down = absurd served
  stopped_each (first ∷ firsts) (end ∷ ends) all served down = (
    λ stopped. subst (λ p. IsLineDown tables IsAnyLink p end.pass) (all.0 ∙ ap first_pass (sym served.0.0))
        (down_less tables of_link IsAnyLink (λ _ _ _. tt) first end.pass (down.0 stopped)),
    stopped_each firsts ends all.1 served.1 down.1,
  )

  -- the lines that were stopped are down
  pub were_stopped : (firsts : List (Pass Alloc)) (ends : List (LineEnd N Alloc)) → AreFirst (line_count tables) firsts
      → AreEach (IsLineServed tables of_link) firsts (map (λ end. end.pass) ends)
      → AreEach (λ first end. end.why ≡ Stopped → IsLineDown tables of_link first end.pass) firsts ends → WereStopped tables ends
  were_stopped firsts ends are_first served down =
      let count = are_first.count in
      stopped_each firsts ends
      (are_firsts 0 firsts (λ line within. are_first.each line (omega (arith, within, count)) ∙ ap (λ n. Some (first_pass n)) (omega arith))) served down
