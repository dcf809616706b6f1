-- One place more is shown.
use Rattle.std.proofs.Common.{◌≡◌, ◌∙◌, ℕ, ◌+◌, ◌<◌, List, [], ◌∷◌, ◌++◌, Bool, true, false, length, min, sym, ap, subst, arith, get_or, filter, map, not, take}
use Rattle.std.proofs.lemmas.List.{append-nil, map_push, take_all, take_more}
use Rattle.std.proofs.lemmas.List.Elements.{filter-append}
use Rattle.std.proofs.lemmas.Slice.Zip.{get_or-zip, length-zip}
use Rattle.std.specs.List.{AllZip, zip}
use Rattle.xp_console.specs.declared.status.LineStatus.{LineStatus}
use Rattle.xp_observer.specs.declared.lines.NamedLine.{NamedLine}
use Rattle.xp_observer.specs.Shown.{AreShown, IsShownAs, LineNames, has_no_name, names_at, names_in}
use Rattle.xp_observer.specs.steps.Shown.{AreShownSoFar}
use Rattle.xp_subs.specs.Tables.{Tables}
use Rattle.xp_subs.specs.declared.line.Line.{Line}
use Rattle.xp_view.specs.declared.view.LineWithCall.{LineWithCall}

zip_push : {A B : Type 0} (R : A → B → Type 0) (xs : List A) (ys : List B) (x : A) (y : B) → AllZip R xs ys → R x y → AllZip R (xs ++ x ∷ []) (ys ++ y ∷ [])
zip_push R [] [] x y all is = (is, tt)
zip_push R [] (z ∷ ys) x y all is = absurd all
zip_push R (w ∷ xs) [] x y all is = absurd all
zip_push R (w ∷ xs) (z ∷ ys) x y all is = (all.0, zip_push R xs ys x y all.1 is)

kept : {X : Type 0} (p : X → Bool) (x : X) → p x ≡ true → filter p (x ∷ []) ≡ x ∷ []
kept p x is = grind arith

left_out : {X : Type 0} (p : X → Bool) (x : X) → p x ≡ false → filter p (x ∷ []) ≡ []
left_out p x is = grind arith

module _ (names : List LineNames) (seen : List LineWithCall) (count : ℕ) (shown : List LineStatus) (so_far : AreShownSoFar names seen count shown) where
  abbrev Place : Type 0
  Place = LineNames × LineWithCall

  abbrev has_line : Place → Bool
  has_line place = not (has_no_name place.0)

  module _ (name : LineNames) (view : LineWithCall) (named : count < length names) (viewed : count < length seen)
      (name_is : get_or names count name ≡ name) (view_is : get_or seen count view ≡ view) where
    more : filter has_line (take (count + 1) (zip names seen)) ≡ filter has_line (take count (zip names seen)) ++ filter has_line ((name, view) ∷ [])
    more =
        let place : Place = (name, view) in
        let length_is = length-zip names seen in
        let within : count < length (zip names seen) = omega (arith, named, viewed, length_is) in
        let here : get_or (zip names seen) count place ≡ place =
        get_or-zip names seen count place named viewed ∙ ap (λ (n : LineNames). (n, get_or seen count view)) name_is ∙ ap (λ (v : LineWithCall). (name, v)) view_is in
        ap (filter has_line) (take_more (zip names seen) count place within ∙ ap (λ (p : Place). take count (zip names seen) ++ p ∷ []) here)
        ∙ filter-append has_line (take count (zip names seen)) (place ∷ [])

    -- a place that has a line
    pub one_more : (status : LineStatus) → has_no_name name ≡ false → IsShownAs name view.line status → AreShownSoFar names seen (count + 1) (shown ++ status ∷ [])
    one_more status has is =
        let place : Place = (name, view) in
        let before = filter has_line (take count (zip names seen)) in
        let all : filter has_line (take (count + 1) (zip names seen)) ≡ before ++ place ∷ [] = more ∙ ap (λ (ps : List Place). before ++ ps) (kept has_line place (ap not has)) in
        subst (λ (ps : List Place). AllZip (λ place status. IsShownAs place.0 place.1.line status) ps (shown ++ status ∷ [])) (sym all)
        (zip_push (λ (place : Place) status. IsShownAs place.0 place.1.line status) before shown place status so_far is)

    -- a spare one
    pub none_more : has_no_name name ≡ true → AreShownSoFar names seen (count + 1) shown
    none_more spare =
        let place : Place = (name, view) in
        let before = filter has_line (take count (zip names seen)) in
        let all : filter has_line (take (count + 1) (zip names seen)) ≡ before =
        more ∙ ap (λ (ps : List Place). before ++ ps) (left_out has_line place (ap not spare)) ∙ append-nil before in
        subst (λ (ps : List Place). AllZip (λ place status. IsShownAs place.0 place.1.line status) ps shown) (sym all) so_far

  -- all places
  pub all_shown : count ≡ min (length names) (length seen) → AreShown names seen shown
  all_shown is =
      let length_is = length-zip names seen in
      let all : take count (zip names seen) ≡ zip names seen = take_all count (zip names seen) (omega (arith, is, length_is)) in
      subst (λ (ps : List Place). AllZip (λ place status. IsShownAs place.0 place.1.line status) (filter has_line ps) shown) all so_far

-- one line's names more
pub one_name_more : (tables : Tables) (shown : List NamedLine) (lines : List Line) (place : ℕ) (line : NamedLine) (default : Line) → place < length lines
    → map names_in shown ≡ map (names_at tables) (take place lines) → names_in line ≡ names_at tables (get_or lines place default)
    → map names_in (shown ++ line ∷ []) ≡ map (names_at tables) (take (place + 1) lines)
one_name_more tables shown lines place line default within same name =
    map_push names_in shown line
    ∙ ap (λ names. names ++ names_in line ∷ []) same
    ∙ ap (λ name. map (names_at tables) (take place lines) ++ name ∷ []) name
    ∙ sym (map_push (names_at tables) (take place lines) (get_or lines place default))
    ∙ ap (map (names_at tables)) (sym (take_more lines place default within))
