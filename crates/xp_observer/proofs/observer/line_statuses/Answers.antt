use Rattle.std.proofs.Common.{rules, ◌<◌, length, refl, ◌≡◌, ◌∙◌, ◌+◌, ◌∷◌, ◌++◌, [], Some, ap, arith, false, true, inl, inr, map, min, option_map, slice_get, subst, sym}
use Rattle.std.proofs.lemmas.List.{length-map}
use Rattle.std.proofs.lemmas.Option.{get_or_from_slice_get, slice_get-map, slice_get_cases, slice_get_read, slice_get_within}
use Rattle.xp_observer.proofs.Shown.{all_shown, none_more, one_more}
use Rattle.xp_observer.specs.Shown.{IsShownAs, has_no_name, names_in}
use Rattle.xp_observer.specs.steps.Shown.{AreShownSoFar}
use Rattle.xp_observer.proofs.observer.line_statuses.Goals.{then-not-is_spare+in_ok-status+in_ok-push, else-not-is_spare}
use Rattle.xp_observer.proofs.observer.line_statuses.Goals as goal

pub loop-place-preserved : goal.loop-place-preserved
loop-place-preserved c =
    let lines = c.args.lines.now in
    let views = c.args.view.now.lines.items in
    let place = c.loop-place.place in
    let line = c.index-lines-place.result in
    let shown = c.loop-place.statuses.items in
    let within : place < length lines = search rules in
    let seen : place < length views = search rules in
    let at_line : slice_get lines place ≡ Some line = slice_get_read lines _ place line refl within c.index-lines-place.is in
    let named : slice_get (map names_in lines) place ≡ Some (names_in line) = slice_get-map names_in lines place ∙ ap (option_map names_in) at_line in
    let name_is = get_or_from_slice_get (map names_in lines) place (names_in line) (names_in line) named in
    let has_name : place < length (map names_in lines) = slice_get_within (map names_in lines) place (names_in line) named in
    elim c.if-not-is_spare.branch [
      | then-not-is_spare+in_ok-status+in_ok-push w ↦
          let view = w.index.result.now in
          let has : has_no_name (names_in line) ≡ false = search rules in
          let again = w.index-lines-place-then-not-is_spare.result in
          let at_again : slice_get lines place ≡ Some again = slice_get_read lines _ place again refl within w.index-lines-place-then-not-is_spare.is in
          let same : again ≡ line = cc (at_line, at_again) in
          let is : IsShownAs (names_in line) view.line w.in_ok-status.status = subst (λ l. IsShownAs (names_in l) view.line w.in_ok-status.status) same w.in_ok-status.ensures in
          let items : c.if-not-is_spare.statuses.items ≡ shown ++ w.in_ok-status.status ∷ [] = cc w.in_ok-push.ensures.items in
          subst (λ items. AreShownSoFar (map names_in lines) views (place + 1) items) (sym items)
          (one_more (map names_in lines) views place shown c.loop-place.invariant (names_in line) view has_name seen name_is (sym w.index.ensures) w.in_ok-status.status has is)
      | else-not-is_spare w ↦
          let spare : has_no_name (names_in line) ≡ true = search rules in
          let items : c.if-not-is_spare.statuses.items ≡ shown = cc in
          elim (slice_get_cases views place).1 [
            | inl (view, _, _, view_is) ↦
                subst (λ items. AreShownSoFar (map names_in lines) views (place + 1) items) (sym items)
                (none_more (map names_in lines) views place shown c.loop-place.invariant (names_in line) view has_name seen name_is view_is spare)
            | inr past ↦ let beyond = past.0 in absurd (omega (arith, beyond, seen))
          ]
    ]

pub returns : goal.returns
returns c =
    let lines = c.args.lines.now in
    let views = c.args.view.now.lines.items in
    let place = c.loop-place.place in
    let all : place ≡ min (length lines) (length views) = search rules in
    let count = length-map lines names_in in
    all_shown (map names_in lines) views place c.loop-place.statuses.items c.loop-place.invariant (all ∙ ap (λ n. min n (length views)) (sym count))
