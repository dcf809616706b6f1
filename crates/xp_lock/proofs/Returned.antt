-- The passes that are given back to the keeper: no line has two.
use Rattle.std.proofs.Common.{◌≡◌, ◌≢◌, ℕ, false, Some, None, List, [], ◌∷◌, set, sym, refl, ap, ◌∙◌}
use Rattle.std.proofs.lemmas.Bool.{ne_eqb}
use Rattle.std.proofs.lemmas.List.{get_or-set_other, get_or-set_same}
use Rattle.std.proofs.lemmas.Option.{none-some}
use Rattle.std.specs.Prelude.{◌||◌}
use Rattle.xp_lock.specs.Closing.{NoneTwice, has_line}
use Rattle.xp_lock.specs.Passes.{Pass}
use Rattle.xp_seats.specs.Views.{seen_by}
use Rattle.xp_lock.proofs.Fronts.{Known, is_there}

module _ {A : Type 0} where
  -- the keeper knows what each of these saw, as they come back one after the other
  abbrev pub ComeBack : Known A → List (Pass A) → Type 0
  ComeBack known [] = Unit {0}
  ComeBack known (pass ∷ passes) = (seen_by known pass.line ≡ Some pass.seen) × ComeBack (set known pass.line None) passes

  none_again : (known : Known A) (passes : List (Pass A)) → ComeBack known passes
      → NoneTwice passes × ((line : ℕ) → seen_by known line ≡ None → has_line line passes ≡ false)
  none_again known [] come = (tt, λ line none. refl)
  none_again known (pass ∷ passes) come =
      let rest = none_again (set known pass.line None) passes come.1 in (
        (rest.1 pass.line (get_or-set_same known pass.line None None (is_there known pass.line pass.seen come.0)), rest.0),
        λ line none.
            let other : line ≢ pass.line = λ same. none-some pass.seen (sym none ∙ ap (seen_by known) same ∙ come.0) in
            ap (λ b. b || has_line line passes) (ne_eqb pass.line line (λ same. other (sym same)))
            ∙ rest.1 line (get_or-set_other known pass.line line None None other ∙ none),
      )

  pub none_twice : (known : Known A) (passes : List (Pass A)) → ComeBack known passes → NoneTwice passes
  none_twice known passes come = (none_again known passes come).0
