-- The pass of a line that stands in some place.
use Rattle.std.proofs.Common.{◌≡◌, ℕ, zero, suc, true, Some, List, [], ◌∷◌, ap, ◌∙◌}
use Rattle.std.proofs.lemmas.Bool.{eq-eqb, or_left, or_right}
use Rattle.std.proofs.lemmas.Option.{none-some, same_Some}
use Rattle.std.specs.Prelude.{slice_get}
use Rattle.xp_lock.specs.Closing.{has_line}
use Rattle.xp_lock.specs.Passes.{Pass}

module _ {A : Type 0} where
  pub stands_there : (passes : List (Pass A)) (place line : ℕ) (pass : Pass A)
      → slice_get passes place ≡ Some pass → pass.line ≡ line → has_line line passes ≡ true
  stands_there [] place line pass there same = absurd (none-some pass there)
  stands_there (x ∷ passes) zero line pass there same = or_left _ _ (eq-eqb x.line line (ap (λ p. p.line) (same_Some x pass there) ∙ same))
  stands_there (x ∷ passes) (suc place) line pass there same = or_right _ _ (stands_there passes place line pass there same)
