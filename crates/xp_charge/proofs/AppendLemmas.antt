-- A text to which one part after the other is appended.
use Rattle.std.proofs.Common.{◌≡◌, ℕ, List, [], ◌∷◌, ◌++◌, length, take, refl, sym, ap, ◌∙◌, arith}
use Rattle.std.proofs.lemmas.List.{length-take, take-take}
use Rattle.xp_charge.specs.steps.Text.{Keeps}

-- a text to which a part is appended still begins with its previous content
pub keeps_appended : (before part after : List ℕ) → after ≡ before ++ part → Keeps before after
keeps_appended before part after is = ap (λ text. take (length before) text) is ∙ front before part where
  front : (text more : List ℕ) → take (length text) (text ++ more) ≡ text
  front [] more = refl
  front (character ∷ text) more = ap (λ rest. character ∷ rest) (front text more)

-- what begins with a text also begins with what that text begins with
pub keeps_on : (before between after : List ℕ) → Keeps before between → Keeps between after → Keeps before after
keeps_on before between after h k =
    let shorter = ap length h in
    sym (take-take (length before) (length between) after (omega (arith, shorter, length-take (length before) between)))
    ∙ ap (λ text. take (length before) text) k
    ∙ h
