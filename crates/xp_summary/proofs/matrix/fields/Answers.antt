use Rattle.std.proofs.Common.{◌≡◌, ℕ, ◌+◌, List, [], ◌∷◌, ◌++◌, refl, sym, ◌∙◌, ap, subst}
use Rattle.std.specs.String.{string_bytes}
use Rattle.xp_summary.proofs.FieldLemmas.{one_more}
use Rattle.xp_summary.specs.Matrix.{AreFields}
use Rattle.xp_summary.proofs.matrix.fields.Goals as goal

pub loop-called-init : goal.loop-called-init
loop-called-init c =
    let P : List ℕ → Type 0 = λ fields. AreFields c.args.subs.now c.args.caller c.args.first c.args.first fields in
    subst P (sym c.new-fields.ensures.bytes) refl

pub loop-called-preserved : goal.loop-called-preserved
loop-called-preserved c =
    let P : List ℕ → Type 0 = λ fields. AreFields c.args.subs.now c.args.caller c.args.first (c.loop-called.called + 1) fields in
    let written : string_bytes c.push_str.new.self ≡ string_bytes c.loop-called.fields ++ c.field.ensures.0 ∷ [] =
    c.in_ok-push_str.ensures.bytes ∙ ap (λ text. string_bytes c.loop-called.fields ++ text) c.field.ensures.1 in
    subst P (sym written)
    (one_more c.args.subs.now c.args.caller c.args.first c.loop-called.called (string_bytes c.loop-called.fields) c.field.ensures.0 c.loop-called.invariant c.field.ensures.2)
