use Rattle.std.proofs.Common.{[], ◌∷◌, ◌++◌, ap, ◌∙◌}
use Rattle.xp_keeping.proofs.ToldLemmas.{renamed}
use Rattle.xp_keeping.specs.steps.Telling.{Told}
use Rattle.xp_keeping.proofs.telling.Telling.rename.Goals as goal

pub invariant_of-self : goal.invariant_of-self
invariant_of-self c =
    let was = c.self.inside in
    rw (c.push.ensures) (renamed (was.earlier.items ++ was.subs ∷ []) c.args.subs was.given.items c.self.invariant)

pub returns-then-counts-clause-named : goal.returns-then-counts-clause-named
returns-then-counts-clause-named c = (
  c.args.subs ∷ [],
  ap (λ items. items ++ c.args.subs ∷ []) c.push.ensures ∙ ap (λ (told : Told). told.named ++ c.args.subs ∷ []) c.self.view_is,
)
