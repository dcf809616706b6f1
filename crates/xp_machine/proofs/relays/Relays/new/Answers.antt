use Rattle.std.proofs.Common.{rules, ◌≡◌, None, [], ◌∷◌, ◌++◌, replicate, ap, ◌∙◌}
use Rattle.std.proofs.lemmas.List.{replicate_more}
use Rattle.xp_machine.proofs.relays.Relays.new.Goals as goal

pub loop-preserved : goal.loop-preserved
loop-preserved g c = c.in_ok-push.ensures.items ∙ ap (λ items. items ++ None ∷ []) c.loop.invariant ∙ replicate_more _ None

pub returns : goal.returns
returns g c =
    let all : c.loop.counter ≡ c.args.lines = search rules in
    c.loop.invariant ∙ ap (λ n. replicate n None) all
