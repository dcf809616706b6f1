use Rattle.std.proofs.Common.{map, ◌∙◌}
use Rattle.std.proofs.lemmas.List.{nil_from_length}
use Rattle.std.specs.Vec.Iter.{into_iter_items}
use Rattle.xp_lines.proofs.Served.{all_moved, none_behind}
use Rattle.xp_serve.proofs.serving.thread_inputs.Goals as goal

pub returns-clause-passes : goal.returns-clause-passes
returns-clause-passes g c =
    let was = c.loop-pass.invariant in
    none_behind (map (λ part. part.pass) c.loop-pass.served.items) _ _ (nil_from_length (into_iter_items c.loop-pass.pass-iterator) (was.many ∙ c.in-None.ensures.steps.0)) was.passes

pub returns-clause-ports : goal.returns-clause-ports
returns-clause-ports g c =
    let was = c.loop-pass.invariant in
    all_moved (λ part. part.port) (λ end. end.port) c.loop-pass.served.items _ _ (nil_from_length (into_iter_items c.loop-pass.ends) (was.many_ends ∙ was.ends ∙ c.in-None.ensures.steps.0)) was.ports
