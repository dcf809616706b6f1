use Rattle.std.proofs.Common.{◌∙◌, ap, arith, length, refl}
use Rattle.std.proofs.lemmas.List.{take_rest, length-drop}
use Rattle.xp_lines.proofs.Octets.{appends_next}
use Rattle.xp_lines.proofs.flow.push_some.Goals as goal

pub loop-count-preserved : goal.loop-count-preserved
loop-count-preserved g c =
    let was = c.loop-count.invariant in
    let bound = c.in-Took.ensures.bound in
    let left = ap length (take_rest c.args.octets.now c.loop-count.count) ∙ length-drop c.loop-count.count c.args.octets.now in
    let within = was.0 in
    (omega (arith, bound, left, within), c.in-Took.ensures.pulled ∙ was.1, appends_next _ _ _ _ _ _ _ was.2 refl c.in-Took.ensures.pushed)
