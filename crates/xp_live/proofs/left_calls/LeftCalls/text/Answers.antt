use Rattle.std.proofs.Common.{IfOk, ap, flat_map, subst, ◌∙◌, ◌≡◌}
use Rattle.xp_live.proofs.LeftLemmas.{joined_texts}
use Rattle.xp_live.specs.LeftCalls.{joined}
use Rattle.xp_live.specs.steps.LeftCalls.{text_in}
use Rattle.xp_live.proofs.left_calls.LeftCalls.text.Goals as goal

pub returns : goal.returns
returns c =
    let is = ap (flat_map text_in) c.as_slice.ensures.value ∙ joined_texts c.self.inside.lines.items ∙ ap joined c.self.view_is in
    subst (λ octets. IfOk c.text_of.result (λ text. text.items ≡ octets)) is c.text_of.ensures
