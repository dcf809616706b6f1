use Rattle.std.proofs.Common.{◌≡◌, IfOk, ap, eqb, refl, subst, ◌∙◌}
use Rattle.std.specs.List.{starts_with}
use Rattle.xp_cdr.specs.Details.{header_text}
use Rattle.std.proofs.lemmas.List.{take_rest}
use Rattle.xp_live.proofs.LeftLemmas.{header_read}
use Rattle.xp_live.specs.LeftCalls.{partial_lines}
use Rattle.xp_live.proofs.left_calls.LeftCalls.read.Goals as goal

pub returns-then-starts_with : goal.returns-then-starts_with
returns-then-starts_with c =
    let text = c.args.text.now in
    subst (λ lines. IfOk c.read_lines.result (λ left. left ≡ lines))
    (ap partial_lines (take_rest text 194)
    ∙ header_read text header_text c.starts_with.result refl (c.starts_with.ensures.value ∙ ap (starts_with eqb text) c.as_bytes.ensures.value) c.if-starts_with.true)
    c.read_lines.ensures
