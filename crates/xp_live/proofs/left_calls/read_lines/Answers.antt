use Rattle.std.proofs.Common.{◌≡◌, ◌<◌, ap, false, length, rules, subst, sym, true, ◌∙◌}
use Rattle.std.specs.Io.BufRead.{drop_through}
use Rattle.xp_live.proofs.LeftLemmas.{not_read, one_read}
use Rattle.xp_live.specs.LeftCalls.{call_name, is_partial_line}
use Rattle.xp_live.specs.steps.LeftCalls.{AreRead}
use Rattle.xp_live.proofs.left_calls.read_lines.Goals as goal

pub returns-then-not-is_partial : goal.returns-then-not-is_partial
returns-then-not-is_partial c =
    let rest = c.loop-rest.rest.now in
    let some : 0 < length rest = search rules in
    let wrong : c.is_partial.result ≡ false = search rules in
    not_read c.args.text.now rest c.loop-rest.lines.items c.loop-rest.invariant some
    (ap is_partial_line (sym c.cut.ensures.front) ∙ sym c.is_partial.ensures ∙ wrong)

pub loop-rest-preserved : goal.loop-rest-preserved
loop-rest-preserved c =
    let rest = c.loop-rest.rest.now in
    let some : 0 < length rest = search rules in
    let right : c.is_partial.result ≡ true = search rules in
    let line = c.in_ok-live_line.field-0 in
    subst (λ behind. AreRead c.args.text.now behind c.push.new.self.items) (sym c.cut.ensures.behind)
    (subst (AreRead c.args.text.now (drop_through 10 rest)) (sym c.in_ok-push.ensures.items)
    (one_read c.args.text.now rest c.loop-rest.lines.items line c.loop-rest.invariant some (c.in_ok-live_line.ensures.text ∙ c.cut.ensures.front)
    (ap is_partial_line (sym c.cut.ensures.front) ∙ sym c.is_partial.ensures ∙ right) (c.in_ok-live_line.ensures.name ∙ ap call_name c.cut.ensures.front)))
