use Rattle.std.proofs.Common.{◌+◌, ap, subst, sym, take, ◌∙◌}
use Rattle.std.proofs.lemmas.List.{take_rest}
use Rattle.std.proofs.lemmas.Option.{IfSome_then}
use Rattle.xp_cdr.specs.steps.LastLine.{LastBegins}
use Rattle.xp_cdr.proofs.LineLemmas.{last_begins}
use Rattle.xp_cdr.proofs.last_line.started_in.Goals as goal

pub returns : goal.returns
returns c =
    let front = c.in_ok-text.text.now in
    let place = c.in_ok-start.field-0 in
    let size = c.in_ok-size.size in
    let feed = c.in_ok-start.ensures in
    let comma = rw (take_rest front (place + 1)) at c.in_ok-size.ensures in
    let begins = last_begins c.args.lines.now front c.in_ok-text.field-0-0.now place size c.in_ok-text.ensures.cases.0 feed.0 feed.1 comma.0.high comma.1 in
    IfSome_then c.read_moment.result c.read_moment.ensures
    (λ seconds same. subst (LastBegins c.args.lines.now) (sym (ap (take size) (take_rest front (place + 1))) ∙ same) begins)
