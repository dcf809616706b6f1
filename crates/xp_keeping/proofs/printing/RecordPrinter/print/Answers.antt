use Rattle.std.proofs.Common.{subst, sym, ◌∙◌}
use Rattle.xp_keeping.specs.Printing.{HasPrinted, IsPrinted}
use Rattle.xp_keeping.proofs.Printed.{printed_more, printed_on}
use Rattle.xp_keeping.proofs.printing.RecordPrinter.print.Goals as goal

pub invariant_of-self : goal.invariant_of-self
invariant_of-self g c =
    let was = c.self.inside in
    let more = c.print_more-self-inside in
    let before = g.W.Write.contents was.first.value in
    let between = g.W.Write.contents was.writer in
    let after = g.W.Write.contents more.new.writer in
    let counted = c.count_on-self-inside in
    let printed = printed_more was.given.items c.args.calls.now before between after was.outcome more.result c.self.invariant.0 more.ensures in (
      subst (λ given. IsPrinted (record { given = given; before = before; contents = after; outcome = more.result })) (sym c.extend.ensures) printed,
      subst (λ given. HasPrinted (record { given = given; before = before; contents = after; outcome = more.result }) counted.result) (sym c.extend.ensures)
          (printed_on was.given.items c.args.calls.now before between after was.outcome more.result was.count counted.result printed c.self.invariant.1 more.ensures
          (λ fine. counted.ensures.more (c.is_ok.ensures.value ∙ fine)) (λ failed. counted.ensures.same (c.is_ok.ensures.value ∙ failed))),
    )
