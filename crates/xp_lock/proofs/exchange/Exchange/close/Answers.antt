use Rattle.std.proofs.Common.{ap, length, subst, sym, ◌≡◌, ◌∙◌}
use Rattle.xp_subs.specs.Tables.{line_count}
use Rattle.xp_lock.specs.Closing.{HasAll, all_handed, handed_together}
use Rattle.xp_lock.proofs.Counted.{counted, together}
use Rattle.xp_lock.proofs.exchange.Exchange.close.Goals as goal

pub returns-clause-all : goal.returns-clause-all
returns-clause-all g c =
    subst (λ lines. HasAll lines c.args.passes.items) c.self.invariant.0
    (subst (λ passes. HasAll c.self.inside.lines passes) c.as_slice.ensures.value c.in_default.ensures.all)

pub returns-clause-counted : goal.returns-clause-counted
returns-clause-counted g c =
    let book = c.close-book.result in
    subst (λ t. length (all_handed book.history) ≡ handed_together (line_count t) book.history) c.close-book.ensures.subs
    (counted book.subs book.history _ c.count-legal.ensures.run)

pub returns-clause-together : goal.returns-clause-together
returns-clause-together g c =
    let book = c.close-book.result in
    let here : HasAll c.self.inside.lines c.args.passes.items = subst (HasAll c.self.inside.lines) c.as_slice.ensures.value c.in_default.ensures.all in
    let all : HasAll (line_count book.subs) c.args.passes.items =
    subst (λ lines. HasAll lines c.args.passes.items) (c.self.invariant.0 ∙ ap line_count (sym c.close-book.ensures.subs)) here in
    together book.subs book.history _ c.args.passes.items c.count-legal.ensures.run all c.close-book.ensures.once c.close-book.ensures.told
