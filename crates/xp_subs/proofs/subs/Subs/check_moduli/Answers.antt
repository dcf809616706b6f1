use Rattle.std.proofs.Common.{ap, below_more, sym, ◌∙◌}
use Rattle.std.proofs.lemmas.List.{get_or_read}
use Rattle.xp_subs.specs.Tables.{no_line}
use Rattle.xp_subs.specs.steps.Places.{fits}
use Rattle.xp_subs.proofs.PlaceLemmas.{fit_checked, unfit_refused}
use Rattle.xp_subs.proofs.subs.Subs.check_moduli.Goals as goal

pub returns-then-not-fits-clause-refused : goal.returns-then-not-fits-clause-refused
returns-then-not-fits-clause-refused c =
    unfit_refused _ _ c.args.self.now c.args.next.now c.self.view_is c.next.view_is c.self.invariant.sound c.next.invariant.sound
    c.deref-line-items.result.now c.deref-line-items.ensures.value c.loop-line.line-index c.line-item.result c.loop-line-test.true c.line-item.is
    (sym c.fits.ensures ∙ c.if-not-fits.true) c.copy.result c.copy.ensures

pub loop-line-preserved : goal.loop-line-preserved
loop-line-preserved c =
    below_more _ _ c.loop-line.invariant
    (ap (fits c.args.self.now) (sym (get_or_read c.deref-line-items.result.now c.loop-line.line-index c.line-item.result c.loop-line-test.true c.line-item.is no_line))
    ∙ sym c.fits.ensures ∙ c.if-not-fits.false)

pub returns-clause-fit : goal.returns-clause-fit
returns-clause-fit c =
    fit_checked c.args.self.now c.args.next.now _ _ c.loop-line.line-index c.next.view_is c.deref-line-items.ensures.value c.loop-line-test.false c.loop-line.invariant
