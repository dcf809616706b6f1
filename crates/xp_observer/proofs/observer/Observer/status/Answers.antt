-- The lines are shown as the observer names them.
use Rattle.std.proofs.Common.{◌∙◌, ap, count_by, map, subst}
use Rattle.xp_observer.specs.Shown.{AreNamesInForce, AreShown, has_no_name, names_in}
use Rattle.xp_observer.proofs.observer.Observer.status.Goals as goal

pub returns-clause-shows : goal.returns-clause-shows
returns-clause-shows g c = record {
  lines_are = subst (λ names. AreShown names c.args.view.now.lines.items c.in_ok-line_statuses.field-0.items) (ap (map names_in) c.deref-2.ensures.value ∙ c.self.view_is) c.in_ok-line_statuses.ensures;
  spare_are = c.spare_count.ensures ∙ ap (count_by has_no_name) (ap (map names_in) c.deref-3.ensures.value ∙ c.self.view_is);
  events_are = c.totals_of-totals.ensures.events;
  stalls_are = c.totals_of-totals.ensures.stalls;
}

pub returns-clause-named : goal.returns-clause-named
returns-clause-named g c =
    (c.args.self.now, subst (AreNamesInForce g.N.ShownExchange.tables) c.self.view_is c.self.invariant, returns-clause-shows g c)
