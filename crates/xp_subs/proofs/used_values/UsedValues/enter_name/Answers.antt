use Rattle.std.proofs.Common.{sym, ◌∙◌}
use Rattle.xp_subs.proofs.UsedLemmas.{name_entered}
use Rattle.xp_subs.proofs.used_values.UsedValues.enter_name.Goals as goal

pub returns-clause-ok : goal.returns-clause-ok
returns-clause-ok c =
    name_entered c.args.name.now c.copy.result c.copy.ensures c.args.line c.self.inside.targets.entries c.self.inside.names.entries
    c.insert.new.self.entries c.self.inside.ports.keys c.args.self.now c.in_ok-insert.field-0 c.self.view_is
    c.in_ok-insert.ensures.old (sym c.is_some.ensures ∙ c.if-is_some.false) c.in_ok-insert.ensures.entries
