use Rattle.std.proofs.Common.{sym, ◌∙◌}
use Rattle.xp_subs.specs.Consistency.{tables}
use Rattle.xp_file.specs.Name.{is_line_name}
use Rattle.xp_subs.proofs.TableLemmas.{line_named_of-unspelled, refused}
use Rattle.xp_subs.proofs.subs.Subs.line_named.Goals as goal

pub returns-in_err-of_line-clause-found : goal.returns-in_err-of_line-clause-found
returns-in_err-of_line-clause-found c =
    rw (← c.self.view_is)
    (c.from_residual.ensures ∙ sym (line_named_of-unspelled (tables c.self.inside) c.args.name.now c.self.invariant.sound.spelled
    (refused (is_line_name c.args.name.now) c.args.name.now c.in_err-of_line.ensures)))
