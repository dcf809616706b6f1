use Rattle.std.proofs.Common.{◌∙◌, ap, ◌++◌}
use Rattle.xp_facilities.specs.steps.Indicated.{marked_octets}
use Rattle.xp_facilities.proofs.writer.field.Goals as goal

pub returns-clause-value : goal.returns-clause-value
returns-clause-value g c =
    c.in_ok-push_dte.ensures
    ∙ ap (λ x. c.push_class_d.new.field.items ++ marked_octets x) c.as_slice.ensures
    ∙ ap (λ x. x ++ marked_octets c.args.told.now.dte) c.in_ok-push_class_d.ensures.value
