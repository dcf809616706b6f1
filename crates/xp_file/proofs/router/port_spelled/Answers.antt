use Rattle.std.proofs.Common.{sym, ◌∙◌}
use Rattle.xp_file.proofs.RouterLemmas.{no_port}
use Rattle.xp_file.proofs.router.port_spelled.Goals as goal

pub returns-in-Err : goal.returns-in-Err
returns-in-Err c =
    sym (no_port c.args.text.now c.parse.result c.in-Err.field-0 (sym c.has_port_digits.ensures ∙ c.if-not-has_port_digits.false) c.parse.ensures.value.0 c.in-Err.is)
