use Rattle.std.proofs.Common.{sym, ◌∙◌}
use Rattle.xp_tcp.proofs.Networks.{no_number}
use Rattle.xp_tcp.proofs.source.number_up_to.Goals as goal

pub returns-in-Err : goal.returns-in-Err
returns-in-Err c =
    sym (no_number c.args.most c.args.text.now c.parse.result c.in-Err.field-0 c.ranges.most.fits (sym c.are_digits.ensures ∙ c.if-not-are_digits.false) c.parse.ensures.value.0 c.in-Err.is)
