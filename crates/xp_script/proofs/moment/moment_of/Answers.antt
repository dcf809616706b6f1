use Rattle.std.proofs.Common.{arith, ◌∙◌, sym, subst}
use Rattle.std.specs.Str.Parse.{ParsesUnsigned}
use Rattle.xp_script.proofs.MomentLemmas.{digits_are_text, moment_read}
use Rattle.xp_script.proofs.moment.moment_of.Goals as goal

pub returns-in-Ok : goal.returns-in-Ok
returns-in-Ok c =
    c.ok.ensures.value
    ∙ moment_read c.args.digits.now c.parse.result (omega arith) (sym c.if-not-are_decimal.ensures)
    (subst (λ text. ParsesUnsigned 64 10 text c.parse.result) c.in-Ok.ensures.cases.0 c.parse.ensures.value.0)

pub returns-in-Err : goal.returns-in-Err
returns-in-Err c = absurd (c.in-Err.ensures.cases.0 (digits_are_text c.args.digits.now (sym c.if-not-are_decimal.ensures)))
