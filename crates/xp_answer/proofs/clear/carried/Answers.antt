use Rattle.std.proofs.Common.{sym, ◌∙◌, subst}
use Rattle.xp_answer.specs.ForwardedClear.{TakesOver}
use Rattle.xp_answer.specs.ForwardedClear as carried
use Rattle.xp_answer.proofs.clear.carried.Goals as goal

pub returns : goal.returns
returns g c =
    carried.both (sym c.is_fast_select.ensures ∙ c.if-not-is_fast_select.false) c.in_ok-user.ensures
    (subst (λ field. TakesOver _ field c.in_ok-dte.dte) c.facilities_in.ensures c.in_ok-dte.ensures)
