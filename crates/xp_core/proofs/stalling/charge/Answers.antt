use Rattle.std.proofs.Common.{◌++◌, option_to_list, ap, append-nil, sym, ◌∙◌}
use Rattle.xp_core.proofs.stalling.charge.Goals as goal

pub returns-clause-records : goal.returns-clause-records
returns-clause-records g c before found =
    c.with_some.ensures.items ∙ ap (λ front. front ++ option_to_list c.withdraw-withdrawal.result.charged) c.requires.none ∙ (c.withdraw-withdrawal.ensures before found).records ∙ sym (append-nil _)
