use Rattle.std.proofs.Common.{ap, ◌∙◌}
use Rattle.std.specs.List.{list_all}
use Rattle.xp_cdr.proofs.NameLemmas.{all_cleaned}
use Rattle.xp_cdr.specs.Names.{is_exchange_letter}
use Rattle.xp_cdr.proofs.run.ExchangeName.of_host.Goals as goal

pub invariant_of-result : goal.invariant_of-result
invariant_of-result c = ap (list_all is_exchange_letter) c.cleaned_letters.ensures ∙ all_cleaned c.front.result.now
