use Rattle.std.proofs.Common.{[], ◌++◌, ap, arith, sym, ◌∙◌}
use Rattle.xp_cdr.specs.Ledger.{Ledger}
use Rattle.xp_keeping.proofs.details.DetailKeeper.new.Goals as goal

pub invariant_of-result : goal.invariant_of-result
invariant_of-result g c = (
  record {
    front = ([], c.new-2.ensures ∙ ap (λ (ledger : Ledger). ledger.given ++ []) (sym c.new.ensures));
    all = λ enough. ap (λ (ledger : Ledger). ledger.given) c.new.ensures ∙ sym c.new-2.ensures;
  },
  omega arith,
)
