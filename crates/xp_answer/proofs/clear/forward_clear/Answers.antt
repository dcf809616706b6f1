use Rattle.std.proofs.Common.{sym, subst}
use Rattle.xp_facilities.specs.Indicated.{Indicates}
use Rattle.xp_answer.proofs.Sent.{carried_on_sent}
use Rattle.xp_answer.proofs.Tellable.{cleared_told}
use Rattle.xp_answer.specs.steps.Fields.{CanBeTold}
use Rattle.xp_answer.proofs.clear.forward_clear.Goals as goal

pub field_of-requires : goal.field_of-requires
field_of-requires g c =
    subst CanBeTold (sym c.tell.ensures) (cleared_told c.args.fast c.args.block.now c.args.charging c.in_ok-user.user c.in_ok-user.dte c.requires c.in_ok-user.ensures)

pub returns-clause-carried : goal.returns-clause-carried
returns-clause-carried g c = record {
  user = c.in_ok-user.user;
  dte = c.in_ok-user.dte;
  carries = c.in_ok-user.ensures;
  field = c.in_ok-facilities.facilities;
  tells = subst (λ told. Indicates told c.in_ok-facilities.facilities) c.tell.ensures c.in_ok-facilities.ensures;
  whole = cc (c.indicated_cause.ensures, c.indicated_diagnostic.ensures, c.block_with.ensures);
}

pub returns-clause-sent : goal.returns-clause-sent
returns-clause-sent g c few = carried_on_sent c.args.fast c.args.cause c.args.diagnostic c.args.block.now c.args.charging _ few (returns-clause-carried g c)
