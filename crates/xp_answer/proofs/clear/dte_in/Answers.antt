use Rattle.std.proofs.Common.{refl, rules}
use Rattle.xp_answer.proofs.Tellable.{refused_faulty}
use Rattle.xp_answer.specs.ForwardedClear as carried
use Rattle.xp_answer.proofs.clear.dte_in.Goals as goal

pub returns-in-Ok : goal.returns-in-Ok
returns-in-Ok g c = carried.read c.in-Ok.asked c.in-Ok.ensures refl

pub returns-else-eq : goal.returns-else-eq
returns-else-eq g c =
    carried.faulty c.in-Err.fault (refused_faulty _ c.args.field.now c.in-Err.fault (search rules) c.in-Err.ensures) c.new.ensures
