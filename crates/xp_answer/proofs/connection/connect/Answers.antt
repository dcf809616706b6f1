use Rattle.std.proofs.Common.{sym, subst}
use Rattle.xp_answer.proofs.Tellable.{connected_told}
use Rattle.xp_answer.specs.steps.Fields.{CanBeTold}
use Rattle.xp_answer.proofs.connection.connect.Goals as goal

pub field_of-requires : goal.field_of-requires
field_of-requires g c =
    subst CanBeTold (sym c.tell.ensures)
    (connected_told c.args.setup.now c.names-called.result.1 c.args.asked _ c.requires.terms c.requires.accepts.means)
