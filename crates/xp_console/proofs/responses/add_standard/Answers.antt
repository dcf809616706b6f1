-- Four fields, one after another.
use Rattle.xp_console.proofs.Fields.{four_added}
use Rattle.xp_console.proofs.responses.add_standard.Goals as goal

pub returns : goal.returns
returns c = four_added c.add-4.result _ _ _ _ _ _ _ _ _ c.in_ok-add.ensures c.in_ok-add-2.ensures c.in_ok-add-3.ensures c.add-4.ensures
