use Rattle.std.proofs.Common.{arith}
use Rattle.xp_file.proofs.RouterLemmas.{parted_once}
use Rattle.xp_arguments.proofs.replay_order.parted.Goals as goal

pub returns : goal.returns
returns c = parted_once 61 c.args.text.now c.split_once.result c.split_once.ensures.cases (omega arith)
