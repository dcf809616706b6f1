use Rattle.xp_trace.proofs.Parting.{parted_once}
use Rattle.xp_trace.proofs.names.parted_at_comma.Goals as goal

pub returns : goal.returns
returns c = parted_once c.args.text.now c.split_once.result c.split_once.ensures.cases
