use Rattle.std.proofs.Common.{ap, length}
use Rattle.xp_live.proofs.LeftLemmas.{end_found, through_none}
use Rattle.xp_live.proofs.left_calls.end_of.Goals as goal

pub returns-in-Some-clause-end : goal.returns-in-Some-clause-end
returns-in-Some-clause-end c = end_found c.args.octet c.args.text.now c.in-Some.place c.in-Some.ensures

pub returns-in-None-clause-end : goal.returns-in-None-clause-end
returns-in-None-clause-end c = ap length (through_none c.args.octet c.args.text.now c.in-None.ensures)
