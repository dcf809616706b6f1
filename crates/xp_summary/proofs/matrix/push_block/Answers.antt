use Rattle.std.proofs.Common.{arith}
use Rattle.xp_summary.proofs.matrix.push_block.Goals as goal

pub push_heading-requires-clause-past : goal.push_heading-requires-clause-past
push_heading-requires-clause-past c = omega (arith, c.requires.past, c.counts-stations.ensures.sound.few_stations)
