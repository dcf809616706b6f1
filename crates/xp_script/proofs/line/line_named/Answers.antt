use Rattle.std.proofs.Common.{sym}
use Rattle.xp_script.proofs.NameLemmas.{line_named_of-no_text}
use Rattle.xp_script.proofs.line.line_named.Goals as goal

pub returns-in-Err-clause-found : goal.returns-in-Err-clause-found
returns-in-Err-clause-found c = sym (line_named_of-no_text c.args.subs.now c.args.name.now c.counts.ensures.sound c.in-Err.ensures.cases.0)
