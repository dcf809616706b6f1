use Rattle.std.proofs.Common.{lit<, rules}
use Rattle.std.proofs.lemmas.Iterator.Consumers.{map_from_collect}
use Rattle.std.proofs.lemmas.Iterator.Splits.{YieldsList-from_str_split}
use Rattle.xp_explain.proofs.NameLemmas.{names_read}
use Rattle.xp_explain.proofs.names.names_in.Goals as goal

pub returns : goal.returns
returns c =
    names_read c.args.text.now c.collect.result (search rules)
    (map_from_collect _ c.collect.ensures.ran (YieldsList-from_str_split 44 c.args.text.now (lit< tt) c.split.ensures.text c.split.ensures.has_more c.split.ensures.pattern))
