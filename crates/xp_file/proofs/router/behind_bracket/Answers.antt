use Rattle.std.proofs.Common.{arith}
use Rattle.std.proofs.lemmas.Str.Pattern.{strip_prefix_char}
use Rattle.xp_file.proofs.RouterLemmas.{behind_first}
use Rattle.xp_file.proofs.router.behind_bracket.Goals as goal

pub returns : goal.returns
returns c =
    behind_first 91 c.args.text.now c.strip_prefix.result
    (strip_prefix_char 91 c.args.text.now c.strip_prefix.result c.strip_prefix.ensures.cases (omega arith))
