use Rattle.std.proofs.Common.{ap, drop, take, ◌∙◌}
use Rattle.std.proofs.lemmas.List.{take_rest}
use Rattle.xp_live.proofs.LeftLemmas.{drops_is, front_is}
use Rattle.xp_live.proofs.left_calls.cut.Goals as goal

pub returns-clause-front : goal.returns-clause-front
returns-clause-front c = ap (λ end. take end c.args.text.now) c.end_of-end.ensures.end ∙ front_is c.args.octet c.args.text.now

pub returns-clause-behind : goal.returns-clause-behind
returns-clause-behind c =
    take_rest c.args.text.now c.end_of-end.result ∙ ap (λ end. drop end c.args.text.now) c.end_of-end.ensures.end ∙ drops_is c.args.octet c.args.text.now
