use Rattle.xp_tcp.proofs.Networks.{no_network}
use Rattle.xp_tcp.proofs.source.network_of.Goals as goal

pub returns-in_default-number_up_to-clause-none : goal.returns-in_default-number_up_to-clause-none
returns-in_default-number_up_to-clause-none c =
    no_network c.args.text.now c.cut_at_slash.result.0.now c.cut_at_slash.result.1.now c.in-Ok.address c.width.result c.number_up_to.result
    c.cut_at_slash.ensures.front c.cut_at_slash.ensures.rest c.in-Ok.ensures.value c.width.ensures c.number_up_to.ensures c.in_default-number_up_to.is
