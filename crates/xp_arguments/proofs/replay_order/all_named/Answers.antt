use Rattle.xp_arguments.proofs.NamedLemmas.{no_name, one_more}
use Rattle.xp_arguments.proofs.replay_order.all_named.Goals as goal

pub returns-in-None-clause-none : goal.returns-in-None-clause-none
returns-in-None-clause-none c =
    λ tables are. no_name c.args.texts.now c.loop-text.text-index _ tables c.loop-text-test.true (rw c.in-None.is at c.named_path.ensures) are

pub loop-text-preserved : goal.loop-text-preserved
loop-text-preserved c =
    rw c.in_ok-push-in-Some.ensures.items
    (one_more c.args.texts.now c.loop-text.tables.items c.in-Some.named c.loop-text.text-index _ c.loop-text-test.true c.loop-text.invariant (c.in-Some.ensures))
