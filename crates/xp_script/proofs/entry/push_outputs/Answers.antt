use Rattle.std.proofs.Common.{◌∙◌}
use Rattle.xp_script.specs.Text.{output_text}
use Rattle.xp_script.proofs.ListLemmas.{still_kept, text-more}
use Rattle.xp_script.proofs.entry.push_outputs.Goals as goal

pub loop-output-preserved : goal.loop-output-preserved
loop-output-preserved g c =
    c.in_ok-push_output.ensures.ok
    ∙ text-more (output_text c.args.subs.now) c.args.outputs.now c.loop-output.output-index c.output-item.result c.args.text.now.items c.loop-output.text.items
    c.loop-output-test.true c.output-item.is c.loop-output.invariant

pub returns-in_err-push_output-clause-kept : goal.returns-in_err-push_output-clause-kept
returns-in_err-push_output-clause-kept g c = still_kept _ _ _ _ c.loop-output.invariant c.push_output.ensures.kept
