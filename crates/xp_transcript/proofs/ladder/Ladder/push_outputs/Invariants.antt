use Rattle.std.proofs.Common.{◌≡◌, ◌++◌, drop}
use Rattle.xp_transcript.specs.Rows.{after_outputs, output_rows}
use Rattle.xp_transcript.proofs.ladder.Ladder.push_outputs.Given as goal

abbrev pub invariant-loop-output : goal.invariant-loop-output
invariant-loop-output l =
    (l.text.items ++ output_rows l.subs l.moment l.self (drop l.output-index l.outputs) ≡ l.fn.text.items ++ output_rows l.subs l.moment l.fn.self l.outputs)
    × (after_outputs l.self (drop l.output-index l.outputs) ≡ after_outputs l.fn.self l.outputs)
