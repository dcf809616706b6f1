use Rattle.std.proofs.Common.{◌≡◌, ◌++◌, flat_map, take}
use Rattle.xp_transcript.specs.Words.{output_words}
use Rattle.xp_transcript.proofs.entry_words.push_output_words.Given as goal

abbrev pub invariant-loop-output : goal.invariant-loop-output
invariant-loop-output l = l.text.items ≡ l.initial.text.items ++ flat_map (output_words l.subs l.moment) (take l.output-index l.outputs)
