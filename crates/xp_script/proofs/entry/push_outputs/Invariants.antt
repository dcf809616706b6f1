use Rattle.std.proofs.Common.{◌≡◌, ◌++◌, flat_map, take}
use Rattle.xp_script.specs.Text.{output_text}
use Rattle.xp_script.proofs.entry.push_outputs.Given as goal

abbrev pub invariant-loop-output : goal.invariant-loop-output
invariant-loop-output g l = l.text.items ≡ l.initial.text.items ++ flat_map (output_text l.subs) (take l.output-index l.outputs)
