use Rattle.std.proofs.Common.{◌≡◌, drop}
use Rattle.xp_subs.specs.Passes.{all_differ, same_index}
use Rattle.xp_subs.proofs.indexes.indexes_differ.Given as goal

abbrev pub invariant-loop-place : goal.invariant-loop-place
invariant-loop-place l = all_differ same_index (drop l.place l.groups) ≡ all_differ same_index l.groups
