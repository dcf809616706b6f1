use Rattle.std.proofs.Common.{◌≡◌, ◌+◌, ◌≤◌, length, map, take}
use Rattle.std.specs.Prelude.{vec_capacity, vec_len}
use Rattle.xp_serve.proofs.ends.end_reasons_of.Given as goal

abbrev pub invariant-loop-end : goal.invariant-loop-end
invariant-loop-end g l = record {
  room : vec_len l.end_reasons + length l.ends ≤ vec_capacity l.end_reasons + l.end-index;
  reasons : l.end_reasons.items ≡ map (λ end. end.why) (take l.end-index l.ends);
}
