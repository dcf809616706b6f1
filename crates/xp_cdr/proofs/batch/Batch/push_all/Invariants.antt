use Rattle.std.proofs.Common.{◌≡◌, take}
use Rattle.xp_cdr.specs.Details.{detail_text}
use Rattle.xp_cdr.specs.steps.Batch.{with_texts}
use Rattle.xp_cdr.proofs.batch.Batch.push_all.Given as goal

abbrev pub invariant-loop-call : goal.invariant-loop-call
invariant-loop-call g l = l.self ≡ with_texts g.F.RecordFile.part_of (detail_text l.run) l.fn.self (take l.call-index l.calls)
