use Rattle.xp_script.proofs.ListLemmas.{same_kept, still_kept}
use Rattle.xp_script.proofs.entry.push_records.Goals as goal

pub returns-in_err-write-clause-kept : goal.returns-in_err-write-clause-kept
returns-in_err-write-clause-kept g c = still_kept _ _ _ _ c.loop-record.invariant (same_kept _ _ c.in_err-write.ensures.err)
