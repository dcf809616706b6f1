use Rattle.std.proofs.Common.{ap, ◌∙◌}
use Rattle.xp_cdr.proofs.FileLemmas.{loses_all}
use Rattle.xp_cdr.proofs.file.DetailFileRecordFile.cut_back.Goals as goal

pub returns-in-Err-clause-lost : goal.returns-in-Err-clause-lost
returns-in-Err-clause-lost g c =
    loses_all _ _ _ c.args.self.now.front (ap (λ taken. taken.items) c.failed.ensures.taken ∙ c.forget.ensures.taken)
