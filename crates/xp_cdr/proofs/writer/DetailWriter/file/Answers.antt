use Rattle.std.proofs.Common.{subst}
use Rattle.xp_cdr.specs.Details.{detail_text}
use Rattle.xp_cdr.specs.Ledger.{Ledger}
use Rattle.xp_cdr.specs.Parts.{AreFiled}
use Rattle.xp_cdr.specs.steps.Writer.{told_text}
use Rattle.xp_cdr.proofs.SentLemmas.{are_filed}
use Rattle.xp_cdr.proofs.writer.DetailWriter.file.Goals as goal

pub returns-clause-filed : goal.returns-clause-filed
returns-clause-filed g c =
    let file = c.self.inside.file in
    let part_of = g.F.RecordFile.part_of in
    let text = told_text c.self.inside.giving in
    let given = c.self.inside.giving.given.items in
    let synced = g.F.RecordFile.synced file in
    let taken = g.F.RecordFile.taken file in
    let current = g.F.RecordFile.current file in
    let batch = c.self.inside.batch in
    let progress = c.self.inside.progress in
    subst (λ (ledger : Ledger). AreFiled part_of (detail_text ledger.run) ledger.given current ledger.taken) c.self.view_is
    (are_filed part_of text given synced taken current batch progress c.self.invariant)
