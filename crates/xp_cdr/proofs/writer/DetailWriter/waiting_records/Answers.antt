use Rattle.std.proofs.Common.{◌-◌, subst}
use Rattle.xp_cdr.specs.Ledger.{LacksLast, Ledger}
use Rattle.xp_cdr.specs.steps.Writer.{told_text}
use Rattle.xp_cdr.proofs.LedgerLemmas.{lacks_last}
use Rattle.xp_cdr.proofs.writer.DetailWriter.waiting_records.Goals as goal

pub returns : goal.returns
returns g c =
    let file = c.self.inside.file in
    let part_of = g.F.RecordFile.part_of in
    let text = told_text c.self.inside.giving in
    let given = c.self.inside.giving.given.items in
    let synced = g.F.RecordFile.synced file in
    let taken = g.F.RecordFile.taken file in
    let current = g.F.RecordFile.current file in
    let batch = c.self.inside.batch in
    let progress = c.self.inside.progress in
    rw c.count.ensures
    (subst (λ (ledger : Ledger). LacksLast ledger (batch.count - progress.records)) c.self.view_is
    (lacks_last part_of c.self.inside.giving.run given synced taken current (g.F.RecordFile.failures file) batch progress c.self.invariant))
