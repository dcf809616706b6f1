use Rattle.std.proofs.Common.{ap, drop, subst, ◌∙◌}
use Rattle.xp_cdr.specs.Ledger.{IsUnfinished, IsWhole, Ledger}
use Rattle.xp_cdr.specs.steps.Writer.{told_text}
use Rattle.xp_cdr.proofs.LedgerLemmas.{is_unfinished, is_whole}
use Rattle.xp_cdr.proofs.SentLemmas.{start_within}
use Rattle.xp_cdr.proofs.writer.DetailWriter.unfinished_lines.Goals as goal

pub octets_behind-requires : goal.octets_behind-requires
octets_behind-requires g c =
    let file = c.self.inside.file in
    let part_of = g.F.RecordFile.part_of in
    let text = told_text c.self.inside.giving in
    let given = c.self.inside.giving.given.items in
    let synced = g.F.RecordFile.synced file in
    let taken = g.F.RecordFile.taken file in
    let current = g.F.RecordFile.current file in
    let batch = c.self.inside.batch in
    let progress = c.self.inside.progress in
    rw c.octets.ensures (start_within part_of text given synced taken current batch progress c.self.invariant)

pub returns-clause-lines : goal.returns-clause-lines
returns-clause-lines g c =
    let file = c.self.inside.file in
    let part_of = g.F.RecordFile.part_of in
    let text = told_text c.self.inside.giving in
    let given = c.self.inside.giving.given.items in
    let synced = g.F.RecordFile.synced file in
    let taken = g.F.RecordFile.taken file in
    let current = g.F.RecordFile.current file in
    let batch = c.self.inside.batch in
    let progress = c.self.inside.progress in
    let same = c.octets_behind.ensures ∙ ap (drop progress.octets) c.octets.ensures in
    rw same
    (subst (λ (ledger : Ledger). IsUnfinished ledger (drop progress.octets batch.octets)) c.self.view_is
    (is_unfinished part_of c.self.inside.giving.run given synced taken current (g.F.RecordFile.failures file) batch progress c.self.invariant))

pub returns-clause-whole : goal.returns-clause-whole
returns-clause-whole g c =
    let file = c.self.inside.file in
    let part_of = g.F.RecordFile.part_of in
    let text = told_text c.self.inside.giving in
    let given = c.self.inside.giving.given.items in
    let synced = g.F.RecordFile.synced file in
    let taken = g.F.RecordFile.taken file in
    let current = g.F.RecordFile.current file in
    let batch = c.self.inside.batch in
    let progress = c.self.inside.progress in
    subst IsWhole c.self.view_is
    (is_whole part_of c.self.inside.giving.run given synced taken current (g.F.RecordFile.failures file) batch progress c.self.invariant)
