use Rattle.std.proofs.Common.{append-nil, drop, refl, sym, ◌∙◌}
use Rattle.xp_cdr.specs.steps.Writer.{told_text}
use Rattle.xp_cdr.proofs.LedgerLemmas.{is_unfinished, is_whole, whole_at_end}
use Rattle.xp_cdr.proofs.SentLemmas.{all_told, sent_anew}
use Rattle.xp_cdr.proofs.writer.DetailWriter.flush.Goals as goal

pub returns-in-Err-clause-flushes : goal.returns-in-Err-clause-flushes
returns-in-Err-clause-flushes g c =
    let file = c.self.inside.file in
    let part_of = g.F.RecordFile.part_of in
    let text = told_text c.self.inside.giving in
    let given = c.self.inside.giving.given.items in
    let synced = g.F.RecordFile.synced file in
    let taken = g.F.RecordFile.taken file in
    let current = g.F.RecordFile.current file in
    let batch = c.self.inside.batch in
    let progress = c.self.inside.progress in
    let now = c.flush_batch-flushed.new.file in
    let ensures = c.in-Err.ensures in
    rw (← c.self.view_is) (
      record {
        more = ensures.advances.more;
        waited = ensures.advances.rest_is;
        synced = ensures.advances.synced_is;
        run = refl;
        given = refl;
      },
      ensures.failures,
      is_unfinished part_of c.self.inside.giving.run given (g.F.RecordFile.synced now) (g.F.RecordFile.taken now)
          (g.F.RecordFile.current now) (g.F.RecordFile.failures now) batch c.flush_batch-flushed.new.progress ensures.sent,
    )

pub returns-in-Err-clause-whole : goal.returns-in-Err-clause-whole
returns-in-Err-clause-whole g c =
    let file = c.self.inside.file in
    let part_of = g.F.RecordFile.part_of in
    let text = told_text c.self.inside.giving in
    let given = c.self.inside.giving.given.items in
    let synced = g.F.RecordFile.synced file in
    let taken = g.F.RecordFile.taken file in
    let current = g.F.RecordFile.current file in
    let batch = c.self.inside.batch in
    let progress = c.self.inside.progress in
    let now = c.flush_batch-flushed.new.file in
    is_whole part_of c.self.inside.giving.run given (g.F.RecordFile.synced now) (g.F.RecordFile.taken now)
    (g.F.RecordFile.current now) (g.F.RecordFile.failures now) batch c.flush_batch-flushed.new.progress c.in-Err.ensures.sent

pub invariant_of-self : goal.invariant_of-self
invariant_of-self g c =
    let file = c.self.inside.file in
    let part_of = g.F.RecordFile.part_of in
    let text = told_text c.self.inside.giving in
    let given = c.self.inside.giving.given.items in
    let synced = g.F.RecordFile.synced file in
    let taken = g.F.RecordFile.taken file in
    let current = g.F.RecordFile.current file in
    let batch = c.self.inside.batch in
    let progress = c.self.inside.progress in
    let now = c.flush_batch-flushed.new.file in
    rw (c.clear.ensures, c.none-self-inside.ensures, c.part-part.ensures)
    (sent_anew part_of text given (g.F.RecordFile.synced now) (g.F.RecordFile.taken now) (g.F.RecordFile.current now) batch.part c.in-Ok.ensures.whole)

pub returns-in-Ok-clause-flushes : goal.returns-in-Ok-clause-flushes
returns-in-Ok-clause-flushes g c =
    let file = c.self.inside.file in
    let part_of = g.F.RecordFile.part_of in
    let text = told_text c.self.inside.giving in
    let given = c.self.inside.giving.given.items in
    let synced = g.F.RecordFile.synced file in
    let taken = g.F.RecordFile.taken file in
    let current = g.F.RecordFile.current file in
    let batch = c.self.inside.batch in
    let progress = c.self.inside.progress in
    let whole = c.in-Ok.ensures.whole in
    rw (← c.self.view_is, c.clear.ensures, c.none-self-inside.ensures) (
      record {
        more = drop progress.octets batch.octets;
        waited = sym (append-nil (drop progress.octets batch.octets));
        synced = whole.synced_is ∙ all_told part_of text given synced taken current batch progress c.self.invariant;
        run = refl;
        given = refl;
      },
      record { waiting = refl; taken = whole.taken_is ∙ whole.synced_is; synced = sym whole.taken_is },
      c.in-Ok.ensures.failures,
    )

pub returns-in-Ok-clause-whole : goal.returns-in-Ok-clause-whole
returns-in-Ok-clause-whole g c =
    let file = c.self.inside.file in
    let part_of = g.F.RecordFile.part_of in
    let text = told_text c.self.inside.giving in
    let given = c.self.inside.giving.given.items in
    let synced = g.F.RecordFile.synced file in
    let taken = g.F.RecordFile.taken file in
    let current = g.F.RecordFile.current file in
    let batch = c.self.inside.batch in
    let progress = c.self.inside.progress in
    let now = c.flush_batch-flushed.new.file in
    rw (c.clear.ensures, c.none-self-inside.ensures)
    (whole_at_end part_of c.self.inside.giving.run given (g.F.RecordFile.synced now) (g.F.RecordFile.taken now)
    (g.F.RecordFile.current now) (g.F.RecordFile.failures now) batch.part c.in-Ok.ensures.whole)
