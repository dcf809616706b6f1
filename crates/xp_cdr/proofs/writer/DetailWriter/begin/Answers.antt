use Rattle.std.proofs.Common.{arith}
use Rattle.xp_cdr.specs.steps.Writer.{told_text}
use Rattle.xp_cdr.proofs.SentLemmas.{begun_idle, sent_anew}
use Rattle.xp_cdr.proofs.writer.DetailWriter.begin.Goals as goal

pub invariant_of-self-2 : goal.invariant_of-self-2
invariant_of-self-2 g c =
    let file = c.self.inside.file in
    let part_of = g.F.RecordFile.part_of in
    let text = told_text c.self.inside.giving in
    let given = c.self.inside.giving.given.items in
    let synced = g.F.RecordFile.synced file in
    let taken = g.F.RecordFile.taken file in
    let current = g.F.RecordFile.current file in
    let batch = c.self.inside.batch in
    let progress = c.self.inside.progress in
    let now = c.begin.new.self in
    let whole = begun_idle part_of text given synced taken current batch progress c.self.invariant (omega (arith, c.if-count-gt0.false, c.count.ensures)) c.args.part
    (g.F.RecordFile.current now) (g.F.RecordFile.synced now) (g.F.RecordFile.taken now) (omega (arith, c.if-part-open_part.false, c.open_part.ensures))
    c.in_ok-begin.ensures.current c.in_ok-begin.ensures.synced c.in_ok-begin.ensures.taken in
    rw (c.clear.ensures, c.none-self-inside.ensures)
    (sent_anew part_of text given (g.F.RecordFile.synced now) (g.F.RecordFile.taken now) (g.F.RecordFile.current now) c.args.part whole)
