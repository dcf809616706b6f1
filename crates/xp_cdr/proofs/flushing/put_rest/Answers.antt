use Rattle.std.proofs.Common.{refl, sym, ◌∙◌}
use Rattle.xp_cdr.specs.steps.Writer.{told_text}
use Rattle.xp_cdr.proofs.SentLemmas.{end_at_last, put_at, put_whole, same_sent, start_before}
use Rattle.xp_cdr.proofs.flushing.put_rest.Goals as goal

pub put_until-requires-clause-within : goal.put_until-requires-clause-within
put_until-requires-clause-within g c =
    let part_of = g.F.RecordFile.part_of in
    let text = told_text c.args.giving.now in
    let given = c.args.giving.now.given.items in
    let synced = g.F.RecordFile.synced c.args.file.now in
    let taken = g.F.RecordFile.taken c.args.file.now in
    let current = g.F.RecordFile.current c.args.file.now in
    let batch = c.args.batch.now in
    let progress = c.args.progress.now in
    start_before part_of text given synced taken current batch progress c.requires.sent c.end.result (end_at_last batch progress c.requires.none ∙ sym c.end.ensures)

pub returns-in-Ok-clause-sent : goal.returns-in-Ok-clause-sent
returns-in-Ok-clause-sent g c =
    let part_of = g.F.RecordFile.part_of in
    let text = told_text c.args.giving.now in
    let given = c.args.giving.now.given.items in
    let synced = g.F.RecordFile.synced c.args.file.now in
    let taken = g.F.RecordFile.taken c.args.file.now in
    let current = g.F.RecordFile.current c.args.file.now in
    let batch = c.args.batch.now in
    let progress = c.args.progress.now in
    let put = rw c.octets.ensures at c.in-Ok.ensures.put in
    let there = put_at part_of text given synced taken current batch progress c.requires.sent c.end.result (end_at_last batch progress c.requires.none ∙ sym c.end.ensures)
    (g.F.RecordFile.synced c.put_until.new.file) (g.F.RecordFile.taken c.put_until.new.file) c.put_until.new.progress put.0 put.1 put.2 in
    same_sent part_of text given (g.F.RecordFile.synced c.put_until.new.file) (g.F.RecordFile.taken c.put_until.new.file)
    (g.F.RecordFile.synced c.put_until.new.file) (g.F.RecordFile.taken c.put_until.new.file) current (g.F.RecordFile.current c.put_until.new.file) batch
    c.put_until.new.progress c.put_until.new.progress there refl refl c.in-Ok.ensures.current refl

pub returns-in-Ok-clause-whole : goal.returns-in-Ok-clause-whole
returns-in-Ok-clause-whole g c =
    let part_of = g.F.RecordFile.part_of in
    let text = told_text c.args.giving.now in
    let given = c.args.giving.now.given.items in
    let synced = g.F.RecordFile.synced c.args.file.now in
    let taken = g.F.RecordFile.taken c.args.file.now in
    let current = g.F.RecordFile.current c.args.file.now in
    let batch = c.args.batch.now in
    let progress = c.args.progress.now in
    let put = rw c.octets.ensures at c.in-Ok.ensures.put in
    put_whole part_of text given synced taken current batch progress c.requires.sent c.end.result (g.F.RecordFile.synced c.put_until.new.file)
    (g.F.RecordFile.taken c.put_until.new.file) c.put_until.new.progress (g.F.RecordFile.current c.put_until.new.file) c.requires.none c.end.ensures
    put.0 put.1 put.2 c.in-Ok.ensures.current
