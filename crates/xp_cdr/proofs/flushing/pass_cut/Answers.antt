use Rattle.std.proofs.Common.{◌+◌, ap, arith, drop, refl, ◌∙◌}
use Rattle.xp_cdr.specs.declared.progress.Progress.{Progress}
use Rattle.xp_cdr.specs.steps.Writer.{told_text}
use Rattle.xp_cdr.proofs.SentLemmas.{advances_to, end_at_cut, end_before, passed_cut, put_at, same_sent, start_before}
use Rattle.xp_cdr.proofs.flushing.pass_cut.Goals as goal

pub put_until-requires-clause-within : goal.put_until-requires-clause-within
put_until-requires-clause-within g c =
    let part_of = g.F.RecordFile.part_of in
    let text = told_text c.args.giving.now in
    let given = c.args.giving.now.given.items in
    let synced = g.F.RecordFile.synced c.args.file.now in
    let taken = g.F.RecordFile.taken c.args.file.now in
    let current = g.F.RecordFile.current c.args.file.now in
    let batch = c.args.batch.now in
    let progress = c.args.progress.now in
    start_before part_of text given synced taken current batch progress c.requires.sent c.args.cut
    (end_at_cut batch progress c.args.cut (drop (progress.cuts + 1) batch.cuts) c.requires.cut)

pub put_until-requires-clause-end : goal.put_until-requires-clause-end
put_until-requires-clause-end g c =
    let part_of = g.F.RecordFile.part_of in
    let text = told_text c.args.giving.now in
    let given = c.args.giving.now.given.items in
    let synced = g.F.RecordFile.synced c.args.file.now in
    let taken = g.F.RecordFile.taken c.args.file.now in
    let current = g.F.RecordFile.current c.args.file.now in
    let batch = c.args.batch.now in
    let progress = c.args.progress.now in
    rw c.octets.ensures
    (end_before part_of text given synced taken current batch progress c.requires.sent c.args.cut
    (end_at_cut batch progress c.args.cut (drop (progress.cuts + 1) batch.cuts) c.requires.cut))

pub overflow_add-progress : goal.overflow_add-progress
overflow_add-progress g c =
    let same = ap (λ (progress : Progress). progress.cuts) c.in-Ok.ensures.put.2 in
    omega (arith, same, c.requires.fits)

pub returns-in-Ok-begin-clause-sent : goal.returns-in-Ok-begin-clause-sent
returns-in-Ok-begin-clause-sent g c =
    let part_of = g.F.RecordFile.part_of in
    let text = told_text c.args.giving.now in
    let given = c.args.giving.now.given.items in
    let synced = g.F.RecordFile.synced c.args.file.now in
    let taken = g.F.RecordFile.taken c.args.file.now in
    let current = g.F.RecordFile.current c.args.file.now in
    let batch = c.args.batch.now in
    let progress = c.args.progress.now in
    let put = rw c.octets.ensures at c.in-Ok.ensures.put in
    passed_cut part_of text given synced taken current batch progress c.requires.sent c.args.cut (g.F.RecordFile.synced c.put_until.new.file) (g.F.RecordFile.taken c.put_until.new.file)
    (g.F.RecordFile.synced c.begin.new.self) (g.F.RecordFile.taken c.begin.new.self) c.put_until.new.progress (g.F.RecordFile.current c.begin.new.self)
    c.requires.cut c.requires.within put.0 put.1 put.2 c.in-Ok-begin.ensures.synced c.in-Ok-begin.ensures.taken c.in-Ok-begin.ensures.current

pub returns-in-Ok-begin-clause-advances : goal.returns-in-Ok-begin-clause-advances
returns-in-Ok-begin-clause-advances g c =
    let part_of = g.F.RecordFile.part_of in
    let text = told_text c.args.giving.now in
    let given = c.args.giving.now.given.items in
    let synced = g.F.RecordFile.synced c.args.file.now in
    let taken = g.F.RecordFile.taken c.args.file.now in
    let current = g.F.RecordFile.current c.args.file.now in
    let batch = c.args.batch.now in
    let progress = c.args.progress.now in
    let put = rw c.octets.ensures at c.in-Ok.ensures.put in
    let after = c.put_until.new.progress in
    advances_to part_of text given synced taken current batch progress c.requires.sent c.args.cut
    (end_at_cut batch progress c.args.cut (drop (progress.cuts + 1) batch.cuts) c.requires.cut)
    (g.F.RecordFile.synced c.put_until.new.file) (g.F.RecordFile.synced c.begin.new.self) (record after { cuts = after.cuts + 1 })
    put.0 c.in-Ok-begin.ensures.synced (ap (λ (progress : Progress). progress.octets) put.2)

pub returns-in-Err-begin-clause-sent : goal.returns-in-Err-begin-clause-sent
returns-in-Err-begin-clause-sent g c =
    let part_of = g.F.RecordFile.part_of in
    let text = told_text c.args.giving.now in
    let given = c.args.giving.now.given.items in
    let synced = g.F.RecordFile.synced c.args.file.now in
    let taken = g.F.RecordFile.taken c.args.file.now in
    let current = g.F.RecordFile.current c.args.file.now in
    let batch = c.args.batch.now in
    let progress = c.args.progress.now in
    let put = rw c.octets.ensures at c.in-Ok.ensures.put in
    let there = put_at part_of text given synced taken current batch progress c.requires.sent c.args.cut
    (end_at_cut batch progress c.args.cut (drop (progress.cuts + 1) batch.cuts) c.requires.cut)
    (g.F.RecordFile.synced c.put_until.new.file) (g.F.RecordFile.taken c.put_until.new.file) c.put_until.new.progress put.0 put.1 put.2 in
    same_sent part_of text given (g.F.RecordFile.synced c.put_until.new.file) (g.F.RecordFile.taken c.put_until.new.file)
    (g.F.RecordFile.synced c.begin.new.self) (g.F.RecordFile.taken c.begin.new.self) current (g.F.RecordFile.current c.begin.new.self) batch
    c.put_until.new.progress c.put_until.new.progress there c.in-Err-begin.ensures.synced c.in-Err-begin.ensures.taken
    (c.in-Err-begin.ensures.current ∙ c.in-Ok.ensures.current) refl

pub returns-in-Err-begin-clause-advances : goal.returns-in-Err-begin-clause-advances
returns-in-Err-begin-clause-advances g c =
    let part_of = g.F.RecordFile.part_of in
    let text = told_text c.args.giving.now in
    let given = c.args.giving.now.given.items in
    let synced = g.F.RecordFile.synced c.args.file.now in
    let taken = g.F.RecordFile.taken c.args.file.now in
    let current = g.F.RecordFile.current c.args.file.now in
    let batch = c.args.batch.now in
    let progress = c.args.progress.now in
    let put = rw c.octets.ensures at c.in-Ok.ensures.put in
    advances_to part_of text given synced taken current batch progress c.requires.sent c.args.cut
    (end_at_cut batch progress c.args.cut (drop (progress.cuts + 1) batch.cuts) c.requires.cut)
    (g.F.RecordFile.synced c.put_until.new.file) (g.F.RecordFile.synced c.begin.new.self) c.put_until.new.progress
    put.0 c.in-Err-begin.ensures.synced (ap (λ (progress : Progress). progress.octets) put.2)
