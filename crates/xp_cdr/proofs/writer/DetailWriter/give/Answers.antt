use Rattle.std.proofs.Common.{refl}
use Rattle.xp_cdr.specs.steps.Writer.{told_text}
use Rattle.xp_cdr.proofs.GivenLemmas.{given_more, waits_more}
use Rattle.xp_cdr.proofs.SentLemmas.{start_within}
use Rattle.xp_cdr.proofs.writer.DetailWriter.give.Goals as goal

pub invariant_of-self : goal.invariant_of-self
invariant_of-self g c = rw c.in_err-push_all.ensures.err c.self.invariant

pub invariant_of-self-2 : goal.invariant_of-self-2
invariant_of-self-2 g c =
    let file = c.self.inside.file in
    let part_of = g.F.RecordFile.part_of in
    let text = told_text c.self.inside.giving in
    let given = c.self.inside.giving.given.items in
    let synced = g.F.RecordFile.synced file in
    let taken = g.F.RecordFile.taken file in
    let current = g.F.RecordFile.current file in
    let batch = c.self.inside.batch in
    let progress = c.self.inside.progress in
    let calls = c.args.calls.now in
    let pushed = c.in_ok-push_all.ensures.ok in
    rw (c.extend.ensures, pushed) (given_more part_of text given calls synced taken current batch progress c.self.invariant)

pub returns-clause-ok : goal.returns-clause-ok
returns-clause-ok g c =
    let file = c.self.inside.file in
    let part_of = g.F.RecordFile.part_of in
    let text = told_text c.self.inside.giving in
    let given = c.self.inside.giving.given.items in
    let synced = g.F.RecordFile.synced file in
    let taken = g.F.RecordFile.taken file in
    let current = g.F.RecordFile.current file in
    let batch = c.self.inside.batch in
    let progress = c.self.inside.progress in
    let calls = c.args.calls.now in
    let pushed = c.in_ok-push_all.ensures.ok in
    rw (
      ← c.self.view_is,
      c.extend.ensures,
      pushed,
      waits_more part_of text batch progress.octets calls (start_within part_of text given synced taken current batch progress c.self.invariant),
    ) refl
