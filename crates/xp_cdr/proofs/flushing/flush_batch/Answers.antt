use Rattle.std.proofs.Common.{MatchResult, subst, ◌+◌, ◌≡◌, ◌∙◌}
use Rattle.xp_cdr.proofs.SentLemmas.{advances_on}
use Rattle.xp_cdr.proofs.flushing.flush_batch.Goals as goal

pub loop-cut-preserved : goal.loop-cut-preserved
loop-cut-preserved g c =
    let file = g.F.RecordFile in
    let kept = c.loop-cut.invariant in
    let passed = c.in_ok-pass_cut.ensures in
    record {
      sent = passed.sent;
      advances =
          advances_on c.args.batch.now.octets (file.synced c.args.file.now) (file.synced c.loop-cut.file) (file.synced c.pass_cut.new.file)
          c.args.progress.now c.loop-cut.progress c.pass_cut.new.progress kept.advances passed.advances;
      failures = passed.failures ∙ kept.failures;
    }

pub returns-in_err-pass_cut-clause-advances : goal.returns-in_err-pass_cut-clause-advances
returns-in_err-pass_cut-clause-advances g c =
    let file = g.F.RecordFile in
    advances_on c.args.batch.now.octets (file.synced c.args.file.now) (file.synced c.loop-cut.file) (file.synced c.pass_cut.new.file)
    c.args.progress.now c.loop-cut.progress c.pass_cut.new.progress c.loop-cut.invariant.advances c.in_err-pass_cut.ensures.advances

pub returns-in_err-pass_cut-clause-sent : goal.returns-in_err-pass_cut-clause-sent
returns-in_err-pass_cut-clause-sent g c = c.in_err-pass_cut.ensures.sent

pub returns-clause-sent : goal.returns-clause-sent
returns-clause-sent g c = c.put_rest.ensures.sent

pub returns-clause-advances : goal.returns-clause-advances
returns-clause-advances g c =
    let file = g.F.RecordFile in
    advances_on c.args.batch.now.octets (file.synced c.args.file.now) (file.synced c.loop-cut.file) (file.synced c.put_rest.new.file)
    c.args.progress.now c.loop-cut.progress c.put_rest.new.progress c.loop-cut.invariant.advances c.put_rest.ensures.advances

pub returns-clause-whole : goal.returns-clause-whole
returns-clause-whole g c = c.put_rest.ensures.whole

pub returns-clause-failures : goal.returns-clause-failures
returns-clause-failures g c =
    let failures = g.F.RecordFile.failures in
    subst (λ n. MatchResult c.put_rest.result (λ _. failures c.put_rest.new.file ≡ n) (λ _. failures c.put_rest.new.file ≡ n + 1))
    c.loop-cut.invariant.failures c.put_rest.ensures.failures
