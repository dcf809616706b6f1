use Rattle.std.proofs.Common.{Some, ◌+◌, subst, sym, ◌∙◌}
use Rattle.std.proofs.lemmas.List.{take_rest}
use Rattle.xp_cdr.specs.Files.{HasFront}
use Rattle.xp_cdr.specs.steps.Writer.{IsAt}
use Rattle.xp_cdr.proofs.WriterLemmas.{front_at, front_left, more_taken, settled_taken, settled_within}
use Rattle.xp_cdr.proofs.disk.put_on_disk.Goals as goal

pub returns-in-Err-clause-put : goal.returns-in-Err-clause-put
returns-in-Err-clause-put g c =
    let same = c.settle.ensures.synced in
    let octets = c.args.octets.now in (
      same,
      subst (λ synced. HasFront synced octets (g.F.RecordFile.taken c.settle.new.file)) (sym same)
          (front_left _ octets _ _ (front_at _ octets _ c.args.taken c.requires) c.in-Err.ensures.err),
    )

pub returns-in_default-Err-clause-put : goal.returns-in_default-Err-clause-put
returns-in_default-Err-clause-put g c =
    let octets = c.args.octets.now in
    let start = c.in-Ok.start in
    let count = c.append_all.result.0 in
    let same = c.append_all.ensures.synced ∙ c.settle.ensures.synced in
    let bound = rw (take_rest octets start) at c.append_all.ensures.bound in
    let more = rw (take_rest octets start) at c.append_all.ensures.taken in
    let within = settled_within _ octets _ _ c.args.taken start c.requires c.in-Ok.ensures.ok in
    let had = settled_taken _ octets _ _ c.args.taken start c.requires c.in-Ok.ensures.ok in (
      same,
      subst (λ synced. IsAt synced octets (g.F.RecordFile.taken c.append_all.new.file) (Some (start + count))) (sym same)
          (more_taken _ octets _ _ start count within had bound more),
    )
