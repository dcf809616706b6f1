use Rattle.std.proofs.Common.{subst, sym}
use Rattle.xp_cdr.specs.Files.{HasFront}
use Rattle.xp_cdr.proofs.WriterLemmas.{front_of_all}
use Rattle.xp_cdr.proofs.disk.sync_all.Goals as goal

pub returns-in-Err-clause-put : goal.returns-in-Err-clause-put
returns-in-Err-clause-put g c =
    let same = c.in-Err.ensures.err in (
      same,
      subst (λ synced. HasFront synced c.args.octets.now (g.F.RecordFile.taken c.sync.new.self)) (sym same)
          (front_of_all _ c.args.octets.now _ _ c.requires c.in-Err.ensures.lost),
    )
