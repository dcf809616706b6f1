use Rattle.std.proofs.Common.{refl}
use Rattle.xp_cdr.proofs.TextLemmas.{between}
use Rattle.xp_cdr.proofs.flushing.put_until.Goals as goal

pub put_on_disk-taken-requires : goal.put_on_disk-taken-requires
put_on_disk-taken-requires g c =
    rw (between c.args.octets.now c.args.progress.now.octets c.args.end.octets c.requires.within) c.requires.at

pub returns-in-Ok-clause-put : goal.returns-in-Ok-clause-put
returns-in-Ok-clause-put g c =
    let put = rw (c.in-Ok.is, between c.args.octets.now c.args.progress.now.octets c.args.end.octets c.requires.within) at c.put_on_disk-taken.ensures.put in
    (put.0, put.1, rw put.2 refl)

pub returns-in-Err-clause-put : goal.returns-in-Err-clause-put
returns-in-Err-clause-put g c =
    let put = rw (c.in-Err.is, between c.args.octets.now c.args.progress.now.octets c.args.end.octets c.requires.within) at c.put_on_disk-taken.ensures.put in
    (put.0, put.1, refl)
