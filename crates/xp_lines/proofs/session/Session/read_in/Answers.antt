use Rattle.std.proofs.Common.{None, refl, subst, sym}
use Rattle.std.proofs.lemmas.Result.{err_from_is_err_and}
use Rattle.std.specs.Io.KnownBytes.{Appends}
use Rattle.xp_lines.proofs.Pulling.{reads_by}
use Rattle.xp_lines.proofs.session.Session.read_in.Goals as goal

pub returns-in_err-pulled-clause-reads : goal.returns-in_err-pulled-clause-reads
returns-in_err-pulled-clause-reads g c =
    let pulls = c.in_err-pulled.ensures.pulls in
    let told = c.in_ok-sent.ensures in
    let pulled = subst (λ link. Appends (g.L.Link.pulled c.args.self.now.link) (g.L.Link.pulled link) pulls.0) (sym told.kept.0) pulls.1 in
    let p = err_from_is_err_and c.from_residual-in_err-pulled.result c.from_residual-in_err-pulled.ensures.1 in
    rw (p.1, p.2)
    (pulls.0, pulled, told.offers.0, told.offers.1, reads_by _ _ _ _ None _ _ _ _ pulls.2 told.offers.2 told.octets.0 (λ _. (refl, refl)), λ _. told.offers.3 refl)

pub returns-clause-reads : goal.returns-clause-reads
returns-clause-reads g c =
    let pulls = c.in_ok-pulled.ensures.pulls in
    let told = c.in_ok-sent.ensures in
    let pulled = subst (λ link. Appends (g.L.Link.pulled c.args.self.now.link) (g.L.Link.pulled link) pulls.0) (sym told.kept.0) pulls.1 in
    (pulls.0, pulled, told.offers.0, told.offers.1, reads_by _ _ _ _ None _ _ _ _ pulls.2 told.offers.2 told.octets.0 (λ _. (refl, refl)), λ _. told.offers.3 refl)
