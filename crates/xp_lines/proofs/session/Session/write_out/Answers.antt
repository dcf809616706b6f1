use Rattle.std.proofs.Common.{None, Some, refl, rules, subst}
use Rattle.std.proofs.lemmas.Result.{err_from_is_err_and}
use Rattle.xp_lines.specs.Flow.{Leaves}
use Rattle.xp_lines.specs.declared.over.Over.TheVariants.{Link}
use Rattle.xp_lines.proofs.Written.{written_by, written_first}
use Rattle.xp_lines.proofs.session.Session.write_out.Goals as goal

pub returns-in-Waits-clause-writes : goal.returns-in-Waits-clause-writes
returns-in-Waits-clause-writes g c = written_first _ _ _ _ _ _ _ _ _ None c.in-Waits.ensures.leaves

pub returns-in-Broken-clause-writes : goal.returns-in-Broken-clause-writes
returns-in-Broken-clause-writes g c = written_first _ _ _ _ _ _ _ _ _ (Some Link) c.in-Broken.ensures.leaves

pub returns-in_err-more-clause-writes : goal.returns-in_err-more-clause-writes
returns-in_err-more-clause-writes g c =
    let second = subst (λ link. Leaves (g.L.Link.pushed link) (g.L.Link.pushed c.push_rest-flow.new.link) c.take_out-taken.new.self.unwritten.items c.push_rest-flow.new.unwritten.items) c.take_out-taken.ensures.link c.push_rest-flow.ensures.leaves in
    let p = err_from_is_err_and c.from_residual.result c.from_residual.ensures.1 in
    let over = Some c.in_err-more.field-0.0 in
    rw (p.1, p.2)
    (written_by _ _ _ _ _ _ _ _ _ _ _ _ _ _ _ over over c.in-Free.ensures.leaves (c.in-Free.ensures.free refl) c.modulus-modulus.ensures c.in_err-more.ensures.taken second (λ is. is) (λ is. is))

pub returns-in-Free-flow : goal.returns-in-Free-flow
returns-in-Free-flow g c =
    let second = subst (λ link. Leaves (g.L.Link.pushed link) (g.L.Link.pushed c.push_rest-flow.new.link) c.take_out-taken.new.self.unwritten.items c.push_rest-flow.new.unwritten.items) c.take_out-taken.ensures.link c.push_rest-flow.ensures.leaves in
    record {
      writes = written_by _ _ _ _ _ _ _ _ _ _ _ _ _ _ _ None None c.in-Free.ensures.leaves (c.in-Free.ensures.free refl) c.modulus-modulus.ensures c.in_ok-more.ensures.taken second (λ is. is) (λ is. is);
      pulled = search rules;
      kept = search rules;
    }

pub returns-in-Broken-flow-clause-writes : goal.returns-in-Broken-flow-clause-writes
returns-in-Broken-flow-clause-writes g c =
    let second = subst (λ link. Leaves (g.L.Link.pushed link) (g.L.Link.pushed c.push_rest-flow.new.link) c.take_out-taken.new.self.unwritten.items c.push_rest-flow.new.unwritten.items) c.take_out-taken.ensures.link c.push_rest-flow.ensures.leaves in
    written_by _ _ _ _ _ _ _ _ _ _ _ _ _ _ _ None (Some Link) c.in-Free.ensures.leaves (c.in-Free.ensures.free refl) c.modulus-modulus.ensures c.in_ok-more.ensures.taken second (λ _. refl) (λ _. refl)
