use Rattle.std.proofs.Common.{None, Some, ap, inl, inr, refl}
use Rattle.std.proofs.lemmas.Result.{err_from_is_err_and}
use Rattle.xp_subs.specs.Tables.{modulus_of}
use Rattle.xp_lines.specs.Turns.{seen_on}
use Rattle.xp_lines.proofs.Worked.{both_ways, hears_both, hears_over, works_heard, works_silent}
use Rattle.xp_lines.proofs.turning.write_and_read.Goals as goal

pub returns-then-halted-clause-works : goal.returns-then-halted-clause-works
returns-then-halted-clause-works g c =
    let wrote = c.write_out-written.ensures in
    works_silent _ _ _ _ _ _ _ _ _ wrote.writes wrote.pulled wrote.kept.2 refl (λ is. both_ways _ refl is)

pub returns-in_err-more-clause-works : goal.returns-in_err-more-clause-works
returns-in_err-more-clause-works g c =
    let wrote = c.in_err-more.ensures in
    let p = err_from_is_err_and c.from_residual.result c.from_residual.ensures.1 in
    let over = Some c.in_err-more.field-0.0 in
    rw (p.1, p.2) (works_silent _ _ _ _ _ _ _ over over wrote.writes wrote.pulled wrote.kept.2 refl (λ is. is))

-- the reading ended the turn
pub returns-in_err-moved-clause-works : goal.returns-in_err-moved-clause-works
returns-in_err-moved-clause-works g c =
    let wrote = c.in_ok-more.ensures in
    let read = c.in_err-moved.ensures in
    let p = err_from_is_err_and c.from_residual-in_err-moved.result c.from_residual-in_err-moved.ensures.1 in
    rw (p.1, p.2)
    (works_heard _ _ _ _ _ _ _ (seen_on g.L.Link.pushed g.L.Link.pulled c.write_out-written.new.self).1 None _ _ _ wrote.writes refl wrote.pulled wrote.kept.2
    (ap (modulus_of g.N.Name.subs) wrote.writes.1.took.line) (hears_over _ _ _ _ _ _ _ _ _ _ _ read.reads.0 read.reads.1 read.reads.2 read.reads.3 read.reads.4) read.pushed
    (ap (λ u. u.items) read.kept.2))

-- the expiry was refused
pub returns-in_err-late-clause-works : goal.returns-in_err-late-clause-works
returns-in_err-late-clause-works g c =
    let wrote = c.in_ok-more.ensures in
    let read = c.in_ok-moved.ensures in
    let late = c.in_err-late.ensures in
    let p = err_from_is_err_and c.from_residual-in_err-late.result c.from_residual-in_err-late.ensures.1 in
    rw (p.1, p.2)
    (works_heard _ _ _ _ _ _ _ (seen_on g.L.Link.pushed g.L.Link.pulled c.write_out-written.new.self).1 None _ _ _ wrote.writes refl wrote.pulled wrote.kept.2
    (ap (modulus_of g.N.Name.subs) wrote.writes.1.took.line)
    (hears_both _ _ _ _ _ _ _ _ _ _ _ _ _ read.reads.0 read.reads.1 read.reads.2 read.reads.3 read.reads.4 (read.reads.5 refl) late.lapses late.ends) read.pushed
    (ap (λ u. u.items) read.kept.2))

pub returns-clause-works : goal.returns-clause-works
returns-clause-works g c =
    let wrote = c.in_ok-more.ensures in
    let read = c.in_ok-moved.ensures in
    let late = c.in_ok-late.ensures in
    works_heard _ _ _ _ _ _ _ (seen_on g.L.Link.pushed g.L.Link.pulled c.write_out-written.new.self).1 None _ _ _ wrote.writes refl wrote.pulled wrote.kept.2
    (ap (modulus_of g.N.Name.subs) wrote.writes.1.took.line)
    (hears_both _ _ _ _ _ _ _ _ _ _ _ _ _ read.reads.0 read.reads.1 read.reads.2 read.reads.3 read.reads.4 (read.reads.5 refl) late.lapses late.ends) read.pushed
    (ap (λ u. u.items) read.kept.2)

pub returns-then-halted-clause-gone : goal.returns-then-halted-clause-gone
returns-then-halted-clause-gone g c = λ _. inl c.write_out-written.ensures.kept.2

pub returns-in_err-more-clause-gone : goal.returns-in_err-more-clause-gone
returns-in_err-more-clause-gone g c = λ _. inl c.write_out-written.ensures.kept.2

pub returns-in_err-moved-clause-gone : goal.returns-in_err-moved-clause-gone
returns-in_err-moved-clause-gone g c =
    let p = err_from_is_err_and c.from_residual-in_err-moved.result c.from_residual-in_err-moved.ensures.1 in
    rw (p.1, p.2) (λ is. inr (c.in_err-moved.ensures.left is))

pub returns-in_err-late-clause-gone : goal.returns-in_err-late-clause-gone
returns-in_err-late-clause-gone g c = λ _. inr (c.in_ok-moved.ensures.left refl)

pub returns-clause-gone : goal.returns-clause-gone
returns-clause-gone g c = λ _. inr (c.in_ok-moved.ensures.left refl)
