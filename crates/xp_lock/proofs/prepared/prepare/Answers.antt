use Rattle.std.proofs.Common.{ap, rules, subst, sym, ◌≡◌, ◌∙◌, ◌≤◌}
use Rattle.std.specs.Prelude.{replicate}
use Rattle.xp_subs.specs.Bounds.{most_lines}
use Rattle.xp_subs.specs.Tables.{line_count}
use Rattle.xp_lock.specs.steps.Opening.{AreNew}
use Rattle.xp_lock.proofs.Opened.{new_kept}
use Rattle.xp_lock.proofs.prepared.prepare.Goals as goal

pub invariant_of-result : goal.invariant_of-result
invariant_of-result g c =
    let subs = ap (λ e. e.subs) c.in_ok-core.ensures in
    let lines = c.counts-lines.ensures.lines ∙ ap line_count (sym subs) in
    let zeros : c.in_ok-taken.taken.items ≡ replicate c.counts-lines.result.lines 0 = search rules in
    let outboxes = c.in_ok-outboxes.outboxes.items in
    let ends = c.in_ok-outboxes.ends.items in
    let new = subst (λ n. AreNew n outboxes ends) lines c.in_ok-outboxes.ensures in (
      ap (λ e. e.history) c.in_ok-core.ensures,
      ap (λ e. e.given) c.in_ok-core.ensures,
      c.in_ok-seats.ensures,
      new_kept _ outboxes ends new,
      new.queues,
      new.unused,
      lines,
      subst (λ t. line_count t ≤ most_lines) (sym subs) c.counts-lines.ensures.sound.few_lines,
      new.end_count,
      zeros ∙ ap (λ n. replicate n 0) lines,
    )
