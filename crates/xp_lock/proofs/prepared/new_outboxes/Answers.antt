use Rattle.std.proofs.Common.{◌+◌, [], ◌∷◌, ◌++◌, subst, sym}
use Rattle.xp_lock.specs.steps.Opening.{AreNew}
use Rattle.xp_lock.proofs.Opened.{new_push}
use Rattle.xp_lock.proofs.prepared.new_outboxes.Goals as goal

pub loop-line-preserved : goal.loop-line-preserved
loop-line-preserved g c =
    let line = c.loop-line._line in
    let made = c.in_ok-put in
    let new = new_push line c.loop-line.outboxes.items c.loop-line.ends.items made.put made.taken c.loop-line.invariant made.ensures.one.0 made.ensures.free.0 made.ensures.empty.0 (made.ensures.empty.1, made.ensures.empty.2) in
    subst (λ ends. AreNew (line + 1) c.push.new.self.items ends) (sym c.in_ok-push-2.ensures.items)
    (subst (λ outboxes. AreNew (line + 1) outboxes (c.loop-line.ends.items ++ made.taken ∷ [])) (sym c.in_ok-push.ensures.items) new)
