use Rattle.std.proofs.Common.{◌≡◌, ◌∙◌, ap, subst, sym}
use Rattle.xp_subs.specs.Tables.{line_count}
use Rattle.xp_step.specs.Exchange.{Exchange}
use Rattle.xp_step.specs.InForce.{in_force}
use Rattle.xp_step.proofs.InForce.{run_frame}
use Rattle.xp_core.proofs.exchange.Core.going.Goals as goal

pub going-requires : goal.going-requires
going-requires g c =
    let inside = c.self.inside in
    let same = (run_frame inside.subs.opening inside.journal.history _ c.self.invariant.core.run).count in
    let P : Exchange _ → Type 0 = λ core. line_count (in_force core.subs core.history) ≡ line_count core.subs in
    c.requires ∙ sym (subst P c.self.view_is same) ∙ sym (ap line_count c.in_force.ensures)
