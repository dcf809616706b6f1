use Rattle.std.proofs.Common.{ap, arith, subst, ◌∙◌}
use Rattle.xp_machine.specs.Coupling.{AreCoupled}
use Rattle.xp_step.specs.Exchange.{Exchange, world_of}
use Rattle.xp_machine.specs.View.{view_of}
use Rattle.xp_machine.specs.World.{line_at}
use Rattle.xp_core.proofs.Fitting.{run_narrow}
use Rattle.xp_core.proofs.Sounds.{run_right}
use Rattle.xp_core.proofs.exchange.Core.line.Goals as goal

pub returns-clause-view : goal.returns-clause-view
returns-clause-view g c =
    c.view.ensures ∙ ap (λ l. view_of l c.flow.result) c.line.ensures.line
    ∙ ap (λ w. view_of (line_at w c.args.line) c.flow.result) (c.self.invariant.core.shown ∙ ap world_of c.self.view_is)
    ∙ ap (view_of (line_at (world_of c.args.self.now) c.args.line)) c.flow.ensures

pub returns-clause-identifier : goal.returns-clause-identifier
returns-clause-identifier g c =
    let shown = ap (λ v. v.identifier) (c.view.ensures ∙ ap (λ l. view_of l c.flow.result) c.line.ensures.line ∙ ap (λ w. view_of (line_at w c.args.line) c.flow.result) c.self.invariant.core.shown) in
    let narrow = run_narrow c.self.inside.subs.opening c.self.inside.journal.history _ c.self.invariant.core.sound c.self.invariant.core.run c.self.invariant.core.readable c.args.line in
    omega (arith, shown, narrow)

pub returns-clause-coupled : goal.returns-clause-coupled
returns-clause-coupled g c =
    let P : Exchange _ → Type 0 = λ core. AreCoupled core.subs (world_of core) in
    subst P c.self.view_is (run_right c.self.inside.subs.opening c.self.inside.journal.history _ c.self.invariant.core.run).coupled
