use Rattle.std.proofs.Common.{◌≡◌, subst}
use Rattle.xp_lines.specs.declared.line.EndReason.TheVariants.{Memory, Stopped}
use Rattle.xp_lines.proofs.Serving.{ends_stopped, so_otherwise}
use Rattle.xp_lines.specs.steps.Serving.{IsLineSo}
use Rattle.xp_lines.proofs.served_line.why_of.Goals as goal

owed_only : Memory ≡ Stopped → ⊥
owed_only same = cc

pub returns-in-Open : goal.returns-in-Open
returns-in-Open g c = λ subs first pass so. so_otherwise subs g.L.Link.pushed g.L.Link.pulled first c.args.state pass Memory owed_only so

pub returns-in-Stopped : goal.returns-in-Stopped
returns-in-Stopped g c = λ subs first pass so.
    ends_stopped subs g.L.Link.pushed g.L.Link.pulled first c.in-Stopped.field-0 pass
    (subst (λ state. IsLineSo subs g.L.Link.pushed g.L.Link.pulled first state pass) c.in-Stopped.is so)
