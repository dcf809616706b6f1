use Rattle.std.specs.Prelude.{map}
use Rattle.xp_observer.specs.Shown.{names_in}
use Rattle.xp_observer.specs.steps.Shown.{AreShownSoFar}
use Rattle.xp_observer.proofs.observer.line_statuses.Given as goal

abbrev pub invariant-loop-place : goal.invariant-loop-place
invariant-loop-place l = AreShownSoFar (map names_in l.lines) l.view.lines.items l.place l.statuses.items
