use Rattle.xp_summary.proofs.SelectionLemmas.{SoFar}
use Rattle.xp_summary.proofs.station_warnings.needs_selection.Given as goal

abbrev pub invariant-loop-called : goal.invariant-loop-called
invariant-loop-called l = SoFar l.subs l.caller l.called l.selects
