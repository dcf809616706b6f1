use Rattle.std.proofs.Common.{◌≡◌, ◌≤◌, length}
use Rattle.xp_facilities.specs.Requested.{carried, dte_of}
use Rattle.xp_facilities.proofs.Asking.{keeps}
use Rattle.xp_facilities.proofs.parser.dte.Given as goal

abbrev pub invariant-loop-item : goal.invariant-loop-item
invariant-loop-item l = record {
  same : keeps l.kept.items (carried l.inside l.left) ≡ dte_of l.items;
  few : length l.kept.items ≤ 80;
}

abbrev pub decreases-loop-item : goal.decreases-loop-item
decreases-loop-item l = length l.left
