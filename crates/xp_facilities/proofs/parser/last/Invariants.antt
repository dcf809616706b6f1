use Rattle.std.proofs.Common.{◌≡◌, length}
use Rattle.std.specs.Prelude.{option_copied}
use Rattle.xp_facilities.specs.Requested.{last_of, before_marker}
use Rattle.xp_facilities.proofs.Asking.{later}
use Rattle.xp_facilities.proofs.parser.last.Given as goal

abbrev pub invariant-loop-item : goal.invariant-loop-item
invariant-loop-item l = later (last_of l.wanted (before_marker l.left)) (option_copied l.found) ≡ last_of l.wanted (before_marker l.items)

abbrev pub decreases-loop-item : goal.decreases-loop-item
decreases-loop-item l = length l.left
