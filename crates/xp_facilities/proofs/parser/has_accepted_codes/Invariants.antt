use Rattle.std.proofs.Common.{◌≡◌, length}
use Rattle.xp_facilities.specs.Requested.{has_accepted_codes}
use Rattle.xp_facilities.proofs.parser.has_accepted_codes.Given as goal

abbrev pub invariant-loop-item : goal.invariant-loop-item
invariant-loop-item l = has_accepted_codes l.left ≡ has_accepted_codes l.items

abbrev pub decreases-loop-item : goal.decreases-loop-item
decreases-loop-item l = length l.left
