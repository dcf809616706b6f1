use Rattle.xp_changes.specs.Lines.{IsOnlyIn}
use Rattle.xp_changes.specs.Numbers.{AreAllOf}
use Rattle.xp_changes.proofs.listing.lines_only_in.Given as goal

abbrev pub invariant-loop-number : goal.invariant-loop-number
invariant-loop-number l = AreAllOf (IsOnlyIn l.subs l.others) l.number l.lines.items
