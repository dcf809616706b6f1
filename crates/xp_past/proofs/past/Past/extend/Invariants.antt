use Rattle.std.proofs.Common.{◌≡◌, ◌++◌, take}
use Rattle.xp_past.proofs.past.Past.extend.Given as goal

abbrev pub invariant-loop-next : goal.invariant-loop-next
invariant-loop-next g l = l.self.items ≡ l.fn.self.items ++ take l.next-index l.more
