use Rattle.std.proofs.Common.{rules}
use Rattle.xp_machine.proofs.Kept.{new_kept, new_keyed}
use Rattle.xp_machine.proofs.machine.Machine.new.Goals as goal

pub invariant_of-result : goal.invariant_of-result
invariant_of-result g c = new_keyed c.in_ok-lines.lines.items c.new.result c.args.lines (search rules) c.new.ensures.empty

pub returns : goal.returns
returns g c = new_kept c.in_ok-lines.lines.items c.new.result c.args.lines (search rules) c.new.ensures.empty
