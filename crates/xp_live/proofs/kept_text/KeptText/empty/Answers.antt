use Rattle.std.proofs.Common.{[], inl, refl}
use Rattle.xp_live.proofs.kept_text.KeptText.empty.Goals as goal

pub invariant_of-result : goal.invariant_of-result
invariant_of-result c = record { run = c.args.run.now; calls = []; are = inl refl; text_is = c.in_ok-octets.ensures }
