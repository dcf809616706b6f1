use Rattle.xp_summary.proofs.Unchanged.{decided_alike}
use Rattle.xp_summary.proofs.reach.calls_without_redirection_are_decided_alike.Goals as goal

pub returns : goal.returns
returns c = decided_alike
