-- The calls of the service are those of the connection's advance.
use Rattle.xp_console.proofs.client.Client.step.Goals as goal

pub returns-clause-answered : goal.returns-clause-answered
returns-clause-answered g c = record { calls = c.advance.ensures.calls.0; chain = c.advance.ensures.calls.2 }
