-- The source has shown a status, and the response tells it.
use Rattle.std.proofs.Common.{inr}
use Rattle.xp_console.proofs.service.show.Goals as goal

pub returns-in-Ok : goal.returns-in-Ok
returns-in-Ok g c = inr (c.in-Ok.status, c.in-Ok.ensures.ok, c.tell.ensures)
