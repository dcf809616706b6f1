use Rattle.std.proofs.Common.{◌≡◌}
use Rattle.xp_console.specs.Clients.{IsAnswered}
use Rattle.xp_console.proofs.client.Client.advance.Given as goal

abbrev pub invariant-loop-move : goal.invariant-loop-move
invariant-loop-move g l = record {
  ends : l.self.ends ≡ l.fn.self.ends;
  answered : IsAnswered g.S.Service.answers l.fn.service l.service;
}
