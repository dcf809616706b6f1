use Rattle.std.proofs.Common.{◌≡◌}
use Rattle.xp_console.specs.Clients.{IsAnswered}
use Rattle.xp_console.proofs.console.Console.run.Given as goal

abbrev pub invariant-loop-turn : goal.invariant-loop-turn
invariant-loop-turn g l = record {
  answered : IsAnswered g.S.Service.answers l.fn.service l.service;
  same : l.self ≡ l.fn.self;
}
