use Rattle.std.proofs.Common.{◌≡◌, ◌+◌, ◌*◌, ◌≤◌, length}
use Rattle.xp_exchange.specs.Splitting.{HasNoFeed}
use Rattle.xp_exchange.proofs.Script.{ReadTo}
use Rattle.xp_exchange.proofs.replaying.UnfinishedScript.read_all.Given as goal

abbrev pub invariant-loop : goal.invariant-loop
invariant-loop g l =
    ReadTo l.fn.self (g.R.Read.remaining l.fn.reader) (g.R.Read.remaining l.reader) l.self (g.W.Write.contents l.fn.writer) (g.W.Write.contents l.writer)
    × (l.self.number ≤ 4096 * l.counter + 1)
    × (length l.piece ≡ 4096)
    × HasNoFeed l.self.line
