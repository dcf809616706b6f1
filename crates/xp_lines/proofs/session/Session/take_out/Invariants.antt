use Rattle.std.proofs.Common.{◌≡◌}
use Rattle.xp_lines.proofs.Written.{Filled}
use Rattle.xp_lines.proofs.session.Session.take_out.Given as goal

abbrev pub invariant-loop-output : goal.invariant-loop-output
invariant-loop-output g l = record {
  filled : Filled l.modulus l.now l.fn.self.connection l.fn.seat.pass l.fn.self.unwritten.items l.fn.self.unanswered_since l.seat.pass l.self.unwritten.items l.self.unanswered_since l._output;
  link : l.self.link ≡ l.fn.self.link;
  kept : (l.self.connection ≡ l.fn.self.connection) × (l.self.owes_down ≡ l.fn.self.owes_down) × (l.self.frames ≡ l.fn.self.frames);
}
