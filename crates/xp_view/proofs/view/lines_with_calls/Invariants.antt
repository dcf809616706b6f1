use Rattle.std.proofs.Common.{◌≡◌, ◌≤◌, vec_len, vec_capacity}
use Rattle.xp_subs.specs.Tables.{line_count}
use Rattle.xp_view.specs.steps.Views.{AreShown}
use Rattle.xp_view.proofs.view.lines_with_calls.Given as goal

-- there is room for all lines
abbrev pub invariant-loop-line : goal.invariant-loop-line
invariant-loop-line g l = record {
  shown : AreShown l.core.subs l.core.history l.line l.lines.items;
  filled : vec_len l.lines ≡ l.line;
  room : line_count l.core.subs ≤ vec_capacity l.lines;
}
