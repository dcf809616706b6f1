use Rattle.std.proofs.Common.{◌≡◌, ◌≤◌, count_by, take}
use Rattle.xp_subs.specs.Tables.{is_spare}
use Rattle.xp_summary.proofs.spare_lines.spare_count.Given as goal

abbrev pub invariant-loop-number : goal.invariant-loop-number
invariant-loop-number l = record {
  counted : l.count ≡ count_by is_spare (take l.number l.subs.lines);
  few : l.count ≤ l.number;
}
