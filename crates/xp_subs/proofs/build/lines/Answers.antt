use Rattle.std.proofs.Common.{◌≡◌, ◌∙◌, ◌+◌, ◌<◌, ◌++◌, ℕ, List, ap, append_assoc, drop, get_or, length, sym}
use Rattle.xp_file.proofs.Lists.{rest_at}
use Rattle.xp_file.specs.Entries.{StationData}
use Rattle.xp_file.specs.declared.entry.LineEntry.{LineEntry}
use Rattle.xp_subs.specs.Built.{lines_from, lines_of}
use Rattle.xp_subs.specs.declared.line.Line.{Line}
use Rattle.xp_subs.proofs.build.lines.Goals as goal

-- the lines of one more station
built : (entries : List StationData) (i number : ℕ) (entry : StationData) (own : List LineEntry) (before after all : List Line) → i < length entries → entry ≡ get_or entries i entry
    → own ≡ entry.lines → after ≡ before ++ lines_of number own → before ++ lines_from number (drop i entries) ≡ all
    → after ++ lines_from (number + 1) (drop (i + 1) entries) ≡ all
built entries i number entry own before after all within here own_is after_is so_far =
    let rest = lines_from (number + 1) (drop (i + 1) entries) in
    ap (λ lines. lines ++ rest) after_is
    ∙ append_assoc before (lines_of number own) rest
    ∙ ap (λ own. before ++ (lines_of number own ++ rest)) own_is
    ∙ sym (ap (λ entries. before ++ lines_from number entries) (rest_at entries i entry within here))
    ∙ so_far

pub loop-entry-preserved : goal.loop-entry-preserved
loop-entry-preserved c = (
  built c.args.entries.now c.loop-entry.entry-index c.loop-entry.number c.entry-item.result c.deref.result.now c.loop-entry.lines.items _ _ c.loop-entry-test.true c.entry-item.is
      (c.deref.ensures.value ∙ ap (λ (station : StationData). station.lines) c.entry.view_is) c.in_ok-push_lines.ensures c.loop-entry.invariant.0,
  ap (λ n. n + 1) c.loop-entry.invariant.1,
)
