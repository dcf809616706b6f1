use Rattle.std.proofs.Common.{◌++◌, Err, ap, drop, flat_map, subst, sym, take, ◌+◌, ◌∙◌}
use Rattle.std.proofs.lemmas.List.{take_all}
use Rattle.std.proofs.lemmas.Result.{err_from_is_err_and}
use Rattle.std.specs.Io.KnownBytes.{Appends}
use Rattle.xp_cdr.specs.RecordLine.{record_line}
use Rattle.xp_writing.proofs.Bytes.{appends_both}
use Rattle.xp_keeping.specs.Printing.{IsFront, Prints}
use Rattle.xp_keeping.proofs.Flushed.{flushed}
use Rattle.xp_keeping.proofs.Fronts.{around, front_behind, one_more}
use Rattle.xp_keeping.proofs.printing.print_records.Goals as goal

pub returns-in_err-print_record : goal.returns-in_err-print_record
returns-in_err-print_record g c =
    let text = record_line in
    let records = c.args.calls.now in
    let i = c.loop-call.call-index in
    let p = err_from_is_err_and c.from_residual.result c.from_residual.ensures.1 in
    let printed = c.in_err-print_record.ensures in
    let first = flat_map text (take i records) in
    let front = printed.0 in
    subst (Prints (g.W.Write.contents c.args.writer.now) (g.W.Write.contents c.print_record.new.writer) (flat_map text records)) (sym (p.1 ∙ ap Err p.2)) (
      first ++ front,
      appends_both _ _ _ first front c.loop-call.invariant printed.1,
      subst (IsFront (first ++ front)) (sym (around text records i c.call-item.result c.loop-call-test.true c.call-item.is))
          (front_behind first front (text c.call-item.result) (flat_map text (drop (i + 1) records)) printed.2),
    )

pub loop-call-preserved : goal.loop-call-preserved
loop-call-preserved g c =
    let text = record_line in
    let records = c.args.calls.now in
    let i = c.loop-call.call-index in
    subst (Appends (g.W.Write.contents c.args.writer.now) (g.W.Write.contents c.print_record.new.writer)) (sym (one_more text records i c.call-item.result c.loop-call-test.true c.call-item.is))
    (appends_both _ _ _ (flat_map text (take i records)) (text c.call-item.result) c.loop-call.invariant c.in_ok-print_record.ensures)

pub returns : goal.returns
returns g c =
    let text = record_line in
    let records = c.args.calls.now in
    let i = c.loop-call.call-index in
    let written = subst (λ front. Appends (g.W.Write.contents c.args.writer.now) (g.W.Write.contents c.loop-call.writer) (flat_map text front))
    (take_all i records c.loop-call-test.false) c.loop-call.invariant in
    flushed _ _ _ (flat_map text records) c.flush.result written c.flush.ensures
