use Rattle.std.proofs.Common.{◌++◌, Err, ap, drop, flat_map, subst, sym, take, ◌+◌, ◌∙◌}
use Rattle.std.proofs.lemmas.List.{take_all}
use Rattle.std.proofs.lemmas.Result.{err_from_is_err_and}
use Rattle.std.specs.Io.KnownBytes.{Appends}
use Rattle.xp_writing.proofs.Bytes.{appends_both}
use Rattle.xp_keeping.proofs.Flushed.{flushed}
use Rattle.xp_keeping.proofs.Fronts.{around, front_behind, one_more}
use Rattle.xp_keeping.specs.Printing.{IsFront, Prints}
use Rattle.xp_trace.specs.Pieces.{piece_octets}
use Rattle.xp_tracing.proofs.tracing.write_pieces.Goals as goal

pub returns-in_err-write_one : goal.returns-in_err-write_one
returns-in_err-write_one g c =
    let octets = piece_octets c.args.moment in
    let pieces = c.args.pieces.now in
    let i = c.loop-piece.piece-index in
    let p = err_from_is_err_and c.from_residual.result c.from_residual.ensures.1 in
    let printed = c.in_err-write_one.ensures in
    let first = flat_map octets (take i pieces) in
    let front = printed.0 in
    subst (Prints (g.W.Write.contents c.args.output.now) (g.W.Write.contents c.write_one.new.output) (flat_map octets pieces)) (sym (p.1 ∙ ap Err p.2)) (
      first ++ front,
      appends_both _ _ _ first front c.loop-piece.invariant printed.1,
      subst (IsFront (first ++ front)) (sym (around octets pieces i c.piece-item.result c.loop-piece-test.true c.piece-item.is))
          (front_behind first front (octets c.piece-item.result) (flat_map octets (drop (i + 1) pieces)) printed.2),
    )

pub loop-piece-preserved : goal.loop-piece-preserved
loop-piece-preserved g c =
    let octets = piece_octets c.args.moment in
    let pieces = c.args.pieces.now in
    let i = c.loop-piece.piece-index in
    subst (Appends (g.W.Write.contents c.args.output.now) (g.W.Write.contents c.write_one.new.output)) (sym (one_more octets pieces i c.piece-item.result c.loop-piece-test.true c.piece-item.is))
    (appends_both _ _ _ (flat_map octets (take i pieces)) (octets c.piece-item.result) c.loop-piece.invariant c.in_ok-write_one.ensures)

pub returns : goal.returns
returns g c =
    let octets = piece_octets c.args.moment in
    let pieces = c.args.pieces.now in
    let i = c.loop-piece.piece-index in
    let written = subst (λ front. Appends (g.W.Write.contents c.args.output.now) (g.W.Write.contents c.loop-piece.output) (flat_map octets front))
    (take_all i pieces c.loop-piece-test.false) c.loop-piece.invariant in
    flushed _ _ _ (flat_map octets pieces) c.flush.result written c.flush.ensures
