use Rattle.std.proofs.Common.{◌++◌, ap, append_assoc, arith, drop, sym, take, take-add, ◌∙◌}
use Rattle.std.proofs.lemmas.List.{length-drop, take_rest}
use Rattle.xp_cdr.proofs.append.append_all.Goals as goal

pub loop-taken-preserved : goal.loop-taken-preserved
loop-taken-preserved g c =
    let kept = c.loop-taken.invariant in
    let all = c.args.octets.now in
    let done = c.loop-taken.taken in
    let count = c.in-Ok.count in
    let before = g.F.RecordFile.taken c.args.file.now in
    let more = rw (take_rest all done) at c.in-Ok.ensures.taken in
    let bound = rw (take_rest all done) at c.in-Ok.ensures.bound in
    record {
      within = omega (arith, kept.within, bound, length-drop done all);
      taken =
          more
          ∙ ap (λ front. front ++ take count (drop done all)) kept.taken
          ∙ append_assoc before (take done all) (take count (drop done all))
          ∙ ap (λ front. before ++ front) (sym (take-add done count all));
      synced = c.in-Ok.ensures.synced ∙ kept.synced;
      current = c.in-Ok.ensures.current ∙ kept.current;
      failures = c.in-Ok.ensures.failures ∙ kept.failures;
    }
