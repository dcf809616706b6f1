-- Records in doubt, and what is written of them.
use Rattle.std.proofs.Common.{◌≡◌, ℕ, List, [], Option, None, Some, Result, Ok, IfSome, ap, flat_map, refl, subst, sym, ◌∙◌}
use Rattle.xp_cdr.specs.Details.{detail_text}
use Rattle.xp_cdr.specs.Ledger.{IsUnfinished}
use Rattle.xp_cdr.specs.declared.run.ExchangeRun.{ExchangeRun}
use Rattle.xp_keeping.proofs.Flushed.{flushed}
use Rattle.xp_keeping.specs.Details.{Keeping}
use Rattle.xp_keeping.specs.Doubt.{AreDoubted, IsOfRun, WritesDoubted}
use Rattle.xp_keeping.specs.Printing.{Prints}
use Rattle.xp_keeping.specs.Queued.{Queued}
use Rattle.xp_keeping.specs.declared.keep_fault.KeepFault.{KeepFault}

module _ (run : ExchangeRun) (queued : Queued Keeping) (old new : Option (List ℕ)) (result : Result (Unit {0}) KeepFault) where
  -- the thread gave its keeper back
  pub lacking_written : (keeping : Keeping) (lines : List ℕ) → Some keeping ≡ queued.last → IfSome queued.last (IsOfRun run)
      → IsUnfinished keeping.ledger lines → Prints old new lines result → WritesDoubted run queued old new result
  lacking_written keeping lines is told lacks written =
      let by : IsOfRun run keeping = subst (λ last. IfSome last (IsOfRun run)) (sym is) told in
      let text : lines ≡ flat_map (detail_text run) lacks.rest = lacks.lines_are ∙ ap (λ one. flat_map (detail_text one) lacks.rest) by in
      record {
        records = lacks.rest;
        doubted = subst (λ last. AreDoubted last queued.left lacks.rest) is
            (record { before = lacks.whole; given_are = lacks.given_are; synced_is = lacks.synced_is });
        written = subst (λ whole. Prints old new whole result) text written;
      }

  -- the thread was given up
  pub left_written : queued.last ≡ None → Prints old new (flat_map (detail_text run) queued.left) result → WritesDoubted run queued old new result
  left_written none written = record {
    records = queued.left;
    doubted = subst (λ last. AreDoubted last queued.left queued.left) (sym none) refl;
    written = written;
  }

-- behind it the output is flushed
pub doubted_flushed : (run : ExchangeRun) (queued : Queued Keeping) (old between new : Option (List ℕ)) (result : Result (Unit {0}) KeepFault)
    → WritesDoubted run queued old between (Ok tt) → Prints between new [] result → WritesDoubted run queued old new result
doubted_flushed run queued old between new result writes more = record {
  records = writes.records;
  doubted = writes.doubted;
  written = flushed old between new (flat_map (detail_text run) writes.records) result writes.written more;
}
