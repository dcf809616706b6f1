-- Runs grow by one entry, and keep what each step keeps.
use Rattle.std.proofs.Common.{arith, List, [], ◌∷◌, ◌++◌, refl, sym, subst, append_assoc, append-nil}
use Rattle.xp_subs.specs.Tables.{Tables}
use Rattle.xp_step.specs.declared.entry.Entry.{Entry}
use Rattle.xp_step.specs.Run.{RunFrom}
use Rattle.xp_step.specs.Step.{Step}
use Rattle.xp_machine.specs.World.{World}

module _ {A : Type 0} where
  -- one entry more, after the last
  pub run_push : (tables : Tables) (before : List (Entry A)) (world : World) (entries : List (Entry A)) (last : World) (entry : Entry A) (next : World)
      → RunFrom tables before world entries last → Step tables (before ++ entries) last entry next → RunFrom tables before world (entries ++ entry ∷ []) next
  run_push tables before world [] last entry next same step =
      let P : World → Type 0 = λ from. Step tables before from entry next in
      let Q : List (Entry A) → Type 0 = λ front. Step tables front last entry next in
      (next, subst P same (subst Q (append-nil before) step), refl)
  run_push tables before world (first ∷ entries) last entry next run step =
      let Q : List (Entry A) → Type 0 = λ front. Step tables front last entry next in (
        run.0,
        run.1,
        run_push tables (before ++ first ∷ []) run.0 entries last entry next run.2
            (subst Q (sym (append_assoc before (first ∷ []) entries)) step),
      )

  -- what each step keeps, a run keeps
  pub run_keeps : (P : List (Entry A) → World → Type 0) (tables : Tables)
      → ((before : List (Entry A)) (world : World) (entry : Entry A) (next : World) → P before world → Step tables before world entry next → P (before ++ entry ∷ []) next)
      → (before : List (Entry A)) (world : World) (entries : List (Entry A)) (last : World)
      → P before world → RunFrom tables before world entries last → P (before ++ entries) last
  run_keeps P tables keeps before world [] last holds same = grind (arith, append-nil)
  run_keeps P tables keeps before world (first ∷ entries) last holds run =
      let Q : List (Entry A) → Type 0 = λ front. P front last in
      subst Q (append_assoc before (first ∷ []) entries)
      (run_keeps P tables keeps (before ++ first ∷ []) run.0 entries last (keeps before world first run.0 holds run.1) run.2)

  -- a run leads to each place of its history
  pub run_split : (tables : Tables) (front : List (Entry A)) (world : World) (entries : List (Entry A)) (entry : Entry A) (rest : List (Entry A)) (last : World)
      → RunFrom tables front world (entries ++ entry ∷ rest) last
      → (at : World) × (next : World) × RunFrom tables front world entries at × Step tables (front ++ entries) at entry next
  run_split tables front world [] entry rest last run =
      let Q : List (Entry A) → Type 0 = λ before. Step tables before world entry run.0 in
      (world, run.0, refl, subst Q (sym (append-nil front)) run.1)
  run_split tables front world (first ∷ entries) entry rest last run =
      let found = run_split tables (front ++ first ∷ []) run.0 entries entry rest last run.2 in
      let Q : List (Entry A) → Type 0 = λ before. Step tables before found.0 entry found.1 in
      (found.0, found.1, (run.0, run.1, found.2), subst Q (append_assoc front (first ∷ []) entries) found.3)
