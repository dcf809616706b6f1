-- What lines handed in together.
use Rattle.std.proofs.Common.{◌≡◌, ◌≢◌, ℕ, suc, zero, ◌+◌, ◌<◌, ◌≤◌, Bool, true, false, true≢false, List, [], ◌∷◌, ◌++◌, length, refl, ap, sym, ◌∙◌, inl, inr, arith, eq-eqb}
use Rattle.std.specs.Prelude.{◌||◌}
use Rattle.std.proofs.lemmas.Bool.{cases_eq, ne_eqb}
use Rattle.std.proofs.lemmas.List.Elements.{All-head, All-tail}
use Rattle.xp_subs.specs.Tables.{Tables, line_count}
use Rattle.xp_step.specs.declared.entry.Entry.{Entry}
use Rattle.xp_step.specs.Run.{Run, RunFrom}
use Rattle.xp_machine.specs.World.{World, opening}
use Rattle.xp_core.proofs.Sounds.{IsRight, run_right, step_right}
use Rattle.xp_lock.specs.Closing.{PassesMatch, HasAll, PassMatches, NoneTwice, all_handed, handed_together, has_line, own_entries_together}
use Rattle.xp_seats.specs.Handed.{handed, is_raised}
use Rattle.xp_lock.specs.Passes.{Pass}

-- one for an entry of a line
abbrev counts : Bool → ℕ
counts true = 0
counts false = 1

none_handed : (A : Type 0) (lines : ℕ) → handed_together {A = A} lines [] ≡ 0
none_handed A zero = refl
none_handed A (suc lines) = let rest = none_handed A lines in omega (arith, rest)

module _ {A : Type 0} where
  -- each of these entries is of one of so many lines
  abbrev pub EachOf : ℕ → List (Entry A) → Type 0
  EachOf lines [] = Unit {0}
  EachOf lines (entry ∷ entries) = (entry.event.line < lines) × EachOf lines entries

  each_of : (tables : Tables) (before : List (Entry A)) (world : World) (entries : List (Entry A)) (last : World) → IsRight tables (length before) world
      → RunFrom tables before world entries last → EachOf (line_count tables) entries
  each_of tables before world [] last right run = tt
  each_of tables before world (entry ∷ entries) last right run =
      let within = run.1.line in
      let lines = right.sound.lines in (
        omega (arith, within, lines),
        each_of tables (before ++ entry ∷ []) run.0 entries last (step_right tables before world entry run.0 right run.1) run.2,
      )

  -- how many entries of the lines of these passes there are together
  abbrev by_passes : List (Pass A) → List (Entry A) → ℕ
  by_passes [] entries = 0
  by_passes (pass ∷ passes) entries = length (handed pass.line entries) + by_passes passes entries

  none_by : (passes : List (Pass A)) → by_passes passes [] ≡ 0
  none_by [] = refl
  none_by (pass ∷ passes) = let rest = none_by passes in omega (arith, rest)

  module _ (entry : Entry A) (entries : List (Entry A)) where
    stalled : Bool
    stalled = is_raised entry.event.what

    -- to another line it adds nothing
    handed_elsewhere : (line : ℕ) → entry.event.line ≢ line → handed line (entry ∷ entries) ≡ handed line entries
    handed_elsewhere line other = grind (arith, ne_eqb)

    handed_here : (line : ℕ) → entry.event.line ≡ line → length (handed line (entry ∷ entries)) ≡ counts (is_raised entry.event.what) + length (handed line entries)
    handed_here line same = grind (arith, eq-eqb)

    below : (lines : ℕ) → lines ≤ entry.event.line → handed_together lines (entry ∷ entries) ≡ handed_together lines entries
    below zero few = refl
    below (suc lines) few =
        let rest = below lines (omega (arith, few)) in
        let here = handed_elsewhere lines (λ same. absurd (omega (arith, few, same))) in
        omega (arith, rest, ap length here)

    within : (lines : ℕ) → entry.event.line < lines → handed_together lines (entry ∷ entries) ≡ counts (is_raised entry.event.what) + handed_together lines entries
    within zero few = absurd (omega (arith, few))
    within (suc lines) few = elim (cases_eq entry.event.line lines) [
      | inl same ↦ grind (arith, below, handed_here)
      | inr other ↦
          let rest = within lines (omega (arith, few, other)) in
          let here = ap length (handed_elsewhere lines other) in
          omega (arith, rest, here)
    ]

    one_more : length (all_handed (entry ∷ entries)) ≡ counts (is_raised entry.event.what) + length (all_handed entries)
    one_more = grind arith

    -- ---- by the passes of their lines

    to_others : (passes : List (Pass A)) → has_line entry.event.line passes ≡ false → by_passes passes (entry ∷ entries) ≡ by_passes passes entries
    to_others [] out = refl
    to_others (pass ∷ passes) out = elim (cases_eq pass.line entry.event.line) [
      | inl same ↦ absurd (true≢false (ap (λ b. b || has_line entry.event.line passes) (sym (eq-eqb pass.line entry.event.line same)) ∙ out))
      | inr other ↦
          let rest = to_others passes (ap (λ b. b || has_line entry.event.line passes) (sym (ne_eqb pass.line entry.event.line other)) ∙ out) in
          let here = ap length (handed_elsewhere pass.line (λ same. other (sym same))) in
          omega (arith, rest, here)
    ]

    to_one : (passes : List (Pass A)) → has_line entry.event.line passes ≡ true → NoneTwice passes
        → by_passes passes (entry ∷ entries) ≡ counts (is_raised entry.event.what) + by_passes passes entries
    to_one [] there once = absurd (true≢false (sym there))
    to_one (pass ∷ passes) there once = elim (cases_eq pass.line entry.event.line) [
      | inl same ↦ grind (arith, handed_here, to_others)
      | inr other ↦
          let rest = to_one passes (ap (λ b. b || has_line entry.event.line passes) (sym (ne_eqb pass.line entry.event.line other)) ∙ there) once.1 in
          let here = ap length (handed_elsewhere pass.line (λ same. other (sym same))) in
          omega (arith, rest, here)
    ]

  shared : (lines : ℕ) (passes : List (Pass A)) → HasAll lines passes → NoneTwice passes → (entries : List (Entry A)) → EachOf lines entries
      → length (all_handed entries) ≡ by_passes passes entries
  shared lines passes all once [] each = sym (none_by passes)
  shared lines passes all once (entry ∷ entries) each =
      let rest = shared lines passes all once entries each.1 in
      let this = one_more entry entries in
      let those = to_one entry entries passes (all entry.event.line each.0) once in
      omega (arith, rest, this, those)

  by_theirs : (history : List (Entry A)) (passes : List (Pass A)) → PassesMatch history passes → by_passes passes history ≡ own_entries_together passes
  by_theirs history [] told = refl
  by_theirs history (pass ∷ passes) told =
      let rest = by_theirs history passes (All-tail (PassMatches history) pass passes told) in
      let here = ap length (All-head (PassMatches history) pass passes told).own in
      omega (arith, rest, here)

  counted_each : (lines : ℕ) (entries : List (Entry A)) → EachOf lines entries → length (all_handed entries) ≡ handed_together lines entries
  counted_each lines [] each = sym (none_handed A lines)
  counted_each lines (entry ∷ entries) each =
      let rest = counted_each lines entries each.1 in
      let this = one_more entry entries in
      let those = within entry entries lines each.0 in
      omega (arith, rest, this, those)

  each_in : (tables : Tables) (history : List (Entry A)) (world : World) → Run tables history world → EachOf (line_count tables) history
  each_in tables history world run =
      each_of tables [] (opening (line_count tables)) history world (run_right {A = A} tables [] (opening (line_count tables)) refl) run

  pub counted : (tables : Tables) (history : List (Entry A)) (world : World) → Run tables history world → length (all_handed history) ≡ handed_together (line_count tables) history
  counted tables history world run = counted_each (line_count tables) history (each_in tables history world run)

  -- each line's entries are those of its one pass
  pub together : (tables : Tables) (history : List (Entry A)) (world : World) (passes : List (Pass A)) → Run tables history world
      → HasAll (line_count tables) passes → NoneTwice passes → PassesMatch history passes → length (all_handed history) ≡ own_entries_together passes
  together tables history world passes run all once told = grind (arith, by_theirs, each_in, shared)
