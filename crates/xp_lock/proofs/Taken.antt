-- What the passes of a closed exchange took, and how it is counted.
use Rattle.std.proofs.Common.{◌≡◌, ℕ, ◌+◌, ◌-◌, ◌*◌, ◌^◌, ◌<◌, ◌≤◌, Some, None, List, [], ◌∷◌, ◌++◌, All, length, set, refl, arith, length-append}
use Rattle.std.proofs.Math.Nat.{min-eq_left, min-eq_right}
use Rattle.std.proofs.Math.Seq.{take-append_seam}
use Rattle.std.proofs.lemmas.Bool.{cases_eq, cases_lt}
use Rattle.std.proofs.lemmas.Grind.{flat_map-append}
use Rattle.std.proofs.lemmas.List.{get_or-replicate, get_or-set_other, get_or-set_same, get_or_past, length-replicate}
use Rattle.std.proofs.lemmas.Option.{none-some}
use Rattle.std.proofs.lemmas.List.Elements.{All-nil}
use Rattle.std.specs.Prelude.{min, replicate}
use mathlib.Core.List.{IsPrefix}
use Rattle.xp_subs.specs.Tables.{Tables, line_count}
use Rattle.xp_step.specs.declared.entry.Entry.{Entry}
use Rattle.xp_core.specs.OutputsPerLine.{AreFew}
use Rattle.xp_step.specs.Run.{Run}
use Rattle.xp_step.specs.Step.{Step}
use Rattle.xp_machine.specs.World.{World, opening}
use Rattle.xp_step.proofs.Agreed.{run_agreed}
use Rattle.xp_core.proofs.Few.{few_of_step}
use Rattle.xp_step.proofs.RunLemmas.{run_keeps, run_push}
use Rattle.xp_lock.specs.Closing.{AreCounted, PassesMatch, Closed, IsCounted, PassMatches, taken_by}
use Rattle.xp_lock.specs.steps.Closing.{AreWithin}
use Rattle.xp_lock.specs.Outgoing.{put_out_to}
use Rattle.xp_lock.specs.Passes.{Pass}
use Rattle.xp_seats.specs.Views.{seen_by}
use Rattle.xp_lock.proofs.Fronts.{Known, is_there}

-- ---- a number that counts as far as it reaches

pub count_more : (items count more : ℕ) → count ≡ min items (2 ^ 64 - 1) → more ≡ min (count + 1) (2 ^ 64 - 1) → more ≡ min (items + 1) (2 ^ 64 - 1)
count_more items count more was is = grind (arith, cases_lt, min-eq_left, min-eq_right)

-- ---- how much is put out to a line

module _ {A : Type 0} where
  few_more : (line : ℕ) (history : List (Entry A)) (entry : Entry A) → AreFew entry.outputs
      → length (put_out_to line history) ≤ 17 * length history → length (put_out_to line (history ++ entry ∷ [])) ≤ 17 * length (history ++ entry ∷ [])
  few_more line history entry few was = grind (arith, flat_map-append, length-append)

  pub few_put : (tables : Tables) (history : List (Entry A)) (world : World) → Run tables history world → (line : ℕ) → length (put_out_to line history) ≤ 17 * length history
  few_put tables history world run line =
      let first = opening (line_count tables) in
      let P : List (Entry A) → World → Type 0 = λ before w. Run tables before w × (length (put_out_to line before) ≤ 17 * length before) in
      let kept : (before : List (Entry A)) (w : World) (entry : Entry A) (next : World) → P before w → Step tables before w entry next → P (before ++ entry ∷ []) next =
      λ before w entry next h step.
      (run_push tables [] first before w entry next h.0 step, few_more line before entry (few_of_step tables before w entry next (run_agreed tables before w h.0) step) h.1)
      in
      (run_keeps P tables kept [] first history world (refl, omega arith) run).1

  -- what a pass took is no more than was put out to its line
  pub few_taken : (history : List (Entry A)) (pass : Pass A) → IsPrefix pass.taken (put_out_to pass.line history) → length pass.taken ≤ length (put_out_to pass.line history)
  few_taken history pass front = grind (arith, length-append)

  -- so a number holds the count
  pub can_count : (tables : Tables) (history : List (Entry A)) (world : World) (pass : Pass A) → Run tables history world → length history ≤ 2 ^ 59
      → IsPrefix pass.taken (put_out_to pass.line history) → length pass.taken < 2 ^ 64
  can_count tables history world pass run few front =
      let taken = few_taken history pass front in
      let put = few_put tables history world run pass.line in
      omega (arith, taken, put, few)

-- ---- the counts by line

module _ {A : Type 0} where
  -- these later counts are the same for the lines whose passes came back
  abbrev pub Agree : Known A → List ℕ → List ℕ → Type 0
  Agree known counts later = (line : ℕ) → seen_by known line ≡ None → taken_by later line ≡ taken_by counts line

  pub agree_before : (known : Known A) (counts later : List ℕ) (line n : ℕ) (seen : List (Entry A)) → seen_by known line ≡ Some seen
      → Agree (set known line None) (set counts line n) later → Agree known counts later
  agree_before known counts later line n seen there agree other none = grind (arith, get_or-set_other, none-some)

  pub noted_here : (known : Known A) (counts later : List ℕ) (line n : ℕ) (seen : List (Entry A)) → seen_by known line ≡ Some seen → line < length counts
      → Agree (set known line None) (set counts line n) later → taken_by later line ≡ n
  noted_here known counts later line n seen there within agree = grind (arith, get_or-set_same, is_there)

none_taken : (lines line : ℕ) → taken_by (replicate lines 0) line ≡ 0
none_taken lines line = grind (arith, cases_lt, get_or-replicate, get_or_past, length-replicate)

module _ {A : Type 0} where
  pub none_within : (lines : ℕ) (history : List (Entry A)) → AreWithin (replicate lines 0) history
  none_within lines history line = let none = none_taken lines line in omega (arith, none)

  pub one_within : (counts : List ℕ) (history : List (Entry A)) (line n : ℕ) → AreWithin counts history → line < length counts → n ≤ length (put_out_to line history)
      → AreWithin (set counts line n) history
  one_within counts history line n was there few other = grind (arith, cases_eq, get_or-set_other, get_or-set_same)

  -- ---- what the passes took

  abbrev pub IsNoted : List ℕ → Pass A → Type 0
  IsNoted counts pass = taken_by counts pass.line ≡ length pass.taken

  abbrev pub AreNoted : List ℕ → List (Pass A) → Type 0
  AreNoted counts passes = All (IsNoted counts) passes

  counted_one : (book : Closed A) (pass : Pass A) → PassMatches book.history pass → IsNoted book.taken pass → IsCounted book pass
  counted_one book pass told count = grind (arith, take-append_seam)

  pub counted_all : (book : Closed A) (passes : List (Pass A)) → PassesMatch book.history passes → AreNoted book.taken passes → AreCounted book passes
  counted_all book [] told noted = All-nil (IsCounted book)
  counted_all book (pass ∷ passes) told noted = grind (arith, counted_one)
