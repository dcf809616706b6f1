-- Which lines were given something, one entry more at a time.
use Rattle.std.proofs.Common.{◌≡◌, ◌⊎◌, ℕ, ◌+◌, ◌<◌, ◌≤◌, true, false, List, [], ◌∷◌, ◌++◌, drop, get_or, length, ap, sym, subst, ◌∙◌, inl, inr, arith, length-append}
use Rattle.std.proofs.lemmas.Bool.{cases_eq, cases_lt, cond_both}
use Rattle.std.proofs.lemmas.List.{drop_more, flat_map_more, length_push}
use Rattle.xp_step.specs.declared.entry.Entry.{Entry}
use Rattle.xp_step.specs.declared.output.Output.{Output}
use Rattle.xp_lock.specs.Given.{AreApart, AreGiven}
use Rattle.xp_lock.specs.Given.{is_among}
use Rattle.xp_lock.specs.steps.Given.{with_line, with_lines}
use Rattle.xp_lock.specs.Outgoing.{put_out_to, to_line}
use Rattle.xp_lock.proofs.Among.{Among, among_is, apart_push, is_from, no_more_than, push_cases, push_new, push_old}
use Rattle.xp_lock.proofs.Putting.{to_line_other, to_line_same}

-- what holds of the lines as they are where the line is there, and with it behind them where it is not
one_way : (lines : List ℕ) (line : ℕ) (P : List ℕ → Type 0) → (is_among line lines ≡ true → P lines) → (is_among line lines ≡ false → P (lines ++ line ∷ [])) → P (with_line lines line)
one_way lines line P there out = cond_both (is_among line lines) lines (lines ++ line ∷ []) P there out

one_longer : (lines : List ℕ) (line : ℕ) → length lines ≤ length (with_line lines line)
one_longer lines line = one_way lines line (λ xs. length lines ≤ length xs) (λ there. omega arith) (λ out. omega (arith, length_push lines line))

one_apart : (lines : List ℕ) (line : ℕ) → AreApart lines → AreApart (with_line lines line)
one_apart lines line apart = one_way lines line AreApart (λ there. apart) (apart_push lines line apart)

one_new : (lines : List ℕ) (line : ℕ) → Among (with_line lines line) line
one_new lines line = one_way lines line (λ xs. Among xs line) (among_is lines line) (λ out. push_new lines line)

one_old : (other : ℕ) (lines : List ℕ) (line : ℕ) → Among lines other → Among (with_line lines line) other
one_old other lines line here = one_way lines line (λ xs. Among xs other) (λ there. here) (λ out. push_old lines line other here)

one_cases : (lines : List ℕ) (line other : ℕ) → Among (with_line lines line) other → Among lines other ⊎ (other ≡ line)
one_cases lines line other = one_way lines line (λ xs. Among xs other → Among lines other ⊎ (other ≡ line)) (λ there here. inl here) (λ out here. push_cases lines line other here)

module _ {A : Type 0} where
  -- what each line more keeps
  keeps : (P : List ℕ → Type 0) → ((lines : List ℕ) (line : ℕ) → P lines → P (with_line lines line)) → (lines : List ℕ) (outputs : List (Output A)) → P lines → P (with_lines lines outputs)
  keeps P one lines [] was = was
  keeps P one lines (output ∷ outputs) was = keeps P one (with_line lines output.line) outputs (one lines output.line was)

  longer : (lines : List ℕ) (outputs : List (Output A)) → length lines ≤ length (with_lines lines outputs)
  longer lines outputs = keeps (λ xs. length lines ≤ length xs) (λ xs line was. omega (arith, was, one_longer xs line)) lines outputs (omega arith)

  -- while a line is added, there is room for it
  pub room_for : (lines : List ℕ) (outputs : List (Output A)) (at : ℕ) (output : Output A) → at < length outputs → output ≡ get_or outputs at output → is_among output.line lines ≡ false
      → length lines + 1 ≤ length (with_lines lines (drop at outputs))
  room_for lines outputs at output within is out = grind (arith, drop_more, length_push, longer)

  all_old : (lines : List ℕ) (outputs : List (Output A)) (line : ℕ) → Among lines line → Among (with_lines lines outputs) line
  all_old lines outputs line here = keeps (λ xs. Among xs line) (one_old line) lines outputs here

  all_new : (lines : List ℕ) (outputs : List (Output A)) (line : ℕ) → 0 < length (to_line line outputs) → Among (with_lines lines outputs) line
  all_new lines [] line some = absurd (omega (arith, some))
  all_new lines (output ∷ outputs) line some = elim (cases_eq output.line line) [
    | inl same ↦ all_old (with_line lines output.line) outputs line (subst (Among (with_line lines output.line)) same (one_new lines output.line))
    | inr other ↦ all_new (with_line lines output.line) outputs line (subst (λ xs. 0 < length xs) (to_line_other line output outputs other) some)
  ]

  all_cases : (lines : List ℕ) (outputs : List (Output A)) (line : ℕ) → Among (with_lines lines outputs) line → Among lines line ⊎ (0 < length (to_line line outputs))
  all_cases lines [] line here = inl here
  all_cases lines (output ∷ outputs) line here = elim (cases_eq output.line line) [
    | inl same ↦ inr (let one = ap length (to_line_same line output outputs same) in omega (arith, one))
    | inr other ↦ elim (all_cases (with_line lines output.line) outputs line here) [
      | inl before ↦ elim (one_cases lines output.line line before) [ inl was ↦ inl was | inr same ↦ absurd (other (sym same)) ]
      | inr some ↦ inr (subst (λ xs. 0 < length xs) (sym (to_line_other line output outputs other)) some)
    ]
  ]

  -- ---- those of entries

  pub put_more : (line : ℕ) (entries : List (Entry A)) (entry : Entry A) → put_out_to line (entries ++ entry ∷ []) ≡ put_out_to line entries ++ to_line line entry.outputs
  put_more line entries entry = sym (flat_map_more (λ (e : Entry A). to_line line e.outputs) [] entries entry)

  pub count_more : (line : ℕ) (entries : List (Entry A)) (entry : Entry A) → length (put_out_to line (entries ++ entry ∷ [])) ≡ length (put_out_to line entries) + length (to_line line entry.outputs)
  count_more line entries entry = ap length (put_more line entries entry) ∙ length-append (put_out_to line entries) (to_line line entry.outputs)

  pub given_none : AreGiven {A = A} [] []
  given_none = record { each = λ line. (λ here. absurd (cc), λ some. absurd (omega (arith, some))); once = tt }

  pub given_more : (entries : List (Entry A)) (entry : Entry A) (lines : List ℕ) → AreGiven entries lines → AreGiven (entries ++ entry ∷ []) (with_lines lines entry.outputs)
  given_more entries entry lines given = record {
    each = grind (arith, all_cases, all_new, all_old, among_is, cases_lt, count_more, is_from);
    once = keeps AreApart one_apart lines entry.outputs given.once;
  }

  pub given_few : (entries : List (Entry A)) (lines others : List ℕ) → AreGiven entries lines → ((line : ℕ) → 0 < length (put_out_to line entries) → Among others line)
      → length lines ≤ length others
  given_few entries lines others given goes = no_more_than lines others given.once (λ line here. goes line ((given.each line).0 (is_from lines line here)))
