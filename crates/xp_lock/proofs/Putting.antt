-- Outputs are put into the outboxes of their lines.
use Rattle.std.proofs.Common.{◌≡◌, ◌≢◌, ℕ, ◌-◌, ◌<◌, eqb, cond, List, [], ◌∷◌, ◌++◌, length, map, filter, set, sym, refl, ap, ◌∙◌, inl, inr, arith, append_assoc, append-nil, length-append, length-set, get_or-set_other, eq-eqb}
use Rattle.std.proofs.lemmas.Bool.{cases_eq, cases_lt, ne_eqb}
use Rattle.std.proofs.lemmas.Grind.{get_or-set_at}
use Rattle.std.proofs.lemmas.List.{get_or_past, map-append}
use Rattle.std.proofs.lemmas.List.Elements.{filter-append}
use Rattle.xp_outbox.specs.Ends.{Putting}
use Rattle.xp_step.specs.declared.output.Outgoing.{Outgoing}
use Rattle.xp_step.specs.declared.output.Output.{Output}
use Rattle.xp_lock.specs.Outboxes.{outbox_at, no_outbox}
use Rattle.xp_lock.specs.steps.Outboxes.{HasRoomFor, IsPut, with_items}
use Rattle.xp_lock.specs.Outgoing.{to_line}

module _ {A : Type 0} where
  -- a line whose outbox has a free place is there
  pub box_there : (outboxes : List (Putting (Outgoing A))) (line : ℕ) → 0 < (outbox_at outboxes line).free → line < length outboxes
  box_there outboxes line free = elim (cases_lt line (length outboxes)) [
    | inl within ↦ within
    | inr past ↦ let none : (outbox_at outboxes line).free ≡ 0 = ap (λ b. b.free) (get_or_past outboxes line no_outbox past) in absurd (omega (arith, free, none))
  ]

  pub with_items_more : (box : Putting (Outgoing A)) (xs ys : List (Outgoing A)) → with_items (with_items box xs) ys ≡ with_items box (xs ++ ys)
  with_items_more box xs ys =
      let free : box.free - length xs - length ys ≡ box.free - length (xs ++ ys) = omega (arith, length-append xs ys) in
      λ i. record { queue = box.queue; capacity = box.capacity; put = append_assoc box.put xs ys i; free = free i }

  with_none : (box : Putting (Outgoing A)) → with_items box [] ≡ box
  with_none box =
      let free : box.free - 0 ≡ box.free = omega arith in
      λ i. record { queue = box.queue; capacity = box.capacity; put = append-nil box.put i; free = free i }

  pub to_line_same : (line : ℕ) (output : Output A) (rest : List (Output A)) → output.line ≡ line → to_line line (output ∷ rest) ≡ output.outgoing ∷ to_line line rest
  to_line_same line output rest same =
      ap (λ b. map (λ (o : Output A). o.outgoing) (cond b (output ∷ filter (λ o. eqb o.line line) rest) (filter (λ o. eqb o.line line) rest))) (eq-eqb output.line line same)

  pub to_line_other : (line : ℕ) (output : Output A) (rest : List (Output A)) → output.line ≢ line → to_line line (output ∷ rest) ≡ to_line line rest
  to_line_other line output rest other =
      ap (λ b. map (λ (o : Output A). o.outgoing) (cond b (output ∷ filter (λ o. eqb o.line line) rest) (filter (λ o. eqb o.line line) rest))) (ne_eqb output.line line other)

  pub room_first : (output : Output A) (rest : List (Output A)) (outboxes : List (Putting (Outgoing A))) → HasRoomFor (output ∷ rest) outboxes → 0 < (outbox_at outboxes output.line).free
  room_first output rest outboxes room =
      let many : length (to_line output.line (output ∷ rest)) ≡ length (output.outgoing ∷ to_line output.line rest) = ap length (to_line_same output.line output rest refl) in
      let enough = room output.line in
      omega (arith, many, enough)

  abbrev pub put_first : Output A → List (Putting (Outgoing A)) → List (Putting (Outgoing A))
  put_first output outboxes = set outboxes output.line (with_items (outbox_at outboxes output.line) (output.outgoing ∷ []))

  one_more : (line : ℕ) (output : Output A) (rest : List (Output A)) → to_line line (output ∷ rest) ≡ to_line line (output ∷ []) ++ to_line line rest
  one_more line output rest =
      ap (map (λ (o : Output A). o.outgoing)) (filter-append (λ (o : Output A). eqb o.line line) (output ∷ []) rest)
      ∙ map-append (λ (o : Output A). o.outgoing) (filter (λ (o : Output A). eqb o.line line) (output ∷ [])) (filter (λ (o : Output A). eqb o.line line) rest)

  -- what one output does, seen from any line
  first_at : (output : Output A) (outboxes : List (Putting (Outgoing A))) → 0 < (outbox_at outboxes output.line).free → (line : ℕ)
      → outbox_at (put_first output outboxes) line ≡ with_items (outbox_at outboxes line) (to_line line (output ∷ []))
  first_at output outboxes some line =
      let given = with_items (outbox_at outboxes output.line) (output.outgoing ∷ []) in
      elim (cases_eq line output.line) [
        | inl same ↦
            get_or-set_at outboxes output.line line given no_outbox same (box_there outboxes output.line some)
            ∙ ap (λ l. with_items (outbox_at outboxes l) (output.outgoing ∷ [])) (sym same) ∙ ap (with_items (outbox_at outboxes line)) (sym (to_line_same line output [] (sym same)))
        | inr other ↦
            get_or-set_other outboxes output.line line given no_outbox other ∙ sym (with_none (outbox_at outboxes line))
            ∙ ap (with_items (outbox_at outboxes line)) (sym (to_line_other line output [] (λ same. other (sym same))))
      ]

  module _ (output : Output A) (rest : List (Output A)) (outboxes : List (Putting (Outgoing A))) (room : HasRoomFor (output ∷ rest) outboxes) where
    pub room_rest : HasRoomFor rest (put_first output outboxes)
    room_rest line =
        let enough = room line in
        let all = ap length (one_more line output rest) in
        let left = ap (λ b. b.free) (first_at output outboxes (room_first output rest outboxes room) line) in
        omega (arith, enough, all, left, length-append (to_line line (output ∷ [])) (to_line line rest))

    pub put_rest : (after : List (Putting (Outgoing A))) → IsPut rest (put_first output outboxes) after → IsPut (output ∷ rest) outboxes after
    put_rest after put = record {
      count = put.count ∙ length-set outboxes output.line (with_items (outbox_at outboxes output.line) (output.outgoing ∷ []));
      each = λ line.
          put.each line ∙ ap (λ b. with_items b (to_line line rest)) (first_at output outboxes (room_first output rest outboxes room) line)
          ∙ with_items_more (outbox_at outboxes line) (to_line line (output ∷ [])) (to_line line rest) ∙ ap (with_items (outbox_at outboxes line)) (sym (one_more line output rest));
    }

  pub put_none : (outboxes : List (Putting (Outgoing A))) → IsPut [] outboxes outboxes
  put_none outboxes = record { count = refl; each = λ line. sym (with_none (outbox_at outboxes line)) }
