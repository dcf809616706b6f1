-- What a line takes and writes, one output at a time.
use Rattle.std.proofs.Common.{◌≡◌, ℕ, ◌+◌, ◌<◌, ◌≤◌, ◌==◌, List, [], ◌∷◌, ◌++◌, length, length-append, arith, refl, sym, ap, ◌∙◌, append_assoc, append-nil, subst, Option, None, Some, cond, true, false, inl, inr}
use Rattle.std.proofs.lemmas.Grind.{flat_map-append}
use Rattle.xp_packets.specs.declared.modulus.Modulus.{Modulus}
use Rattle.xp_step.specs.declared.output.Outgoing.{Outgoing}
use Rattle.xp_lock.specs.Passes.{Pass}
use Rattle.xp_lines.specs.Flow.{Leaves}
use Rattle.xp_lines.specs.AnswerTimer.{since_after_put, since_after_all}
use Rattle.xp_lines.specs.Wire.{NoneCloses, Took, Writes, WritesRest, carried, closes, wire}
use Rattle.xp_lines.specs.steps.Wire.{Fills, TakenOut, WrittenOut}
use Rattle.xp_lines.specs.Reads.{keeps, stays}
use Rattle.xp_lines.specs.declared.over.Over.{Over}
use Rattle.xp_lines.specs.declared.over.Over.TheVariants as overs
use Rattle.xp_lines.proofs.Octets.{appends_both, appends_nothing}

module _ {A : Type 0} where
  took_nothing : (old : Pass A) → Took old [] old
  took_nothing old = record { line = refl; seen = refl; taken = sym (append-nil old.taken) }

  pub took_both : (old now next : Pass A) (items others : List (Outgoing A)) → Took old items now → Took now others next → Took old (items ++ others) next
  took_both old now next items others first second = record {
    line = second.line ∙ first.line;
    seen = second.seen ∙ first.seen;
    taken = second.taken ∙ ap (λ xs. xs ++ others) first.taken ∙ append_assoc old.taken items others;
  }

  took_more : (old now next : Pass A) (items : List (Outgoing A)) (item : Outgoing A) → Took old items now → next ≡ record now { taken = now.taken ++ item ∷ [] } → Took old (items ++ item ∷ []) next
  took_more old now next items item took same = record {
    line = ap (λ p. p.line) same ∙ took.line;
    seen = ap (λ p. p.seen) same ∙ took.seen;
    taken = ap (λ p. p.taken) same ∙ ap (λ xs. xs ++ item ∷ []) took.taken ∙ append_assoc old.taken items (item ∷ []);
  }

  wire_more : (modulus : Modulus) (connection : ℕ) (items : List (Outgoing A)) (item : Outgoing A) → wire modulus connection (items ++ item ∷ []) ≡ wire modulus connection items ++ carried modulus connection item
  wire_more modulus connection items item = flat_map-append (carried modulus connection) items (item ∷ []) ∙ ap (λ xs. wire modulus connection items ++ xs) (append-nil (carried modulus connection item))

  rung_more : (now connection : ℕ) (since : Option ℕ) (items : List (Outgoing A)) (item : Outgoing A)
      → since_after_all now connection since (items ++ item ∷ [])
      ≡ cond (item.connection == connection) (since_after_put now (since_after_all now connection since items) item.put) (since_after_all now connection since items)
  rung_more now connection since [] item = refl
  rung_more now connection since (first ∷ items) item = rung_more now connection (cond (first.connection == connection) (since_after_put now since first.put) since) items item

  fills_nothing : (modulus : Modulus) (connection : ℕ) (old : Pass A) (unwritten : List ℕ) → Fills modulus connection old unwritten old unwritten []
  fills_nothing modulus connection old unwritten = record { items = []; took = took_nothing old; few = omega arith; whole = refl }

  one_more : (items : List (Outgoing A)) (item : Outgoing A) (count : ℕ) → length items ≤ count → length (items ++ item ∷ []) ≤ count + 1
  one_more items item count few = let many : length (items ++ item ∷ []) ≡ length items + 1 = length-append items (item ∷ []) in omega (arith, many)

  room_for_one : (items : List (Outgoing A)) (item : Outgoing A) (count : ℕ) → length items ≤ count → count < 64 → length (items ++ item ∷ []) ≤ 64
  room_for_one items item count few below = let more : length (items ++ item ∷ []) ≤ count + 1 = one_more items item count few in omega (arith, more)

  pub none_closes_both : (connection : ℕ) (items others : List (Outgoing A)) → NoneCloses connection items → NoneCloses connection others → NoneCloses connection (items ++ others)
  none_closes_both connection [] others none all = all
  none_closes_both connection (item ∷ items) others none all = (none.0, none_closes_both connection items others none.1 all)

  -- one output more, whose octets stand behind the others or are lost
  fills_with : (modulus : Modulus) (connection : ℕ) (old : Pass A) (unwritten : List ℕ) (now : Pass A) (left : List ℕ) (item : Outgoing A) (next : Pass A) (more lost : List ℕ) (count : ℕ)
      → (so_far : Fills modulus connection old unwritten now left []) → length so_far.items ≤ count → count < 64 → next ≡ record now { taken = now.taken ++ item ∷ [] } → left ++ carried modulus connection item ≡ more ++ lost
      → Fills modulus connection old unwritten next more lost
  fills_with modulus connection old unwritten now left item next more lost count so_far few below taken placed = record {
    items = so_far.items ++ item ∷ [];
    took = took_more old now next so_far.items item so_far.took taken;
    few = room_for_one so_far.items item count few below;
    whole =
        ap (λ xs. unwritten ++ xs) (wire_more modulus connection so_far.items item) ∙ sym (append_assoc unwritten (wire modulus connection so_far.items) (carried modulus connection item))
        ∙ ap (λ xs. xs ++ carried modulus connection item) (so_far.whole ∙ append-nil left) ∙ placed;
  }

  fills_more : (modulus : Modulus) (connection : ℕ) (old : Pass A) (unwritten : List ℕ) (now : Pass A) (left : List ℕ) (item : Outgoing A) (next : Pass A) (more : List ℕ) (count : ℕ)
      → (so_far : Fills modulus connection old unwritten now left []) → length so_far.items ≤ count → count < 64 → next ≡ record now { taken = now.taken ++ item ∷ [] } → more ≡ left ++ carried modulus connection item
      → Fills modulus connection old unwritten next more []
  fills_more modulus connection old unwritten now left item next more count so_far few below taken appended =
      fills_with modulus connection old unwritten now left item next more [] count so_far few below taken (sym appended ∙ sym (append-nil more))

  fills_lost : (modulus : Modulus) (connection : ℕ) (old : Pass A) (unwritten : List ℕ) (now : Pass A) (left : List ℕ) (item : Outgoing A) (next : Pass A) (same : List ℕ) (count : ℕ)
      → (so_far : Fills modulus connection old unwritten now left []) → length so_far.items ≤ count → count < 64 → next ≡ record now { taken = now.taken ++ item ∷ [] } → same ≡ left
      → Fills modulus connection old unwritten next same (carried modulus connection item)
  fills_lost modulus connection old unwritten now left item next same count so_far few below taken kept =
      fills_with modulus connection old unwritten now left item next same (carried modulus connection item) count so_far few below taken (ap (λ xs. xs ++ carried modulus connection item) (sym kept))

  -- what was taken so far, which is at most so many outputs of which none closes the connection, and since when an incoming call
  -- waits by it
  pub record Filled (modulus : Modulus) (now connection : ℕ) (old : Pass A) (unwritten : List ℕ) (before : Option ℕ) (pass : Pass A) (left : List ℕ) (since : Option ℕ) (count : ℕ) : Type 0 where
    pub fills : Fills modulus connection old unwritten pass left []
    pub since_is : since ≡ since_after_all now connection before fills.items
    pub counted : length fills.items ≤ count
    pub none_closes : NoneCloses connection fills.items

  pub filled_nothing : (modulus : Modulus) (now connection : ℕ) (old : Pass A) (unwritten : List ℕ) (since : Option ℕ) → Filled modulus now connection old unwritten since old unwritten since 0
  unfolding fills_nothing
  filled_nothing modulus now connection old unwritten since = record { fills = fills_nothing modulus connection old unwritten; since_is = refl; counted = omega arith; none_closes = tt }

  rung_then : (now connection : ℕ) (before since later : Option ℕ) (items : List (Outgoing A)) (item : Outgoing A)
      → since ≡ since_after_all now connection before items
      → later ≡ cond (item.connection == connection) (since_after_put now since item.put) since
      → later ≡ since_after_all now connection before (items ++ item ∷ [])
  rung_then now connection before since later items item was rang =
      rang ∙ ap (λ s. cond (item.connection == connection) (since_after_put now s item.put) s) was ∙ sym (rung_more now connection before items item)

  pub filled_more : (modulus : Modulus) (now connection : ℕ) (old : Pass A) (unwritten : List ℕ) (before : Option ℕ) (pass : Pass A) (left : List ℕ) (since : Option ℕ) (count : ℕ) (item : Outgoing A) (next : Pass A) (more : List ℕ) (later : Option ℕ)
      → Filled modulus now connection old unwritten before pass left since count → count < 64 → next ≡ record pass { taken = pass.taken ++ item ∷ [] } → more ≡ left ++ carried modulus connection item
      → later ≡ cond (item.connection == connection) (since_after_put now since item.put) since
      → closes connection item ≡ false
      → Filled modulus now connection old unwritten before next more later (count + 1)
  unfolding fills_more fills_with
  filled_more modulus now connection old unwritten before pass left since count item next more later so_far below taken appended rang stays_open = record {
    fills = fills_more modulus connection old unwritten pass left item next more count so_far.fills so_far.counted below taken appended;
    since_is = rung_then now connection before since later so_far.fills.items item so_far.since_is rang;
    counted = one_more so_far.fills.items item count so_far.counted;
    none_closes = none_closes_both connection so_far.fills.items (item ∷ []) so_far.none_closes (stays_open, tt);
  }

  -- no output is there any more, or enough were taken
  pub filled_out : (modulus : Modulus) (now connection : ℕ) (old : Pass A) (unwritten : List ℕ) (before : Option ℕ) (pass : Pass A) (left : List ℕ) (since : Option ℕ) (count : ℕ) (next : Pass A)
      → Filled modulus now connection old unwritten before pass left since count → next ≡ pass → TakenOut modulus now connection old unwritten before None next left since
  filled_out modulus now connection old unwritten before pass left since count next filled same = subst
      (λ p. TakenOut modulus now connection old unwritten before None p left since) (sym same)
      ([], filled.fills, λ _. (refl, filled.since_is), λ _. filled.none_closes)

  -- the last output closes the connection
  pub filled_closed : (modulus : Modulus) (now connection : ℕ) (old : Pass A) (unwritten : List ℕ) (before : Option ℕ) (pass : Pass A) (left : List ℕ) (since : Option ℕ) (count : ℕ) (item : Outgoing A) (next : Pass A) (more : List ℕ) (later : Option ℕ)
      → Filled modulus now connection old unwritten before pass left since count → count < 64 → next ≡ record pass { taken = pass.taken ++ item ∷ [] } → more ≡ left ++ carried modulus connection item
      → later ≡ cond (item.connection == connection) (since_after_put now since item.put) since
      → TakenOut modulus now connection old unwritten before (Some overs.Link) next more later
  unfolding fills_more fills_with
  filled_closed modulus now connection old unwritten before pass left since count item next more later so_far below taken appended rang = (
    [],
    fills_more modulus connection old unwritten pass left item next more count so_far.fills so_far.counted below taken appended,
    λ _. (refl, rung_then now connection before since later so_far.fills.items item so_far.since_is rang),
    λ is. absurd (let never : false ≡ true = is in cc),
  )

  -- the last output is lost
  pub filled_lost : (modulus : Modulus) (now connection : ℕ) (old : Pass A) (unwritten : List ℕ) (before : Option ℕ) (pass : Pass A) (left : List ℕ) (since : Option ℕ) (count : ℕ) (item : Outgoing A) (next : Pass A) (same : List ℕ) (later : Option ℕ)
      → Filled modulus now connection old unwritten before pass left since count → count < 64 → next ≡ record pass { taken = pass.taken ++ item ∷ [] } → same ≡ left
      → TakenOut modulus now connection old unwritten before (Some overs.Memory) next same later
  filled_lost modulus now connection old unwritten before pass left since count item next same later so_far below taken kept = (
    carried modulus connection item,
    fills_lost modulus connection old unwritten pass left item next same count so_far.fills so_far.counted below taken kept,
    λ is. absurd (let never : false ≡ true = is in cc),
    λ is. absurd (let never : false ≡ true = is in cc),
  )

  -- the link does not take all that was unwritten
  writes_first : (modulus : Modulus) (connection : ℕ) (old : Pass A) (unwritten : List ℕ) (before : Option (List ℕ)) (left : List ℕ) (after : Option (List ℕ))
      → Leaves before after unwritten left → Writes modulus connection old unwritten before old left after []
  writes_first modulus connection old unwritten before left after leaves = record {
    items = [];
    took = took_nothing old;
    few = omega arith;
    pushed = leaves.pushed;
    grows = leaves.grows;
    whole = append-nil unwritten ∙ sym leaves.whole ∙ sym (append-nil (leaves.pushed ++ left));
    in_turn = inl refl;
  }

  pub written_first : (modulus : Modulus) (now connection : ℕ) (old : Pass A) (unwritten : List ℕ) (before : Option (List ℕ)) (left : List ℕ) (after : Option (List ℕ)) (since : Option ℕ) (over : Option Over)
      → Leaves before after unwritten left → WrittenOut modulus now connection old unwritten before since over old left after since
  unfolding writes_first
  written_first modulus now connection old unwritten before left after since over leaves =
      ([], writes_first modulus connection old unwritten before left after leaves, λ _. (refl, refl), λ _. tt)

  -- what was unwritten was pushed, outputs were taken, and pushed
  writes_all : (modulus : Modulus) (connection : ℕ) (old : Pass A) (unwritten : List ℕ) (before : Option (List ℕ)) (rest : List ℕ) (between : Option (List ℕ)) (new : Pass A) (filled lost left : List ℕ) (after : Option (List ℕ))
      → Leaves before between unwritten rest → rest ≡ [] → Fills modulus connection old rest new filled lost → Leaves between after filled left
      → Writes modulus connection old unwritten before new left after lost
  writes_all modulus connection old unwritten before rest between new filled lost left after first none fills second = record {
    items = fills.items;
    took = fills.took;
    few = fills.few;
    pushed = first.pushed ++ second.pushed;
    grows = appends_both before between after first.pushed second.pushed first.grows second.grows;
    whole =
        ap (λ xs. xs ++ wire modulus connection fills.items) (sym first.whole) ∙ append_assoc first.pushed rest (wire modulus connection fills.items)
        ∙ ap (λ xs. first.pushed ++ xs) (fills.whole ∙ ap (λ xs. xs ++ lost) (sym second.whole))
        ∙ sym (append_assoc first.pushed (second.pushed ++ left) lost)
        ∙ ap (λ xs. xs ++ lost) (sym (append_assoc first.pushed second.pushed left));
    in_turn =
        inr (second.pushed, ap (λ xs. xs ++ second.pushed) (sym (append-nil first.pushed) ∙ ap (λ xs. first.pushed ++ xs) (sym none) ∙ first.whole));
  }

  -- the same, where the outputs were taken by the line's modulus under another name
  pub written_by : (modulus other : Modulus) (now connection : ℕ) (old : Pass A) (unwritten : List ℕ) (before : Option (List ℕ)) (rest : List ℕ) (between : Option (List ℕ)) (new : Pass A) (filled left : List ℕ) (after : Option (List ℕ)) (since later : Option ℕ) (taking over : Option Over)
      → Leaves before between unwritten rest → rest ≡ [] → other ≡ modulus → TakenOut other now connection old rest since taking new filled later
      → Leaves between after filled left → (keeps over ≡ true → keeps taking ≡ true) → (stays over ≡ true → stays taking ≡ true)
      → WrittenOut modulus now connection old unwritten before since over new left after later
  unfolding writes_all
  written_by modulus other now connection old unwritten before rest between new filled left after since later taking over first none same_modulus taken second keeps_more stays_more =
      let out : TakenOut modulus now connection old rest since taking new filled later = subst (λ m. TakenOut m now connection old rest since taking new filled later) same_modulus taken in (
        out.0,
        writes_all modulus connection old unwritten before rest between new filled out.0 left after first none out.1 second,
        λ is. out.2 (keeps_more is),
        λ is. out.3 (stays_more is),
      )

  -- nothing was written yet
  pub rest_nothing : (modulus : Modulus) (connection : ℕ) (old : Pass A) (unwritten : List ℕ) (before : Option (List ℕ)) → WritesRest modulus connection old unwritten before old unwritten before []
  rest_nothing modulus connection old unwritten before = record { items = []; took = took_nothing old; pushed = []; grows = appends_nothing before; whole = refl }

  -- outputs were taken, and none of them was written
  pub rest_lost : (modulus : Modulus) (connection : ℕ) (old : Pass A) (unwritten : List ℕ) (before : Option (List ℕ)) (new : Pass A) (items : List (Outgoing A)) → Took old items new
      → WritesRest modulus connection old unwritten before new unwritten before (wire modulus connection items)
  rest_lost modulus connection old unwritten before new items took = record { items = items; took = took; pushed = []; grows = appends_nothing before; whole = refl }

  -- one write more
  pub rest_more : (modulus other : Modulus) (connection : ℕ) (old : Pass A) (unwritten : List ℕ) (before : Option (List ℕ)) (now : Pass A) (left : List ℕ) (between : Option (List ℕ)) (next : Pass A) (rest : List ℕ) (after : Option (List ℕ)) (lost : List ℕ)
      → WritesRest modulus connection old unwritten before now left between [] → other ≡ modulus → Writes other connection now left between next rest after lost
      → WritesRest modulus connection old unwritten before next rest after lost
  rest_more modulus other connection old unwritten before now left between next rest after lost so_far same_modulus more =
      let wrote : Writes modulus connection now left between next rest after lost = subst (λ m. Writes m connection now left between next rest after lost) same_modulus more in
      record {
        items = so_far.items ++ wrote.items;
        took = took_both old now next so_far.items wrote.items so_far.took wrote.took;
        pushed = so_far.pushed ++ wrote.pushed;
        grows = appends_both before between after so_far.pushed wrote.pushed so_far.grows wrote.grows;
        whole =
            ap (λ xs. unwritten ++ xs) (flat_map-append (carried modulus connection) so_far.items wrote.items)
            ∙ sym (append_assoc unwritten (wire modulus connection so_far.items) (wire modulus connection wrote.items))
            ∙ ap (λ xs. xs ++ wire modulus connection wrote.items) (so_far.whole ∙ append-nil (so_far.pushed ++ left))
            ∙ append_assoc so_far.pushed left (wire modulus connection wrote.items)
            ∙ ap (λ xs. so_far.pushed ++ xs) wrote.whole
            ∙ sym (append_assoc so_far.pushed (wrote.pushed ++ rest) lost)
            ∙ ap (λ xs. xs ++ lost) (sym (append_assoc so_far.pushed wrote.pushed rest));
      }

  -- the same, where nothing was lost
  pub rest_again : (modulus other : Modulus) (connection : ℕ) (old : Pass A) (unwritten : List ℕ) (before : Option (List ℕ)) (now : Pass A) (left : List ℕ) (between : Option (List ℕ)) (next : Pass A) (rest : List ℕ) (after : Option (List ℕ)) (lost : List ℕ)
      → WritesRest modulus connection old unwritten before now left between [] → other ≡ modulus → Writes other connection now left between next rest after lost → lost ≡ []
      → WritesRest modulus connection old unwritten before next rest after []
  rest_again modulus other connection old unwritten before now left between next rest after lost so_far same_modulus more none =
      subst (WritesRest modulus connection old unwritten before next rest after) none (rest_more modulus other connection old unwritten before now left between next rest after lost so_far same_modulus more)
