-- Octets that pass one by one: by the next one no frame is whole, or one is.
use Rattle.std.proofs.Common.{◌≡◌, ◌<◌, ◌+◌, ◌++◌, ◌∷◌, [], List, ℕ, Bool, false, refl, ap, sym, ◌∙◌, subst, length, take, get_or, lit<, append_assoc, append-nil}
use Rattle.std.proofs.lemmas.List.{same_from_push, take_more}
use Rattle.std.specs.List.{AllByRecursion}
use Rattle.xp_clearing.specs.declared.clearing.Clearing.{Clearing}
use Rattle.xp_clearing.specs.declared.frame_watch.PassedFrame.{PassedFrame}
use Rattle.xp_clearing.specs.Calls.{Passes, after_all, joined}
use Rattle.xp_clearing.specs.Frames.{IsUnfinished, IsWhole, passed_by}

-- the octets of one frame more
joined_more : (frames : List (List ℕ)) (frame : List ℕ) → joined (frames ++ frame ∷ []) ≡ joined frames ++ frame
joined_more [] frame = append-nil frame
joined_more (first ∷ frames) frame = ap (λ l. first ++ l) (joined_more frames frame) ∙ sym (append_assoc first (joined frames) frame)

each_more : (frames : List (List ℕ)) (frame : List ℕ) → AllByRecursion IsWhole frames → IsWhole frame → AllByRecursion IsWhole (frames ++ frame ∷ [])
each_more [] frame each whole = (whole, each)
each_more (first ∷ frames) frame each whole = (each.0, each_more frames frame each.1 whole)

after_more : (step : Clearing → PassedFrame → Clearing) (before : Clearing) (frames : List (List ℕ)) (frame : List ℕ) → after_all step before (frames ++ frame ∷ []) ≡ step (after_all step before frames) (passed_by frame)
after_more step before [] frame = refl
after_more step before (first ∷ frames) frame = after_more step (step before (passed_by first)) frames frame

module _ (step : Clearing → PassedFrame → Clearing) (is_enough : Clearing → Bool) (before : Clearing) (part : List ℕ) where
  -- an octet by which no frame is whole
  one_more : (octets : List ℕ) (after : Clearing) (left : List ℕ) (octet : ℕ) → Passes step is_enough before part octets after left → IsUnfinished (left ++ octet ∷ []) → Passes step is_enough before part (octets ++ octet ∷ []) after (left ++ octet ∷ [])
  one_more octets after left octet passes unfinished = record {
    frames = passes.frames;
    whole = sym (append_assoc part octets (octet ∷ [])) ∙ ap (λ l. l ++ octet ∷ []) passes.whole ∙ append_assoc (joined passes.frames) left (octet ∷ []);
    each = passes.each;
    rest = unfinished;
    clears = passes.clears;
    early = passes.early;
  }

  -- an octet by which a frame is whole
  one_whole : (octets : List ℕ) (after : Clearing) (left : List ℕ) (octet : ℕ) → Passes step is_enough before part octets after left → is_enough after ≡ false → IsWhole (left ++ octet ∷ []) → Passes step is_enough before part (octets ++ octet ∷ []) (step after (passed_by (left ++ octet ∷ []))) []
  one_whole octets after left octet passes goes_on whole =
      let frame : List ℕ = left ++ octet ∷ [] in
      record {
        frames = passes.frames ++ frame ∷ [];
        whole =
            sym (append_assoc part octets (octet ∷ [])) ∙ ap (λ l. l ++ octet ∷ []) passes.whole ∙ append_assoc (joined passes.frames) left (octet ∷ [])
            ∙ sym (joined_more passes.frames frame) ∙ sym (append-nil (joined (passes.frames ++ frame ∷ [])));
        each = each_more passes.frames frame passes.each whole;
        rest = lit< tt;
        clears = ap (λ cleared. step cleared (passed_by frame)) passes.clears ∙ sym (after_more step before passes.frames frame);
        early = λ front last is.
            let same = (same_from_push passes.frames front frame last is).0 in
            ap (λ frames. is_enough (after_all step before frames)) (sym same) ∙ ap is_enough (sym passes.clears) ∙ goes_on;
      }

  -- the octet at a place passes, and no frame is whole by it
  pub part_passes : (octets : List ℕ) (place : ℕ) (after : Clearing) (left new : List ℕ) → Passes step is_enough before part (take place octets) after left → place < length octets → new ≡ left ++ get_or octets place 0 ∷ [] → IsUnfinished new → Passes step is_enough before part (take (place + 1) octets) after new
  part_passes octets place after left new passes lt is unfinished =
      let octet : ℕ = get_or octets place 0 in
      let unfinished_left : IsUnfinished (left ++ octet ∷ []) = subst IsUnfinished is unfinished in
      let Goal : List ℕ → List ℕ → Type 0 = λ passed rest. Passes step is_enough before part passed after rest in
      subst (λ passed. Goal passed new) (sym (take_more octets place 0 lt))
      (subst (Goal (take place octets ++ octet ∷ [])) (sym is) (one_more (take place octets) after left octet passes unfinished_left))

  -- the octet at a place passes, and a frame is whole by it
  pub whole_passes : (octets : List ℕ) (place : ℕ) (after cleared : Clearing) (left new : List ℕ) (frame : PassedFrame) → Passes step is_enough before part (take place octets) after left → is_enough after ≡ false → place < length octets → (new ≡ []) × IsWhole (left ++ get_or octets place 0 ∷ []) × (frame ≡ passed_by (left ++ get_or octets place 0 ∷ [])) → cleared ≡ step after frame → Passes step is_enough before part (take (place + 1) octets) cleared new
  whole_passes octets place after cleared left new frame passes goes_on lt whole is =
      let octet : ℕ = get_or octets place 0 in
      let Goal : List ℕ → Clearing → List ℕ → Type 0 = λ passed far rest. Passes step is_enough before part passed far rest in
      subst (λ passed. Goal passed cleared new) (sym (take_more octets place 0 lt))
      (subst (Goal (take place octets ++ octet ∷ []) cleared) (sym whole.0)
      (subst (λ far. Goal (take place octets ++ octet ∷ []) far []) (sym (is ∙ ap (step after) whole.2))
      (one_whole (take place octets) after left octet passes goes_on whole.1)))
