-- What a writer keeps as it is given records.
use Rattle.std.proofs.Common.{◌≡◌, ℕ, ◌+◌, ◌<◌, ◌≤◌, Bool, true, false, nat_lt, List, [], ◌∷◌, ◌++◌, Option, append-nil, append_assoc, ap, arith, drop, flat_map, length, refl, subst, sym, take, ◌∙◌}
use Rattle.std.proofs.lemmas.List.{drop-append-le, drop_at, flat_map_more, length-drop, length_push, take-append-le, take_all, take_at}
use Rattle.std.proofs.lemmas.Bool.{ltb-false, ltb-true}
use Rattle.std.proofs.lemmas.List.Elements.{All-cons, All-nil, All-push, All-same}
use Rattle.xp_cdr.specs.declared.cut.Cut.{Cut}
use Rattle.xp_cdr.specs.declared.ended.EndedCall.{EndedCall}
use Rattle.xp_cdr.specs.declared.progress.Progress.{Progress}
use Rattle.xp_cdr.specs.Parts.{BeginLater, EndedBy, OpenFile}
use Rattle.xp_cdr.specs.steps.Batch.{Texts, end_of_all, first_cut, with_part, with_text, with_texts}
use Rattle.xp_cdr.specs.steps.Writer.{AreCut, AreOnDisk, IsAt, IsCutAt, IsSent, end_of}
use Rattle.xp_cdr.proofs.SentLemmas.{end_within, start_within}
use Rattle.xp_cdr.proofs.WriterLemmas.{more_wait}

part_octets : (test : Bool) (texts : Texts) (part : ℕ) (text : List ℕ) → (with_part test texts part text).octets ≡ texts.octets ++ text
part_octets true texts part text = refl
part_octets false texts part text = refl

part_cuts : (test : Bool) (texts : Texts) (part : ℕ) (text : List ℕ) → (more : List Cut) × ((with_part test texts part text).cuts ≡ texts.cuts ++ more)
part_cuts true texts part text = (record { part = part; octets = length texts.octets; count = texts.count } ∷ [], refl)
part_cuts false texts part text = ([], sym (append-nil texts.cuts))

-- the next end where a cut follows the others
first_octets : (cuts : List Cut) (new end other : Cut) → new.octets ≡ end.octets → (first_cut (cuts ++ new ∷ []) other).octets ≡ (first_cut cuts end).octets
first_octets [] new end other same = same
first_octets (cut ∷ cuts) new end other same = refl

-- more octets of the last part wait
at_more : (cuts : List Cut) (end longer : Cut) (synced octets more taken : List ℕ) (place : Option ℕ) (start : ℕ) → end.octets ≡ length octets
    → longer.octets ≡ length (octets ++ more) → (first_cut cuts end).octets ≤ length octets → start ≤ length octets
    → IsAt synced (drop start (take (first_cut cuts end).octets octets)) taken place
    → IsAt synced (drop start (take (first_cut cuts longer).octets (octets ++ more))) taken place
at_more [] end longer synced octets more taken place start short long within begins at =
    let all = take_all end.octets octets (omega (arith, short)) in
    let whole = take_all longer.octets (octets ++ more) (omega (arith, long)) in
    subst (λ rest. IsAt synced (drop start rest) taken place) (sym whole)
    (subst (λ rest. IsAt synced rest taken place) (sym (drop-append-le start octets more begins))
    (more_wait synced (drop start octets) more taken place (subst (λ rest. IsAt synced (drop start rest) taken place) all at)))
at_more (cut ∷ cuts) end longer synced octets more taken place start short long within begins at =
    subst (λ rest. IsAt synced (drop start rest) taken place) (sym (take-append-le cut.octets octets more within)) at

module _ (part_of : ℕ → ℕ) (text : EndedCall → List ℕ) where
  -- the octets of several texts
  pub texts_octets : (texts : Texts) (calls : List EndedCall) → (with_texts part_of text texts calls).octets ≡ texts.octets ++ flat_map text calls
  texts_octets texts [] = sym (append-nil texts.octets)
  texts_octets texts (call ∷ calls) =
      let part = part_of call.charging.ended in
      texts_octets (with_text texts part (text call)) calls
      ∙ ap (λ octets. octets ++ flat_map text calls) (part_octets (nat_lt texts.part part) texts part (text call))
      ∙ append_assoc texts.octets (text call) (flat_map text calls)

  pub texts_cuts : (texts : Texts) (calls : List EndedCall) → (more : List Cut) × ((with_texts part_of text texts calls).cuts ≡ texts.cuts ++ more)
  texts_cuts texts [] = ([], sym (append-nil texts.cuts))
  texts_cuts texts (call ∷ calls) =
      let part = part_of call.charging.ended in
      let first = part_cuts (nat_lt texts.part part) texts part (text call) in
      let rest = texts_cuts (with_text texts part (text call)) calls in
      (first.0 ++ rest.0, rest.1 ∙ ap (λ cuts. cuts ++ rest.0) first.1 ∙ append_assoc texts.cuts first.0 rest.0)

  -- one text more
  pub texts_push : (texts : Texts) (calls : List EndedCall) (call : EndedCall)
      → with_texts part_of text texts (calls ++ call ∷ []) ≡ with_text (with_texts part_of text texts calls) (part_of call.charging.ended) (text call)
  texts_push texts [] call = refl
  texts_push texts (first ∷ calls) call = texts_push (with_text texts (part_of first.charging.ended) (text first)) calls call

  begin_more : (part : ℕ) (calls more : List EndedCall) → 0 < length calls → BeginLater part_of part calls → BeginLater part_of part (calls ++ more)
  begin_more part [] more some later = absurd (omega (arith, some))
  begin_more part (call ∷ calls) more some later = later

  -- a cut before one call more
  cut_stays : (calls : List EndedCall) (part from : ℕ) (cut : Cut) (call : EndedCall) → IsCutAt part_of text calls part from cut
      → IsCutAt part_of text (calls ++ call ∷ []) part from cut
  cut_stays calls part from cut call is =
      let front : take cut.count (calls ++ call ∷ []) ≡ take cut.count calls = take-append-le cut.count calls (call ∷ []) (omega (arith, is.within)) in
      record {
        behind = is.behind;
        within = omega (arith, is.within, length_push calls call);
        octets_are = is.octets_are ∙ ap (λ calls. length (flat_map text calls)) (sym front);
        own = All-same (EndedBy part_of part) (drop from (take cut.count (calls ++ call ∷ []))) (drop from (take cut.count calls)) (ap (drop from) front) is.own;
        later = is.later;
        next =
            subst (BeginLater part_of part) (sym (drop-append-le cut.count calls (call ∷ []) (omega (arith, is.within))))
            (begin_more part (drop cut.count calls) (call ∷ []) (omega (arith, is.within, length-drop cut.count calls)) is.next);
      }

  -- a call that did not end in a later part than the last
  cut_more : (calls : List EndedCall) (last part from : ℕ) (cuts : List Cut) (call : EndedCall) → AreCut part_of text calls last part from cuts
      → from ≤ length calls → part_of call.charging.ended ≤ last → AreCut part_of text (calls ++ call ∷ []) last part from cuts
  cut_more calls last part from [] call are within early = (
    are.0,
    All-same (EndedBy part_of part) (drop from (calls ++ call ∷ [])) (drop from calls ++ call ∷ []) (drop-append-le from calls (call ∷ []) within)
        (All-push (EndedBy part_of part) (drop from calls) call are.1 (omega (arith, early, are.0))),
  )
  cut_more calls last part from (cut ∷ cuts) call are within early =
      (cut_stays calls part from cut call are.0, cut_more calls last cut.part cut.count cuts call are.1 (omega (arith, are.0.within)) early)

  -- one that did
  cut_new : (calls : List EndedCall) (last part from : ℕ) (cuts : List Cut) (call : EndedCall) → AreCut part_of text calls last part from cuts
      → from ≤ length calls → last < part_of call.charging.ended
      → AreCut part_of text (calls ++ call ∷ []) (part_of call.charging.ended) part from
      (cuts ++ record { part = part_of call.charging.ended; octets = length (flat_map text calls); count = length calls } ∷ [])
  cut_new calls last part from [] call are within late =
      let front : take (length calls) (calls ++ call ∷ []) ≡ calls = take_at calls (call ∷ []) (length calls) refl in
      let behind : drop (length calls) (calls ++ call ∷ []) ≡ call ∷ [] = drop_at calls (call ∷ []) (length calls) refl in
      let new = part_of call.charging.ended in (
        record {
          behind = within;
          within = omega (arith, length_push calls call);
          octets_are = ap (λ calls. length (flat_map text calls)) (sym front);
          own =
              All-same (EndedBy part_of part) (drop from (take (length calls) (calls ++ call ∷ []))) (drop from calls) (ap (drop from) front) are.1;
          later = omega (arith, are.0, late);
          next = subst (BeginLater part_of part) (sym behind) (omega (arith, are.0, late));
        },
        (
          refl,
          All-same (EndedBy part_of new) (drop (length calls) (calls ++ call ∷ [])) (call ∷ []) behind
              (All-cons (EndedBy part_of new) call [] (omega arith) (All-nil (EndedBy part_of new))),
        ),
      )
  cut_new calls last part from (cut ∷ cuts) call are within late =
      (cut_stays calls part from cut call are.0, cut_new calls last cut.part cut.count cuts call are.1 (omega (arith, are.0.within)) late)

  module _ (given : List EndedCall) (synced taken : List ℕ) (current : OpenFile) (batch : Texts) (progress : Progress)
      (sent : IsSent part_of text given synced taken current batch progress) (call : EndedCall) where
    front : take progress.records (sent.all ++ call ∷ []) ≡ take progress.records sent.all
    front = take-append-le progress.records sent.all (call ∷ []) sent.records_within

    octets : batch.octets ++ text call ≡ flat_map text (sent.all ++ call ∷ [])
    octets = ap (λ octets. octets ++ text call) sent.octets_are ∙ flat_map_more text [] sent.all call

    -- all but the cuts is so with any batch that has these octets
    given_with : (now : Texts) → now.octets ≡ batch.octets ++ text call → now.count ≡ batch.count + 1 → progress.cuts ≤ length now.cuts
        → AreCut part_of text (sent.all ++ call ∷ []) now.part current.part progress.records (drop progress.cuts now.cuts)
        → IsAt synced (drop progress.octets (take (end_of now progress).octets now.octets)) taken progress.taken
        → IsSent part_of text (given ++ call ∷ []) synced taken current now progress
    given_with now same counted within cuts at = record {
      before = sent.before;
      all = sent.all ++ call ∷ [];
      given_are = ap (λ given. given ++ call ∷ []) sent.given_are ∙ append_assoc sent.before sent.all (call ∷ []);
      octets_are = same ∙ octets;
      count_is = counted ∙ ap (λ n. n + 1) sent.count_is ∙ sym (length_push sent.all call);
      records_within = omega (arith, sent.records_within, length_push sent.all call);
      cuts_within = within;
      octets_is = sent.octets_is ∙ ap (λ calls. length (flat_map text calls)) (sym front);
      synced_is = sent.synced_is ∙ ap (λ calls. flat_map text (sent.before ++ calls)) (sym front);
      on_disk = subst (λ calls. AreOnDisk part_of text current (sent.before ++ calls)) (sym front) sent.on_disk;
      cuts_are = cuts;
      at = at;
    }

    given_part : (test : Bool) → nat_lt batch.part (part_of call.charging.ended) ≡ test
        → IsSent part_of text (given ++ call ∷ []) synced taken current (with_part test batch (part_of call.charging.ended) (text call)) progress
    given_part true is =
        let part = part_of call.charging.ended in
        let new : Cut = record { part = part; octets = length batch.octets; count = batch.count } in
        let now = with_part true batch part (text call) in
        let cuts : drop progress.cuts now.cuts ≡ drop progress.cuts batch.cuts ++ new ∷ [] = drop-append-le progress.cuts batch.cuts (new ∷ []) sent.cuts_within in
        let end : (end_of now progress).octets ≡ (end_of batch progress).octets =
        ap (λ cuts. (first_cut cuts (end_of_all now)).octets) cuts ∙ first_octets (drop progress.cuts batch.cuts) new (end_of_all batch) (end_of_all now) refl in
        let short : take (end_of now progress).octets (batch.octets ++ text call) ≡ take (end_of batch progress).octets batch.octets =
        ap (λ n. take n (batch.octets ++ text call)) end
        ∙ take-append-le (end_of batch progress).octets batch.octets (text call) (end_within part_of text given synced taken current batch progress sent) in
        given_with now refl refl (omega (arith, sent.cuts_within, length_push batch.cuts new))
        (subst (AreCut part_of text (sent.all ++ call ∷ []) part current.part progress.records) (sym cuts)
        (subst (λ octets. AreCut part_of text (sent.all ++ call ∷ []) part current.part progress.records (drop progress.cuts batch.cuts ++ record { part = part; octets = octets; count = batch.count } ∷ []))
        (ap length (sym sent.octets_are))
        (subst (λ count. AreCut part_of text (sent.all ++ call ∷ []) part current.part progress.records (drop progress.cuts batch.cuts ++ record { part = part; octets = length (flat_map text sent.all); count = count } ∷ []))
        (sym sent.count_is)
        (cut_new sent.all batch.part current.part progress.records (drop progress.cuts batch.cuts) call sent.cuts_are sent.records_within (ltb-true batch.part part is)))))
        (subst (λ octets. IsAt synced (drop progress.octets octets) taken progress.taken) (sym short) sent.at)
    given_part false is =
        let now = with_part false batch (part_of call.charging.ended) (text call) in
        given_with now refl refl sent.cuts_within
        (cut_more sent.all batch.part current.part progress.records (drop progress.cuts batch.cuts) call sent.cuts_are sent.records_within (ltb-false batch.part (part_of call.charging.ended) is))
        (at_more (drop progress.cuts batch.cuts) (end_of_all batch) (end_of_all now) synced batch.octets (text call) taken progress.taken progress.octets refl refl
        (end_within part_of text given synced taken current batch progress sent) (start_within part_of text given synced taken current batch progress sent) sent.at)

    given_one : IsSent part_of text (given ++ call ∷ []) synced taken current (with_text batch (part_of call.charging.ended) (text call)) progress
    given_one = given_part (nat_lt batch.part (part_of call.charging.ended)) refl

  pub given_more : (given calls : List EndedCall) (synced taken : List ℕ) (current : OpenFile) (batch : Texts) (progress : Progress)
      → IsSent part_of text given synced taken current batch progress
      → IsSent part_of text (given ++ calls) synced taken current (with_texts part_of text batch calls) progress
  given_more given [] synced taken current batch progress sent =
      subst (λ given. IsSent part_of text given synced taken current batch progress) (sym (append-nil given)) sent
  given_more given (call ∷ calls) synced taken current batch progress sent =
      let one = with_text batch (part_of call.charging.ended) (text call) in
      subst (λ given. IsSent part_of text given synced taken current (with_texts part_of text one calls) progress) (append_assoc given (call ∷ []) calls)
      (given_more (given ++ call ∷ []) calls synced taken current one progress (given_one given synced taken current batch progress sent call))

  -- what waits, once more calls were given
  pub waits_more : (batch : Texts) (start : ℕ) (calls : List EndedCall) → start ≤ length batch.octets
      → drop start (with_texts part_of text batch calls).octets ≡ drop start batch.octets ++ flat_map text calls
  waits_more batch start calls within =
      ap (drop start) (texts_octets batch calls) ∙ drop-append-le start batch.octets (flat_map text calls) within
