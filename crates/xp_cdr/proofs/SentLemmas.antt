-- What a writer keeps as records come to the disk.
use Rattle.std.proofs.Common.{◌≡◌, ℕ, ◌+◌, ◌-◌, ◌<◌, ◌≤◌, List, [], ◌∷◌, ◌++◌, All, Option, Some, append-nil, append_assoc, ap, arith, drop, flat_map, length, refl, subst, sym, take, ◌∙◌}
use Rattle.std.proofs.lemmas.List.{drop_all, length-drop, length-take, nil_from_length, take-append-drop, take_all}
use Rattle.std.proofs.lemmas.List.Concat.{flat_map-append}
use Rattle.std.proofs.lemmas.List.Elements.{All-append, All-nil, All-same, All-weaker}
use Rattle.xp_cdr.specs.declared.cut.Cut.{Cut}
use Rattle.xp_cdr.specs.declared.ended.EndedCall.{EndedCall}
use Rattle.xp_cdr.specs.declared.progress.Progress.{Progress}
use Rattle.xp_cdr.specs.Files.{HasFront}
use Rattle.xp_cdr.specs.Parts.{AreFiled, BeginLater, EndedBefore, EndedBy, OpenFile}
use Rattle.xp_cdr.specs.steps.Batch.{Texts, end_of_all, first_cut, no_texts}
use Rattle.xp_cdr.specs.steps.Writer.{Advances, AreCut, AreOnDisk, IsAt, IsSent, IsSentWhole, end_of}
use Rattle.xp_cdr.proofs.TextLemmas.{drop_apart, take_apart, text_between, text_left, text_order, text_taken, text_within}
use Rattle.xp_cdr.proofs.WriterLemmas.{at_start, front_at, front_wider, none_taken}

-- no progress beyond
pub stays : (octets synced : List ℕ) (progress : Progress) (now : List ℕ) → now ≡ synced → Advances octets synced progress now progress
stays octets synced progress now same = record { more = []; synced_is = same ∙ sym (append-nil synced); rest_is = refl }

pub advances_on : (octets first second third : List ℕ) (one two three : Progress) → Advances octets first one second two → Advances octets second two third three
    → Advances octets first one third three
advances_on octets first second third one two three front behind = record {
  more = front.more ++ behind.more;
  synced_is =
      behind.synced_is ∙ ap (λ synced. synced ++ behind.more) front.synced_is ∙ append_assoc first front.more behind.more;
  rest_is =
      front.rest_is
      ∙ ap (λ rest. front.more ++ rest) behind.rest_is
      ∙ sym (append_assoc front.more behind.more (drop three.octets octets));
}

-- the progress at an end
abbrev after : ℕ → Cut → Progress
after cuts end = record { octets = end.octets; records = end.count; cuts = cuts; taken = Some 0 }

-- the next end is the next cut, or that of all
pub end_at_cut : (batch : Texts) (progress : Progress) (cut : Cut) (rest : List Cut) → drop progress.cuts batch.cuts ≡ cut ∷ rest → end_of batch progress ≡ cut
end_at_cut batch progress cut rest is = ap (λ cuts. first_cut cuts (end_of_all batch)) is

pub end_at_last : (batch : Texts) (progress : Progress) → drop progress.cuts batch.cuts ≡ [] → end_of batch progress ≡ end_of_all batch
end_at_last batch progress none = ap (λ cuts. first_cut cuts (end_of_all batch)) none

module _ (part_of : ℕ → ℕ) (text : EndedCall → List ℕ) where
  -- an end of calls of this part
  pub record EndsAt (calls : List EndedCall) (part from : ℕ) (end : Cut) : Type 0 where
    pub behind : from ≤ end.count
    pub within : end.count ≤ length calls
    pub octets_are : end.octets ≡ length (flat_map text (take end.count calls))
    pub own : All (EndedBy part_of part) (drop from (take end.count calls))

  ends_at : (calls : List EndedCall) (last part from : ℕ) (cuts : List Cut) (end : Cut) → AreCut part_of text calls last part from cuts → from ≤ length calls
      → end.count ≡ length calls → end.octets ≡ length (flat_map text calls) → EndsAt calls part from (first_cut cuts end)
  ends_at calls last part from [] end are within count octets =
      let whole : take end.count calls ≡ calls = take_all end.count calls (omega (arith, count)) in
      record {
        behind = omega (arith, within, count);
        within = omega (arith, count);
        octets_are = octets ∙ ap (λ front. length (flat_map text front)) (sym whole);
        own = All-same (EndedBy part_of part) (drop from (take end.count calls)) (drop from calls) (ap (drop from) whole) are.1;
      }
  ends_at calls last part from (cut ∷ cuts) end are within count octets =
      record { behind = are.0.behind; within = omega (arith, are.0.within); octets_are = are.0.octets_are; own = are.0.own }

  -- once they are on the disk, none is left of this part
  moved_on : (calls : List EndedCall) (last part from : ℕ) (cuts : List Cut) (end : Cut) → AreCut part_of text calls last part from cuts
      → end.count ≡ length calls → AreCut part_of text calls last part (first_cut cuts end).count cuts
  moved_on calls last part from [] end are count =
      (are.0, All-same (EndedBy part_of part) (drop end.count calls) [] (drop_all end.count calls (omega (arith, count))) (All-nil (EndedBy part_of part)))
  moved_on calls last part from (cut ∷ cuts) end are count = (
    record {
      behind = omega arith;
      within = are.0.within;
      octets_are = are.0.octets_are;
      own =
          All-same (EndedBy part_of part) (drop cut.count (take cut.count calls)) [] (drop_all cut.count (take cut.count calls) (omega (arith, length-take cut.count calls)))
          (All-nil (EndedBy part_of part));
      later = are.0.later;
      next = are.0.next;
    },
    are.1,
  )

  next_later : (calls : List EndedCall) (last part from : ℕ) (cuts : List Cut) (end : Cut) → AreCut part_of text calls last part from cuts
      → end.count ≡ length calls → BeginLater part_of part (drop (first_cut cuts end).count calls)
  next_later calls last part from [] end are count =
      subst (BeginLater part_of part) (sym (drop_all end.count calls (omega (arith, count)))) tt
  next_later calls last part from (cut ∷ cuts) end are count = are.0.next

  -- more of the records of the part of the open file are on the disk
  more_on_disk : (current : OpenFile) (calls more all : List EndedCall) → AreOnDisk part_of text current calls → All (EndedBy part_of current.part) more → all ≡ calls ++ more
      → AreOnDisk part_of text current all
  more_on_disk current calls more all on_disk own same = record {
    earlier = on_disk.earlier;
    here = on_disk.here ++ more;
    calls_are = same ∙ ap (λ front. front ++ more) on_disk.calls_are ∙ append_assoc on_disk.earlier on_disk.here more;
    before_is = on_disk.before_is;
    are_earlier = on_disk.are_earlier;
    are_here = All-append (EndedBy part_of current.part) on_disk.here more on_disk.are_here own;
  }

  -- the file of a later part is begun, as all records of these calls are on the disk
  pub all_before : (current : OpenFile) (calls : List EndedCall) (part : ℕ) (taken : List ℕ) → AreOnDisk part_of text current calls → taken ≡ flat_map text calls
      → current.part < part → AreOnDisk part_of text (record { part = part; before = taken }) calls
  all_before current calls part taken on_disk taken_is later = record {
    earlier = calls;
    here = [];
    calls_are = sym (append-nil calls);
    before_is = taken_is;
    are_earlier =
        All-same (EndedBefore part_of part) calls (on_disk.earlier ++ on_disk.here) on_disk.calls_are
        (All-append (EndedBefore part_of part) on_disk.earlier on_disk.here
        (All-weaker (EndedBefore part_of current.part) (EndedBefore part_of part) (λ call ended. omega (arith, ended, later)) on_disk.earlier on_disk.are_earlier)
        (All-weaker (EndedBy part_of current.part) (EndedBefore part_of part) (λ call ended. omega (arith, ended, later)) on_disk.here on_disk.are_here));
    are_here = All-nil (EndedBy part_of part);
  }

  -- a batch of nothing, where all records are on the disk
  pub sent_anew : (given : List EndedCall) (synced taken : List ℕ) (current : OpenFile) (part : ℕ) → IsSentWhole part_of text given synced taken current part
      → IsSent part_of text given synced taken current (no_texts part) (record { octets = 0; records = 0; cuts = 0; taken = Some 0 })
  sent_anew given synced taken current part whole = record {
    before = given;
    all = [];
    given_are = sym (append-nil given);
    octets_are = refl;
    count_is = refl;
    records_within = omega arith;
    cuts_within = omega arith;
    octets_is = refl;
    synced_is = whole.synced_is ∙ ap (flat_map text) (sym (append-nil given));
    on_disk = subst (AreOnDisk part_of text current) (sym (append-nil given)) whole.on_disk;
    cuts_are = (whole.part_is, All-nil (EndedBy part_of current.part));
    at = at_start synced [] taken whole.taken_is;
  }

  -- nothing was given yet
  pub none_given : (current : OpenFile) → current.before ≡ [] → IsSentWhole part_of text [] [] [] current current.part
  none_given current none = record {
    synced_is = refl;
    taken_is = refl;
    on_disk = record {
      earlier = [];
      here = [];
      calls_are = refl;
      before_is = none;
      are_earlier = All-nil (EndedBefore part_of current.part);
      are_here = All-nil (EndedBy part_of current.part);
    };
    part_is = refl;
  }

  pub same_sent : (given : List EndedCall) (synced taken synced_now taken_now : List ℕ) (current current_now : OpenFile) (batch : Texts) (progress progress_now : Progress)
      → IsSent part_of text given synced taken current batch progress → synced_now ≡ synced → taken_now ≡ taken → current_now ≡ current → progress_now ≡ progress
      → IsSent part_of text given synced_now taken_now current_now batch progress_now
  same_sent given synced taken synced_now taken_now current current_now batch progress progress_now sent one two three four =
      subst (λ progress. IsSent part_of text given synced_now taken_now current_now batch progress) (sym four)
      (subst (λ current. IsSent part_of text given synced_now taken_now current batch progress) (sym three)
      (subst (λ taken. IsSent part_of text given synced_now taken current batch progress) (sym two)
      (subst (λ synced. IsSent part_of text given synced taken current batch progress) (sym one) sent)))

  module _ (given : List EndedCall) (synced taken : List ℕ) (current : OpenFile) (batch : Texts) (progress : Progress)
      (sent : IsSent part_of text given synced taken current batch progress) where
    -- the next end
    pub end_is : EndsAt sent.all current.part progress.records (end_of batch progress)
    end_is =
        ends_at sent.all batch.part current.part progress.records (drop progress.cuts batch.cuts) (end_of_all batch) sent.cuts_are sent.records_within
        sent.count_is (ap length sent.octets_are)

    pub start_before_end : progress.octets ≤ (end_of batch progress).octets
    start_before_end =
        omega (arith, sent.octets_is, end_is.octets_are, text_order text sent.all progress.records (end_of batch progress).count end_is.behind)

    pub end_within : (end_of batch progress).octets ≤ length batch.octets
    end_within = omega (arith, end_is.octets_are, ap length sent.octets_are, text_within text sent.all (end_of batch progress).count)

    pub start_within : progress.octets ≤ length batch.octets
    start_within = omega (arith, start_before_end, end_within)

    -- the octets up to the next end, and those of all that waits
    piece_is : drop progress.octets (take (end_of batch progress).octets batch.octets) ≡ flat_map text (drop progress.records (take (end_of batch progress).count sent.all))
    piece_is =
        ap (λ octets. drop progress.octets (take (end_of batch progress).octets octets)) sent.octets_are
        ∙ ap (λ n. drop progress.octets (take n (flat_map text sent.all))) end_is.octets_are
        ∙ ap (drop progress.octets) (text_taken text sent.all (end_of batch progress).count)
        ∙ ap (λ n. drop n (flat_map text (take (end_of batch progress).count sent.all))) sent.octets_is
        ∙ text_between text sent.all progress.records (end_of batch progress).count end_is.behind

    pub waiting_is : drop progress.octets batch.octets ≡ flat_map text (drop progress.records sent.all)
    waiting_is =
        ap (drop progress.octets) sent.octets_are
        ∙ ap (λ n. drop n (flat_map text sent.all)) sent.octets_is
        ∙ text_left text sent.all progress.records

    pub given_apart : given ≡ (sent.before ++ take progress.records sent.all) ++ drop progress.records sent.all
    given_apart =
        sent.given_are
        ∙ ap (λ all. sent.before ++ all) (sym (take-append-drop progress.records sent.all))
        ∙ sym (append_assoc sent.before (take progress.records sent.all) (drop progress.records sent.all))

    -- what is on the disk, and then what waits
    pub all_told : flat_map text given ≡ synced ++ drop progress.octets batch.octets
    all_told =
        ap (flat_map text) given_apart
        ∙ flat_map-append text (sent.before ++ take progress.records sent.all) (drop progress.records sent.all)
        ∙ ap (λ waiting. flat_map text (sent.before ++ take progress.records sent.all) ++ waiting) (sym waiting_is)
        ∙ ap (λ front. front ++ drop progress.octets batch.octets) (sym sent.synced_is)

    pub front_is : HasFront synced (drop progress.octets batch.octets) taken
    front_is =
        subst (λ octets. HasFront synced octets taken)
        (sym (drop_apart batch.octets progress.octets (end_of batch progress).octets start_before_end end_within))
        (front_wider synced (drop progress.octets (take (end_of batch progress).octets batch.octets)) (drop (end_of batch progress).octets batch.octets) taken
        (front_at synced (drop progress.octets (take (end_of batch progress).octets batch.octets)) taken progress.taken sent.at))

    pub count_left : batch.count - progress.records ≡ length (drop progress.records sent.all)
    count_left = omega (arith, sent.count_is, length-drop progress.records sent.all)

    pub records_counted : progress.records ≤ batch.count
    records_counted = omega (arith, sent.count_is, sent.records_within)

    -- in which file each record stands
    pub are_filed : AreFiled part_of text given current taken
    are_filed =
        let end = end_of batch progress in
        let has = front_at synced (drop progress.octets (take end.octets batch.octets)) taken progress.taken sent.at in
        let own = drop progress.records (take end.count sent.all) in
        record {
          before = sent.on_disk.earlier;
          here = sent.on_disk.here ++ own;
          later = drop end.count sent.all;
          given_are =
              given_apart
              ∙ ap (λ rest. (sent.before ++ take progress.records sent.all) ++ rest) (drop_apart sent.all progress.records end.count end_is.behind end_is.within)
              ∙ ap (λ front. front ++ (own ++ drop end.count sent.all)) sent.on_disk.calls_are
              ∙ append_assoc sent.on_disk.earlier sent.on_disk.here (own ++ drop end.count sent.all)
              ∙ ap (λ rest. sent.on_disk.earlier ++ rest) (sym (append_assoc sent.on_disk.here own (drop end.count sent.all)));
          before_is = sent.on_disk.before_is;
          are_before = sent.on_disk.are_earlier;
          are_here = All-append (EndedBy part_of current.part) sent.on_disk.here own sent.on_disk.are_here end_is.own;
          are_later = next_later sent.all batch.part current.part progress.records (drop progress.cuts batch.cuts) (end_of_all batch) sent.cuts_are sent.count_is;
          front = record {
            front = flat_map text sent.on_disk.here ++ has.front;
            rest = has.rest;
            octets_are =
                flat_map-append text sent.on_disk.here own
                ∙ ap (λ octets. flat_map text sent.on_disk.here ++ octets) (sym piece_is ∙ has.octets_are)
                ∙ sym (append_assoc (flat_map text sent.on_disk.here) has.front has.rest);
            taken_is =
                has.taken_is
                ∙ ap (λ synced. synced ++ has.front)
                (sent.synced_is ∙ ap (flat_map text) sent.on_disk.calls_are ∙ flat_map-append text sent.on_disk.earlier sent.on_disk.here
                ∙ ap (λ before. before ++ flat_map text sent.on_disk.here) (sym sent.on_disk.before_is))
                ∙ append_assoc current.before (flat_map text sent.on_disk.here) has.front;
          };
        }

    -- all up to the next end is on the disk
    pub put_sent : (now took : List ℕ) → now ≡ synced ++ drop progress.octets (take (end_of batch progress).octets batch.octets) → took ≡ now
        → IsSent part_of text given now took current batch
        (record { octets = (end_of batch progress).octets; records = (end_of batch progress).count; cuts = progress.cuts; taken = Some 0 })
    put_sent now took put same =
        let end = end_of batch progress in
        let own = drop progress.records (take end.count sent.all) in
        let front : sent.before ++ take end.count sent.all ≡ (sent.before ++ take progress.records sent.all) ++ own =
        ap (λ front. sent.before ++ front) (take_apart sent.all progress.records end.count end_is.behind)
        ∙ sym (append_assoc sent.before (take progress.records sent.all) own) in
        record {
          before = sent.before;
          all = sent.all;
          given_are = sent.given_are;
          octets_are = sent.octets_are;
          count_is = sent.count_is;
          records_within = end_is.within;
          cuts_within = sent.cuts_within;
          octets_is = end_is.octets_are;
          synced_is =
              put
              ∙ ap (λ synced. synced ++ drop progress.octets (take end.octets batch.octets)) sent.synced_is
              ∙ ap (λ octets. flat_map text (sent.before ++ take progress.records sent.all) ++ octets) piece_is
              ∙ sym (flat_map-append text (sent.before ++ take progress.records sent.all) own)
              ∙ ap (flat_map text) (sym front);
          on_disk = more_on_disk current (sent.before ++ take progress.records sent.all) own (sent.before ++ take end.count sent.all) sent.on_disk end_is.own front;
          cuts_are = moved_on sent.all batch.part current.part progress.records (drop progress.cuts batch.cuts) (end_of_all batch) sent.cuts_are sent.count_is;
          at = at_start now (drop end.octets (take end.octets batch.octets)) took same;
        }

    pub put_advances : (now : List ℕ) (next : Progress) → now ≡ synced ++ drop progress.octets (take (end_of batch progress).octets batch.octets)
        → next.octets ≡ (end_of batch progress).octets → Advances batch.octets synced progress now next
    put_advances now next put same = record {
      more = drop progress.octets (take (end_of batch progress).octets batch.octets);
      synced_is = put;
      rest_is =
          drop_apart batch.octets progress.octets (end_of batch progress).octets start_before_end end_within
          ∙ ap (λ n. drop progress.octets (take (end_of batch progress).octets batch.octets) ++ drop n batch.octets) (sym same);
    }

    -- none of it is known to be
    pub put_failed : (now took : List ℕ) (place : Option ℕ) → now ≡ synced
        → IsAt now (drop progress.octets (take (end_of batch progress).octets batch.octets)) took place
        → IsSent part_of text given now took current batch (record progress { taken = place })
    put_failed now took place same at = record {
      before = sent.before;
      all = sent.all;
      given_are = sent.given_are;
      octets_are = sent.octets_are;
      count_is = sent.count_is;
      records_within = sent.records_within;
      cuts_within = sent.cuts_within;
      octets_is = sent.octets_is;
      synced_is = same ∙ sent.synced_is;
      on_disk = sent.on_disk;
      cuts_are = sent.cuts_are;
      at = at;
    }

    -- the file of the part of the next cut is begun
    pub begun_sent : (cut : Cut) (now : OpenFile) → drop progress.cuts batch.cuts ≡ cut ∷ drop (progress.cuts + 1) batch.cuts → progress.cuts < length batch.cuts
        → progress.records ≡ cut.count → taken ≡ synced → progress.taken ≡ Some 0 → now ≡ record { part = cut.part; before = taken }
        → IsSent part_of text given synced taken now batch (record progress { cuts = progress.cuts + 1 })
    begun_sent cut now is within reached same start begun =
        let cuts = subst (AreCut part_of text sent.all batch.part current.part progress.records) is sent.cuts_are in
        let next = record progress { cuts = progress.cuts + 1 } in
        subst (λ now. IsSent part_of text given synced taken now batch next) (sym begun)
        (record {
          before = sent.before;
          all = sent.all;
          given_are = sent.given_are;
          octets_are = sent.octets_are;
          count_is = sent.count_is;
          records_within = sent.records_within;
          cuts_within = omega (arith, within);
          octets_is = sent.octets_is;
          synced_is = sent.synced_is;
          on_disk =
              all_before current (sent.before ++ take progress.records sent.all) cut.part taken sent.on_disk (same ∙ sent.synced_is) cuts.0.later;
          cuts_are =
              subst (λ from. AreCut part_of text sent.all batch.part cut.part from (drop (progress.cuts + 1) batch.cuts)) (sym reached) cuts.1;
          at =
              subst (IsAt synced (drop progress.octets (take (end_of batch next).octets batch.octets)) taken) (sym start)
              (at_start synced (drop progress.octets (take (end_of batch next).octets batch.octets)) taken same);
        })

    -- a later part begins at the next cut
    pub cut_later : (cut : Cut) → drop progress.cuts batch.cuts ≡ cut ∷ drop (progress.cuts + 1) batch.cuts → current.part < cut.part
    cut_later cut is = (subst (AreCut part_of text sent.all batch.part current.part progress.records) is sent.cuts_are).0.later

    -- all is on the disk
    pub sent_whole : drop progress.cuts batch.cuts ≡ [] → progress.records ≡ batch.count → taken ≡ synced → IsSentWhole part_of text given synced taken current batch.part
    sent_whole none reached same =
        let cuts = subst (AreCut part_of text sent.all batch.part current.part progress.records) none sent.cuts_are in
        let whole : sent.before ++ take progress.records sent.all ≡ given =
        ap (λ all. sent.before ++ all) (take_all progress.records sent.all (omega (arith, reached, sent.count_is))) ∙ sym sent.given_are in
        record {
          synced_is = sent.synced_is ∙ ap (flat_map text) whole;
          taken_is = same;
          on_disk = subst (AreOnDisk part_of text current) whole sent.on_disk;
          part_is = cuts.0;
        }

    module _ (end : Cut) (is : end_of batch progress ≡ end) where
      pub start_before : progress.octets ≤ end.octets
      start_before = subst (λ (end : Cut). progress.octets ≤ end.octets) is start_before_end

      pub end_before : end.octets ≤ length batch.octets
      end_before = subst (λ (end : Cut). end.octets ≤ length batch.octets) is end_within

      pub put_at : (now took : List ℕ) (next : Progress) → now ≡ synced ++ drop progress.octets (take end.octets batch.octets) → took ≡ now
          → next ≡ after progress.cuts end → IsSent part_of text given now took current batch next
      put_at now took next put same made =
          subst (IsSent part_of text given now took current batch) (sym (made ∙ ap (after progress.cuts) (sym is)))
          (put_sent now took (put ∙ ap (λ (end : Cut). synced ++ drop progress.octets (take end.octets batch.octets)) (sym is)) same)

      pub advances_to : (now synced_now : List ℕ) (next : Progress) → now ≡ synced ++ drop progress.octets (take end.octets batch.octets) → synced_now ≡ now
          → next.octets ≡ end.octets → Advances batch.octets synced progress synced_now next
      advances_to now synced_now next put same made =
          put_advances synced_now next (same ∙ put ∙ ap (λ (end : Cut). synced ++ drop progress.octets (take end.octets batch.octets)) (sym is))
          (made ∙ ap (λ (end : Cut). end.octets) (sym is))

    module _ (none : batch.count ≡ 0) where
      all_are : sent.all ≡ []
      all_are = nil_from_length sent.all (sym sent.count_is ∙ none)

      no_octets : batch.octets ≡ []
      no_octets = sent.octets_are ∙ ap (flat_map text) all_are

      -- nothing waits
      pub none_waits : drop progress.octets batch.octets ≡ []
      none_waits = drop_all progress.octets batch.octets (omega (arith, ap length no_octets))

      pub none_in_doubt : taken ≡ synced
      none_in_doubt =
          none_taken synced taken progress.taken
          (subst (λ octets. IsAt synced octets taken progress.taken)
          (drop_all progress.octets (take (end_of batch progress).octets batch.octets)
          (omega (arith, ap length no_octets, length-take (end_of batch progress).octets batch.octets))) sent.at)

      -- and the file of a later part is begun
      pub begun_idle : (part : ℕ) (now : OpenFile) (synced_now taken_now : List ℕ) → current.part < part → now ≡ record { part = part; before = taken }
          → synced_now ≡ synced → taken_now ≡ taken → IsSentWhole part_of text given synced_now taken_now now part
      begun_idle part now synced_now taken_now later begun same_synced same_taken =
          let on_disk : sent.before ++ take progress.records sent.all ≡ given =
          ap (λ all. sent.before ++ all) (take_all progress.records sent.all (omega (arith, ap length all_are))) ∙ sym sent.given_are in
          let told = sent.synced_is ∙ ap (flat_map text) on_disk in
          record {
            synced_is = same_synced ∙ told;
            taken_is = same_taken ∙ none_in_doubt ∙ sym same_synced;
            on_disk =
                subst (λ now. AreOnDisk part_of text now given) (sym begun)
                (all_before current given part taken (subst (AreOnDisk part_of text current) on_disk sent.on_disk) (none_in_doubt ∙ told) later);
            part_is = ap (λ (file : OpenFile). file.part) (sym begun);
          }

  module _ (given : List EndedCall) (synced taken : List ℕ) (current : OpenFile) (batch : Texts) (progress : Progress)
      (sent : IsSent part_of text given synced taken current batch progress) where
    -- all before the next cut is on the disk, and the file of its part is begun
    pub passed_cut : (cut : Cut) (now took synced_now taken_now : List ℕ) (next : Progress) (file : OpenFile)
        → drop progress.cuts batch.cuts ≡ cut ∷ drop (progress.cuts + 1) batch.cuts → progress.cuts < length batch.cuts
        → now ≡ synced ++ drop progress.octets (take cut.octets batch.octets) → took ≡ now → next ≡ after progress.cuts cut
        → synced_now ≡ now → taken_now ≡ took → file ≡ record { part = cut.part; before = took }
        → IsSent part_of text given synced_now taken_now file batch (record next { cuts = next.cuts + 1 })
    passed_cut cut now took synced_now taken_now next file is within put same made same_synced same_taken begun =
        let there = put_at given synced taken current batch progress sent cut (end_at_cut batch progress cut (drop (progress.cuts + 1) batch.cuts) is)
        now took (after progress.cuts cut) put same refl in
        same_sent given now took synced_now taken_now file file batch (record (after progress.cuts cut) { cuts = progress.cuts + 1 }) (record next { cuts = next.cuts + 1 })
        (begun_sent given now took current batch (after progress.cuts cut) there cut file is within refl same refl begun)
        same_synced same_taken refl (ap (λ (next : Progress). record next { cuts = next.cuts + 1 }) made)

    -- all is on the disk
    pub put_whole : (end : Cut) (now took : List ℕ) (next : Progress) (file : OpenFile) → drop progress.cuts batch.cuts ≡ [] → end ≡ end_of_all batch
        → now ≡ synced ++ drop progress.octets (take end.octets batch.octets) → took ≡ now → next ≡ after progress.cuts end → file ≡ current
        → IsSentWhole part_of text given now took file batch.part
    put_whole end now took next file none last put same made same_file =
        let there = put_at given synced taken current batch progress sent end (end_at_last batch progress none ∙ sym last) now took (after progress.cuts end) put same refl in
        subst (λ file. IsSentWhole part_of text given now took file batch.part) (sym same_file)
        (sent_whole given now took current batch (after progress.cuts end) there none (ap (λ (end : Cut). end.count) last) same)
