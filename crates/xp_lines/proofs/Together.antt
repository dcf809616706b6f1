-- That the turns on a link add up, one after the other.
use Rattle.std.proofs.Common.{◌≡◌, ◌⊎◌, ℕ, ◌+◌, ◌≤◌, arith, List, [], ◌∷◌, ◌++◌, refl, sym, ap, ◌∙◌, append_assoc, append-nil, map, subst, Option, None, Some, Bool, true, false, inl, inr}
use Rattle.std.proofs.lemmas.Grind.{flat_map-append}
use Rattle.std.proofs.lemmas.List.{map-append}
use Rattle.std.proofs.lemmas.List.Elements.{filter-append}
use Rattle.xp_packets.specs.declared.modulus.Modulus.{Modulus}
use Rattle.xp_frames.specs.Frame.{HasNoBadHeader, frames}
use Rattle.xp_frames.proofs.Frames.{frames-append, packets-append}
use Rattle.xp_step.specs.declared.entry.Entry.{Entry}
use Rattle.xp_step.specs.declared.event.What.{What}
use Rattle.xp_step.specs.declared.event.What.TheVariants.{Down}
use Rattle.xp_step.specs.declared.output.Outgoing.{Outgoing}
use Rattle.xp_seats.specs.Handed.{handed}
use Rattle.xp_lock.specs.Passes.{Pass, own_entries}
use Rattle.xp_lines.specs.Offers.{Gains, happened, on_line}
use Rattle.xp_lines.specs.Reads.{Completes, stays}
use Rattle.xp_lines.specs.AnswerTimer.{Expires, answered, has_any, since_after_all}
use Rattle.xp_lines.specs.Together.{AreTurns, IsFresh, Left, MayFollow, Together, TurnsAddUp, but_expiries, calls, expiries, is_linked, is_no_expiry, last_of, waits}
use Rattle.xp_lines.specs.Turns.{Downs, Follows, IsTurnBy, Seen, Worked, WritesAndReads}
use Rattle.xp_lines.specs.Wire.{Took, carried, wire}
use Rattle.xp_lines.specs.declared.over.Over.{Over}
use Rattle.xp_lines.specs.declared.over.Over.TheVariants as overs
use Rattle.xp_lines.specs.declared.turning.TurnOutcome.{TurnOutcome}
use Rattle.xp_lines.specs.declared.turning.TurnOutcome.TheVariants.{Linked, Dropped, DownOwed, Halted, Journal}
use Rattle.xp_lines.proofs.Expiring.{calls_both, expiries_both, lapses_few, no_expiries, rung_few}
use Rattle.xp_lines.proofs.Octets.{appends_both, appends_nothing}
use Rattle.xp_lines.proofs.Pulling.{completes_nothing, read_both, stays_keeps}
use Rattle.xp_lines.proofs.Written.{none_closes_both}
use Rattle.xp_lines.proofs.Sums.{HasNoExpiry, all_without, none_front, none_left, none_of_read}

completes_both : (fed more : List ℕ) (packets others : List (List ℕ)) (rest last : List ℕ) → Completes [] fed packets rest → Completes rest more others last → Completes [] (fed ++ more) (packets ++ others) last
completes_both fed more packets others rest last a b = record {
  whole =
      ap (λ xs. xs ++ more) a.whole ∙ append_assoc (frames packets) rest more ∙ ap (λ xs. frames packets ++ xs) b.whole
      ∙ sym (append_assoc (frames packets) (frames others) last) ∙ ap (λ xs. xs ++ last) (sym (frames-append packets others));
  each = packets-append packets others a.each b.each;
  partial = λ none. b.partial (a.partial none);
}

no_header : HasNoBadHeader []
no_header fault bad = bad

module _ {A : Type 0} where
  pub took_mine : (old : Pass A) (items : List _) (new : Pass A) → Took old items new → own_entries new ≡ own_entries old
  took_mine old items new took = ap (λ line. handed line new.seen) took.line ∙ ap (λ seen. handed old.line seen) took.seen

  together_fresh : (modulus : Modulus) (connection : ℕ) (pass : Pass A) (came : Seen) → IsFresh came → Together modulus connection pass came true pass came
  together_fresh modulus connection pass came fresh = record {
    line = refl;
    items = [];
    taken = sym (append-nil pass.taken);
    pushed = [];
    pushes = appends_nothing came.pushed;
    unsent = [];
    written = sym (append-nil came.unwritten ∙ fresh.unwritten);
    pulled = [];
    pulls = appends_nothing came.pulled;
    fed = [];
    lost = [];
    pulled_are = refl;
    packets = [];
    rest = [];
    completes = completes_nothing [];
    taken_up = [];
    unread = [];
    packets_are = refl;
    read = [];
    read_as = tt;
    whats = [];
    unoffered = [];
    in_order = refl;
    closing = [];
    is_closing = inl refl;
    expire_once = omega arith;
    may_expire = λ _. let none : waits came.unanswered_since ≡ 0 = ap waits fresh.unanswered_since in omega (arith, none);
    entries = [];
    own_entries_are = sym (append-nil (own_entries pass));
    events = refl;
    none_closes = λ _. tt;
    sound = λ _. subst HasNoBadHeader (sym fresh.rest) no_header;
    kept = λ _. (refl, refl, sym fresh.rest, sym fresh.waiting, refl, refl);
  }

  module _ (modulus : Modulus) (connection : ℕ) (old : Pass A) (came : Seen) where
    -- no more calls expire than were written
    expire_few : (now : ℕ) (linked sent : Bool) (since : Option ℕ) (whats told expired : List (What A)) (unanswered_since after : Option ℕ) (items more : List (Outgoing A))
        → expiries told ≡ 0 → expiries whats + waits unanswered_since ≤ calls connection items → (linked ≡ true → since ≡ since_after_all now connection unanswered_since more)
        → Expires linked now (answered sent since) expired after
        → (expiries (whats ++ (told ++ expired)) ≤ calls connection (items ++ more))
        × (linked ≡ true → expiries (whats ++ (told ++ expired)) + waits after ≤ calls connection (items ++ more))
    expire_few now true sent since whats told expired unanswered_since after items more none before since_is lapses =
        let all : expiries (whats ++ (told ++ expired)) ≡ expiries whats + (expiries told + expiries expired) =
        expiries_both whats (told ++ expired) ∙ ap (λ n. expiries whats + n) (expiries_both told expired) in
        let both : calls connection (items ++ more) ≡ calls connection items + calls connection more = calls_both connection items more in
        let at : waits since ≡ waits (since_after_all now connection unanswered_since more) = ap waits (since_is refl) in
        let written : waits (since_after_all now connection unanswered_since more) ≤ waits unanswered_since + calls connection more = rung_few now connection unanswered_since more in
        let told_few : expiries expired + waits after ≤ waits since = lapses_few now sent since expired after lapses in
        (omega (arith, all, both, at, written, told_few, none, before), λ _. omega (arith, all, both, at, written, told_few, none, before))
    expire_few now false sent since whats told expired unanswered_since after items more none before since_is lapses =
        let all : expiries (whats ++ (told ++ expired)) ≡ expiries whats + (expiries told + expiries expired) =
        expiries_both whats (told ++ expired) ∙ ap (λ n. expiries whats + n) (expiries_both told expired) in
        let both : calls connection (items ++ more) ≡ calls connection items + calls connection more = calls_both connection items more in
        let nothing : expiries expired ≡ 0 = ap expiries lapses in
        (omega (arith, all, both, nothing, none, before), λ is. absurd (let never : false ≡ true = is in cc))

    -- the line worked, from where its link stayed
    worked_on : (now : ℕ) (pass : Pass A) (seen : Seen) (over : Option Over) (new_pass : Pass A) (new : Seen)
        → Together modulus connection old came true pass seen → WritesAndReads modulus now connection pass seen over new_pass new
        → (next : Together modulus connection old came (stays over) new_pass new) × (next.closing ≡ [])
    worked_on now pass seen over new_pass new t works =
        let kept = t.kept refl in
        let w = works.writes in
        let h = works.hears in
        let r = h.reads in
        let o = r.offers in
        let gained : List (What A) = h.whats ++ h.expired in
        let front : t.read ≡ but_expiries t.whats = t.in_order ∙ ap (λ xs. but_expiries t.whats ++ xs) kept.4 ∙ append-nil (but_expiries t.whats) in
        let offered : HasNoExpiry h.whats = none_front h.whats o.unoffered (subst HasNoExpiry o.in_order (none_of_read modulus o.packets o.read o.read_as)) in
        let told : but_expiries gained ≡ h.whats =
        filter-append is_no_expiry h.whats h.expired ∙ ap (λ xs. xs ++ but_expiries h.expired) (all_without h.whats offered)
        ∙ ap (λ xs. h.whats ++ xs) (none_left (stays over) now (answered (has_any h.whats) works.since) h.expired new.unanswered_since h.lapses) ∙ append-nil h.whats in
        let few = expire_few now (stays over) (has_any h.whats) works.since t.whats h.whats h.expired seen.unanswered_since new.unanswered_since t.items w.items
        (no_expiries h.whats offered) (t.may_expire refl) works.since_is h.lapses in
        let all_told : but_expiries (t.whats ++ gained) ≡ but_expiries t.whats ++ h.whats =
        filter-append is_no_expiry t.whats gained ∙ ap (λ xs. but_expiries t.whats ++ xs) told in (
          record {
            line = h.gains.line ∙ w.took.line ∙ t.line;
            items = t.items ++ w.items;
            taken = h.gains.taken ∙ w.took.taken ∙ ap (λ xs. xs ++ w.items) t.taken ∙ append_assoc old.taken t.items w.items;
            pushed = t.pushed ++ w.pushed;
            pushes = appends_both came.pushed seen.pushed new.pushed t.pushed w.pushed t.pushes w.grows;
            unsent = works.unsent;
            written =
                flat_map-append (carried modulus connection) t.items w.items
                ∙ ap (λ xs. xs ++ wire modulus connection w.items) (t.written ∙ ap (λ xs. (t.pushed ++ seen.unwritten) ++ xs) kept.0 ∙ append-nil (t.pushed ++ seen.unwritten))
                ∙ append_assoc t.pushed seen.unwritten (wire modulus connection w.items) ∙ ap (λ xs. t.pushed ++ xs) w.whole
                ∙ sym (append_assoc t.pushed (w.pushed ++ new.unwritten) works.unsent)
                ∙ ap (λ xs. xs ++ works.unsent) (sym (append_assoc t.pushed w.pushed new.unwritten));
            pulled = t.pulled ++ h.pulled;
            pulls = appends_both came.pulled seen.pulled new.pulled t.pulled h.pulled t.pulls h.pulls;
            fed = t.fed ++ r.fed;
            lost = r.lost;
            pulled_are =
                ap (λ xs. xs ++ h.pulled) (t.pulled_are ∙ ap (λ xs. t.fed ++ xs) kept.1 ∙ append-nil t.fed) ∙ ap (λ xs. t.fed ++ xs) r.pulled_are
                ∙ sym (append_assoc t.fed r.fed r.lost);
            packets = t.packets ++ r.packets;
            rest = new.frames.rest;
            completes =
                completes_both t.fed r.fed t.packets r.packets seen.frames.rest new.frames.rest
                (subst (λ rest. Completes [] t.fed t.packets rest) kept.2 t.completes) r.completes;
            taken_up = t.taken_up ++ o.packets;
            unread = o.unread;
            packets_are =
                ap (λ xs. xs ++ r.packets) (t.packets_are ∙ ap (λ xs. t.taken_up ++ xs) kept.3) ∙ append_assoc t.taken_up seen.frames.waiting r.packets
                ∙ ap (λ xs. t.taken_up ++ xs) o.frames_are ∙ sym (append_assoc t.taken_up o.packets o.unread);
            read = t.read ++ o.read;
            read_as = read_both modulus t.taken_up o.packets t.read o.read t.read_as o.read_as;
            whats = t.whats ++ gained;
            unoffered = o.unoffered;
            in_order =
                ap (λ xs. xs ++ o.read) front ∙ ap (λ xs. but_expiries t.whats ++ xs) o.in_order
                ∙ sym (append_assoc (but_expiries t.whats) h.whats o.unoffered) ∙ ap (λ xs. xs ++ o.unoffered) (sym all_told);
            closing = [];
            is_closing = inl refl;
            expire_once = few.0;
            may_expire = few.1;
            entries = t.entries ++ h.gains.entries;
            own_entries_are =
                h.gains.own_entries_are ∙ ap (λ xs. xs ++ h.gains.entries) (took_mine pass w.items works.between w.took ∙ t.own_entries_are)
                ∙ append_assoc (own_entries old) t.entries h.gains.entries;
            events =
                map-append happened t.entries h.gains.entries
                ∙ ap (λ xs. xs ++ map happened h.gains.entries)
                (t.events ∙ ap (λ closing. map (on_line old.line) (t.whats ++ closing)) kept.5 ∙ ap (map (on_line old.line)) (append-nil t.whats))
                ∙ ap (λ xs. map (on_line old.line) t.whats ++ xs) (h.gains.events ∙ ap (λ line. map (on_line line) gained) (w.took.line ∙ t.line))
                ∙ sym (map-append (on_line old.line) t.whats gained) ∙ ap (map (on_line old.line)) (sym (append-nil (t.whats ++ gained)));
            none_closes = λ is. none_closes_both connection t.items w.items (t.none_closes refl) (works.none_closes is);
            sound = λ is. r.sound is (t.sound refl);
            kept = λ is. let on = stays_keeps over is in (works.none_unsent on, r.none_lost is, refl, (o.kept on).0, (o.kept on).1, refl);
          },
          refl,
        )

    -- the link goes, and what waited to be offered on it
    link_goes : (linked : Bool) (pass : Pass A) (seen : Seen) (new_pass : Pass A) (left : Bool) (closing : List (What A)) (entries : List (Entry A))
        → (t : Together modulus connection old came linked pass seen) → new_pass.line ≡ pass.line → new_pass.taken ≡ pass.taken
        → (closing ≡ []) ⊎ (closing ≡ Down ∷ []) → own_entries new_pass ≡ own_entries old ++ entries
        → map happened entries ≡ map (on_line old.line) (t.whats ++ closing)
        → (next : Together modulus connection old came false new_pass (record seen { owed = left })) × (next.closing ≡ closing)
    link_goes linked pass seen new_pass left closing entries t line taken is_closing own_entries_are events = (
      record {
        line = line ∙ t.line;
        items = t.items;
        taken = taken ∙ t.taken;
        pushed = t.pushed;
        pushes = t.pushes;
        unsent = t.unsent;
        written = t.written;
        pulled = t.pulled;
        pulls = t.pulls;
        fed = t.fed;
        lost = t.lost;
        pulled_are = t.pulled_are;
        packets = t.packets;
        rest = t.rest;
        completes = t.completes;
        taken_up = t.taken_up;
        unread = t.unread;
        packets_are = t.packets_are;
        read = t.read;
        read_as = t.read_as;
        whats = t.whats;
        unoffered = t.unoffered;
        in_order = t.in_order;
        closing = closing;
        is_closing = is_closing;
        expire_once = t.expire_once;
        may_expire = λ is. absurd (let both : false ≡ true = is in cc);
        entries = entries;
        own_entries_are = own_entries_are;
        events = events;
        none_closes = λ is. absurd (let both : false ≡ true = is in cc);
        sound = λ is. absurd (let both : false ≡ true = is in cc);
        kept = λ is. absurd (let both : false ≡ true = is in cc);
      },
      refl,
    )

    -- nothing was offered any more
    nothing_offered : (linked : Bool) (pass : Pass A) (seen : Seen) (new_pass : Pass A) (left : Bool)
        → (t : Together modulus connection old came linked pass seen) → t.closing ≡ [] → new_pass ≡ pass
        → (next : Together modulus connection old came false new_pass (record seen { owed = left })) × (next.closing ≡ [])
    nothing_offered linked pass seen new_pass left t opened same =
        link_goes linked pass seen new_pass left [] t.entries t (ap (λ p. p.line) same) (ap (λ p. p.taken) same) (inl refl)
        (ap own_entries same ∙ t.own_entries_are) (t.events ∙ ap (λ closing. map (on_line old.line) (t.whats ++ closing)) opened)

    -- the Down was taken
    down_taken : (linked : Bool) (pass : Pass A) (seen : Seen) (new_pass : Pass A) (left : Bool)
        → (t : Together modulus connection old came linked pass seen) → t.closing ≡ [] → Gains pass (Down ∷ []) new_pass
        → Together modulus connection old came false new_pass (record seen { owed = left })
    down_taken linked pass seen new_pass left t opened gains =
        let events : map happened (t.entries ++ gains.entries) ≡ map (on_line old.line) (t.whats ++ Down ∷ []) =
        map-append happened t.entries gains.entries
        ∙ ap (λ xs. xs ++ map happened gains.entries)
        (t.events ∙ ap (λ closing. map (on_line old.line) (t.whats ++ closing)) opened ∙ ap (map (on_line old.line)) (append-nil t.whats))
        ∙ ap (λ xs. map (on_line old.line) t.whats ++ xs) (gains.events ∙ ap (λ line. map (on_line line) (Down ∷ [])) t.line)
        ∙ sym (map-append (on_line old.line) t.whats (Down ∷ [])) in
        let next = link_goes linked pass seen new_pass left (Down ∷ []) (t.entries ++ gains.entries) t gains.line gains.taken (inr refl)
        (gains.own_entries_are ∙ ap (λ xs. xs ++ gains.entries) t.own_entries_are ∙ append_assoc (own_entries old) t.entries gains.entries) events in
        next.0

    -- what a turn leaves to the next
    abbrev pub Next : TurnOutcome → Pass A → Seen → Type 0
    Next Linked pass seen = Together modulus connection old came true pass seen
    Next Dropped pass seen = Together modulus connection old came false pass seen
    Next DownOwed pass seen = (t : Together modulus connection old came false pass seen) × (t.closing ≡ []) × (seen.owed ≡ true)
    Next Halted pass seen = (t : Together modulus connection old came false pass seen) × (t.closing ≡ [])
    Next Journal pass seen = (t : Together modulus connection old came false pass seen) × (t.closing ≡ [])

    next_by_down : (linked : Bool) (pass : Pass A) (seen : Seen) (after : TurnOutcome) (new_pass : Pass A) (left : Bool)
        → (t : Together modulus connection old came linked pass seen) → t.closing ≡ [] → Downs pass after new_pass left
        → Next after new_pass (record seen { owed = left })
    next_by_down linked pass seen Linked new_pass left t opened downs = absurd downs
    next_by_down linked pass seen Dropped new_pass left t opened downs = down_taken linked pass seen new_pass left t opened downs
    next_by_down linked pass seen DownOwed new_pass left t opened downs =
        let next = nothing_offered linked pass seen new_pass left t opened downs.0 in (next.0, next.1, downs.1)
    next_by_down linked pass seen Halted new_pass left t opened downs = nothing_offered linked pass seen new_pass left t opened downs
    next_by_down linked pass seen Journal new_pass left t opened downs = nothing_offered linked pass seen new_pass left t opened downs

    -- the Down is owed or not, of which nothing more is said
    owing : (linked : Bool) (pass : Pass A) (seen : Seen) (left : Bool) → Together modulus connection old came linked pass seen → Together modulus connection old came linked pass (record seen { owed = left })
    owing linked pass seen left t = record {
      line = t.line;
      items = t.items;
      taken = t.taken;
      pushed = t.pushed;
      pushes = t.pushes;
      unsent = t.unsent;
      written = t.written;
      pulled = t.pulled;
      pulls = t.pulls;
      fed = t.fed;
      lost = t.lost;
      pulled_are = t.pulled_are;
      packets = t.packets;
      rest = t.rest;
      completes = t.completes;
      taken_up = t.taken_up;
      unread = t.unread;
      packets_are = t.packets_are;
      read = t.read;
      read_as = t.read_as;
      whats = t.whats;
      unoffered = t.unoffered;
      in_order = t.in_order;
      closing = t.closing;
      is_closing = t.is_closing;
      expire_once = t.expire_once;
      may_expire = t.may_expire;
      entries = t.entries;
      own_entries_are = t.own_entries_are;
      events = t.events;
      none_closes = t.none_closes;
      sound = t.sound;
      kept = t.kept;
    }

    next_by_heard : (over : Option Over) (pass : Pass A) (seen : Seen) (owed : Bool) (after : TurnOutcome) (new_pass : Pass A) (left : Bool)
        → (t : Together modulus connection old came (stays over) pass seen) → t.closing ≡ [] → Follows over pass owed after new_pass left
        → Next after new_pass (record seen { owed = left })
    next_by_heard None pass seen owed after new_pass left t opened follows =
        subst (λ a. Next a new_pass (record seen { owed = left })) (sym follows.0)
        (subst (λ p. Together modulus connection old came true p (record seen { owed = left })) (sym follows.1) (owing true pass seen left t))
    next_by_heard (Some overs.Link) pass seen owed after new_pass left t opened follows = next_by_down false pass seen after new_pass left t opened follows
    next_by_heard (Some overs.Memory) pass seen owed after new_pass left t opened follows = next_by_down false pass seen after new_pass left t opened follows
    next_by_heard (Some overs.Halted) pass seen owed after new_pass left t opened follows =
        subst (λ a. Next a new_pass (record seen { owed = left })) (sym follows.0) (nothing_offered false pass seen new_pass left t opened follows.1)
    next_by_heard (Some overs.Journal) pass seen owed after new_pass left t opened follows =
        subst (λ a. Next a new_pass (record seen { owed = left })) (sym follows.0) (nothing_offered false pass seen new_pass left t opened follows.1)

    next_by_work : (now : ℕ) (pass : Pass A) (seen : Seen) (after : TurnOutcome) (wanting : Bool) (new_pass : Pass A) (new : Seen)
        → Together modulus connection old came true pass seen → Worked modulus now connection pass seen after wanting new_pass new → Next after new_pass new
    next_by_work now pass seen after wanting new_pass new t worked =
        let next = worked_on now pass seen worked.over worked.worked_pass worked.worked t worked.works in
        subst (Next after new_pass) (sym worked.rest)
        (next_by_heard worked.over worked.worked_pass worked.worked seen.owed after new_pass new.owed next.0 next.1 worked.follows)

    next_linked : (owed : Bool) (now : ℕ) (pass : Pass A) (seen : Seen) (after : TurnOutcome) (wanting : Bool) (new_pass : Pass A) (new : Seen)
        → Together modulus connection old came true pass seen → IsTurnBy owed modulus now connection pass seen after wanting new_pass new → Next after new_pass new
    next_linked true now pass seen after wanting new_pass new t turn =
        subst (Next after new_pass) (sym turn.1) (next_by_down true pass seen after new_pass new.owed t (t.kept refl).5 turn.0)
    next_linked false now pass seen after wanting new_pass new t turn = next_by_work now pass seen after wanting new_pass new t turn

    next_owed : (now : ℕ) (pass : Pass A) (seen : Seen) (after : TurnOutcome) (wanting : Bool) (new_pass : Pass A) (new : Seen)
        → Next DownOwed pass seen → IsTurnBy seen.owed modulus now connection pass seen after wanting new_pass new → Next after new_pass new
    next_owed now pass seen after wanting new_pass new (t, opened, held) turn =
        let owed : IsTurnBy true modulus now connection pass seen after wanting new_pass new =
        subst (λ o. IsTurnBy o modulus now connection pass seen after wanting new_pass new) held turn in
        subst (Next after new_pass) (sym owed.1) (next_by_down false pass seen after new_pass new.owed t opened owed.0)

    pub together_of : (after : TurnOutcome) (pass : Pass A) (seen : Seen) → Next after pass seen → Together modulus connection old came (is_linked after) pass seen
    together_of Linked pass seen next = next
    together_of Dropped pass seen next = next
    together_of DownOwed pass seen next = next.0
    together_of Halted pass seen next = next.0
    together_of Journal pass seen next = next.0

    -- where the link did not go in the last turn, its Down was not accepted
    pub none_closed : (after : TurnOutcome) (pass : Pass A) (seen : Seen) → (after ≡ Dropped → ⊥) → (next : Next after pass seen) → (together_of after pass seen next).closing ≡ []
    unfolding together_of
    none_closed Linked pass seen there next = (next.kept refl).5
    none_closed Dropped pass seen there next = absurd (there refl)
    none_closed DownOwed pass seen there next = next.1
    none_closed Halted pass seen there next = next.1
    none_closed Journal pass seen there next = next.1

    abbrev pub IsLeft : Left A → Type 0
    IsLeft left = Next left.after left.pass left.seen

    turns_from : (after : TurnOutcome) (pass : Pass A) (seen : Seen) (turns : List (Left A)) → Next after pass seen → MayFollow after turns → AreTurns modulus connection pass seen turns
        → IsLeft (last_of (record { after = after; pass = pass; seen = seen }) turns)
    turns_from after pass seen [] next may are = next
    turns_from Linked pass seen (left ∷ turns) next may are =
        turns_from left.after left.pass left.seen turns (next_linked seen.owed are.0.0 pass seen left.after are.0.1 left.pass left.seen next are.0.2) are.1 are.2
    turns_from DownOwed pass seen (left ∷ turns) next may are =
        turns_from left.after left.pass left.seen turns (next_owed are.0.0 pass seen left.after are.0.1 left.pass left.seen next are.0.2) are.1 are.2
    turns_from Dropped pass seen (left ∷ turns) next may are = absurd (let none : left ∷ turns ≡ [] = may in cc)
    turns_from Halted pass seen (left ∷ turns) next may are = absurd (let none : left ∷ turns ≡ [] = may in cc)
    turns_from Journal pass seen (left ∷ turns) next may are = absurd (let none : left ∷ turns ≡ [] = may in cc)

-- what the last turn left
pub left_by : (A : Type 0) (modulus : Modulus) (connection : ℕ) (pass : Pass A) (came : Seen) (turns : List (Left A)) → IsFresh came → AreTurns modulus connection pass came turns
    → IsLeft modulus connection pass came (last_of (record { after = Linked; pass = pass; seen = came }) turns)
left_by A modulus connection pass came turns fresh are = turns_from modulus connection pass came Linked pass came turns (together_fresh modulus connection pass came fresh) tt are

pub add_up : (A : Type 0) → TurnsAddUp A
add_up A modulus connection pass came turns fresh are =
    let last = last_of (record { after = Linked; pass = pass; seen = came }) turns in
    together_of modulus connection pass came last.after last.pass last.seen (left_by A modulus connection pass came turns fresh are)
