-- What a turn comes to, part by part.
use Rattle.std.proofs.Common.{◌≡◌, ◌⊎◌, ℕ, List, [], ◌∷◌, ◌++◌, refl, sym, ap, ◌∙◌, append-nil, subst, Option, None, Some, Bool, true, false, inl, inr, Result, Ok, Err}
use Rattle.std.specs.Io.KnownBytes.{Appends}
use Rattle.xp_packets.specs.declared.modulus.Modulus.{Modulus}
use Rattle.xp_frames.specs.Deframer.{DeframerState}
use Rattle.xp_step.specs.declared.event.What.{What}
use Rattle.xp_step.specs.declared.event.What.TheVariants.{Expire}
use Rattle.xp_lock.specs.Passes.{Pass}
use Rattle.xp_lock.specs.declared.receipt.Receipt.{Receipt}
use Rattle.xp_lines.specs.steps.Offering.{Tells}
use Rattle.xp_lines.specs.steps.Wire.{WrittenOut}
use Rattle.xp_lines.specs.Offers.{Gains}
use Rattle.xp_lines.specs.Reads.{Reads, is_wanting, keeps, stays}
use Rattle.xp_lines.specs.AnswerTimer.{Expires, answered, expiry, has_any, has_expired, since_after_all}
use Rattle.xp_lines.specs.Wire.{NoneCloses, Writes}
use Rattle.xp_lines.specs.Turns.{Downs, Follows, ReadsAndExpires, IsTurn, IsTurnBy, Seen, WritesAndReads}
use Rattle.xp_lines.specs.declared.over.Over.{Over}
use Rattle.xp_lines.specs.declared.over.Over.TheVariants as overs
use Rattle.xp_lines.specs.declared.turning.TurnOutcome.{TurnOutcome}
use Rattle.xp_lines.specs.declared.turning.TurnOutcome.TheVariants as afters
use Rattle.xp_lines.proofs.Octets.{appends_nothing}
use Rattle.xp_lines.proofs.Offered.{gains_both, gains_nothing}
use Rattle.xp_lines.proofs.Pulling.{completes_nothing, offers_less, stays_keeps}

pub both_ways : {T : Type 0} → (b : Bool) → b ≡ false → b ≡ true → T
both_ways b is_not is = absurd (let never : false ≡ true = sym is_not ∙ is in cc)

lapses_not : (A : Type 0) (now : ℕ) (since : Option ℕ) (over : Option Over) (after : Option ℕ) → stays over ≡ false → Expires {A = A} (stays over) now since [] after
lapses_not A now since over after leaves = subst (λ s. Expires {A = A} s now since [] after) (sym leaves) refl

module _ {A : Type 0} where
  reads_nothing : (modulus : Modulus) (frames : DeframerState) (over : Option Over) → Reads {A = A} modulus frames [] [] over frames
  reads_nothing modulus frames over = record {
    fed = [];
    lost = [];
    pulled_are = refl;
    none_lost = λ _. refl;
    lost_behind = λ _. inl refl;
    packets = [];
    completes = completes_nothing frames.rest;
    sound = λ _ none. none;
    offers = record {
      packets = [];
      unread = frames.waiting;
      frames_are = append-nil frames.waiting;
      read = [];
      read_as = tt;
      unoffered = [];
      in_order = refl;
      kept = λ _. (refl, refl);
    };
  }

  hears_nothing : (modulus : Modulus) (now : ℕ) (pass : Pass A) (frames : DeframerState) (pulled : Option (List ℕ)) (since : Option ℕ) (over : Option Over) (left_since : Option ℕ) → stays over ≡ false
      → ReadsAndExpires modulus now pass frames pulled since over pass frames pulled left_since
  hears_nothing modulus now pass frames pulled since over left_since leaves = record {
    pulled = [];
    pulls = appends_nothing pulled;
    whats = [];
    expired = [];
    gains = gains_nothing pass;
    reads = reads_nothing modulus frames over;
    lapses = lapses_not A now since over left_since leaves;
  }

  -- where something may be lost, less is said of what was read
  reads_less : (modulus : Modulus) (old : DeframerState) (pulled : List ℕ) (whats : List (What A)) (over ended : Option Over) (new : DeframerState)
      → Reads modulus old pulled whats over new → keeps ended ≡ false → Reads modulus old pulled whats ended new
  reads_less modulus old pulled whats over ended new reads loses = record {
    fed = reads.fed;
    lost = reads.lost;
    pulled_are = reads.pulled_are;
    none_lost = λ is. both_ways (keeps ended) loses (stays_keeps ended is);
    lost_behind = λ is. both_ways (keeps ended) loses is;
    packets = reads.packets;
    completes = reads.completes;
    sound = λ is. both_ways (keeps ended) loses (stays_keeps ended is);
    offers = offers_less modulus (old.waiting ++ reads.packets) whats (keeps over) (keeps ended) new.waiting reads.offers (λ is. both_ways (keeps ended) loses is);
  }

  -- the reading ended the turn
  pub hears_over : (modulus : Modulus) (now : ℕ) (old : Pass A) (frames : DeframerState) (before : Option (List ℕ)) (since : Option ℕ) (over : Over) (new : Pass A) (left_frames : DeframerState) (after : Option (List ℕ)) (left_since : Option ℕ)
      → (pulled : List ℕ) → Appends before after pulled → (whats : List (What A)) → Gains old whats new → Reads modulus frames pulled whats (Some over) left_frames
      → ReadsAndExpires modulus now old frames before since (Some over) new left_frames after left_since
  hears_over modulus now old frames before since over new left_frames after left_since pulled pulls whats gains reads = record {
    pulled = pulled;
    pulls = pulls;
    whats = whats;
    expired = [];
    gains = subst (λ all. Gains old all new) (sym (append-nil whats)) gains;
    reads = reads;
    lapses = refl;
  }

  -- octets were read, and then an expiry told
  pub hears_both : (modulus : Modulus) (now : ℕ) (old : Pass A) (frames : DeframerState) (before : Option (List ℕ)) (since asked : Option ℕ) (between : Pass A) (over : Option Over) (new : Pass A) (left_frames : DeframerState) (after : Option (List ℕ)) (left_since : Option ℕ)
      → (pulled : List ℕ) → Appends before after pulled → (whats : List (What A)) → Gains old whats between → Reads modulus frames pulled whats None left_frames → asked ≡ answered (has_any whats) since
      → (expired : List (What A)) × Gains between expired new × Expires (stays over) now asked expired left_since
      → (over ≡ None) ⊎ (keeps over ≡ false)
      → ReadsAndExpires modulus now old frames before since over new left_frames after left_since
  hears_both modulus now old frames before since asked between over new left_frames after left_since pulled pulls whats gains reads answer (expired, gained, lapses) ends = record {
    pulled = pulled;
    pulls = pulls;
    whats = whats;
    expired = expired;
    gains = gains_both old between new whats expired gains gained;
    reads = elim ends [
      | inl same ↦ subst (λ o. Reads modulus frames pulled whats o left_frames) (sym same) reads
      | inr loses ↦ reads_less modulus frames pulled whats None over left_frames reads loses
    ];
    lapses = subst (λ s. Expires (stays over) now s expired left_since) answer lapses;
  }

  -- no call is late
  pub lapses_nothing : (now : ℕ) (pass : Pass A) (since : Option ℕ) (late : Bool) → late ≡ has_expired now since → late ≡ false
      → (expired : List (What A)) × Gains pass expired pass × Expires true now since expired since
  lapses_nothing now pass since late late_is early =
      ([], gains_nothing pass, subst (λ l. ([] ≡ expiry {A = A} l) × (since ≡ answered l since)) (sym early ∙ late_is) (refl, refl))

  -- one is, and that was taken
  pub lapses_taken : (now : ℕ) (old new : Pass A) (since : Option ℕ) (late : Bool) (what : What A) (result : Result Receipt Over) (done : Receipt) → late ≡ has_expired now since → late ≡ true → what ≡ Expire
      → Tells old what result new → result ≡ Ok done
      → (expired : List (What A)) × Gains old expired new × Expires true now since expired None
  lapses_taken now old new since late what result done late_is is is_expiry tells ok = (
    Expire ∷ [],
    subst (λ w. Gains old (w ∷ []) new) is_expiry (subst (λ r. Tells old what r new) ok tells),
    subst (λ l. (Expire ∷ [] ≡ expiry {A = A} l) × (None ≡ answered l since)) (sym is ∙ late_is) (refl, refl),
  )

  -- one is, and that was refused
  pub lapses_refused : (now : ℕ) (old new : Pass A) (since after : Option ℕ) → new ≡ old → (expired : List (What A)) × Gains old expired new × Expires false now since expired after
  lapses_refused now old new since after same = ([], subst (Gains old []) (sym same) (gains_nothing old), refl)

  -- the line was not read, since its link goes or nothing is taken any more
  pub works_silent : (modulus : Modulus) (now connection : ℕ) (old_pass : Pass A) (old : Seen) (between : Pass A) (new : Seen) (written over : Option Over)
      → WrittenOut modulus now connection old_pass old.unwritten old.pushed old.unanswered_since written between new.unwritten new.pushed new.unanswered_since → new.pulled ≡ old.pulled → new.frames ≡ old.frames
      → stays over ≡ false → (keeps over ≡ true → keeps written ≡ true)
      → WritesAndReads modulus now connection old_pass old over between new
  works_silent modulus now connection old_pass old between new written over (unsent, writes, none_lost, _) same_pulled same_frames leaves kept = record {
    between = between;
    unsent = unsent;
    writes = writes;
    none_unsent = λ is. (none_lost (kept is)).0;
    none_closes = λ is. both_ways (stays over) leaves is;
    since = None;
    since_is = λ is. both_ways (stays over) leaves is;
    hears =
        subst (λ p. ReadsAndExpires modulus now between old.frames old.pulled None over between new.frames p new.unanswered_since) (sym same_pulled)
        (subst (λ f. ReadsAndExpires modulus now between old.frames old.pulled None over between f old.pulled new.unanswered_since) (sym same_frames)
        (hears_nothing modulus now between old.frames old.pulled None over new.unanswered_since leaves));
  }

  -- outputs were written, none of them lost or a close, and then octets were read
  pub works_heard : (modulus other : Modulus) (now connection : ℕ) (old_pass : Pass A) (old : Seen) (between : Pass A) (mid : Seen) (written over : Option Over) (new_pass : Pass A) (new : Seen)
      → WrittenOut modulus now connection old_pass old.unwritten old.pushed old.unanswered_since written between mid.unwritten mid.pushed mid.unanswered_since → written ≡ None → mid.pulled ≡ old.pulled → mid.frames ≡ old.frames
      → other ≡ modulus → ReadsAndExpires other now between mid.frames mid.pulled mid.unanswered_since over new_pass new.frames new.pulled new.unanswered_since → new.pushed ≡ mid.pushed → new.unwritten ≡ mid.unwritten
      → WritesAndReads modulus now connection old_pass old over new_pass new
  works_heard modulus other now connection old_pass old between mid written over new_pass new (unsent, writes, none_lost, none_closes) is same_pulled same_frames same_modulus hears pushed_same left_same =
      let kept = none_lost (ap keeps is) in
      let wrote : (w : Writes modulus connection old_pass old.unwritten old.pushed between new.unwritten new.pushed unsent) × (w.items ≡ writes.items) =
      subst (λ l. (w : Writes modulus connection old_pass old.unwritten old.pushed between l new.pushed unsent) × (w.items ≡ writes.items)) (sym left_same)
      (subst (λ p. (w : Writes modulus connection old_pass old.unwritten old.pushed between mid.unwritten p unsent) × (w.items ≡ writes.items)) (sym pushed_same) (writes, refl)) in
      record {
        between = between;
        unsent = unsent;
        writes = wrote.0;
        none_unsent = λ _. kept.0;
        none_closes = λ _. subst (NoneCloses connection) (sym wrote.1) (none_closes (ap stays is));
        since = mid.unanswered_since;
        since_is = λ _. kept.1 ∙ ap (since_after_all now connection old.unanswered_since) (sym wrote.1);
        hears =
            subst (λ p. ReadsAndExpires modulus now between old.frames p mid.unanswered_since over new_pass new.frames new.pulled new.unanswered_since) same_pulled
            (subst (λ f. ReadsAndExpires modulus now between f mid.pulled mid.unanswered_since over new_pass new.frames new.pulled new.unanswered_since) same_frames
            (subst (λ m. ReadsAndExpires m now between mid.frames mid.pulled mid.unanswered_since over new_pass new.frames new.pulled new.unanswered_since) same_modulus hears));
      }

  pub downs_line : (old : Pass A) (after : TurnOutcome) (new : Pass A) (owed : Bool) → Downs old after new owed → new.line ≡ old.line
  downs_line old afters.Linked new owed downs = absurd downs
  downs_line old afters.Dropped new owed downs = downs.line
  downs_line old afters.DownOwed new owed downs = ap (λ p. p.line) downs.0
  downs_line old afters.Halted new owed downs = ap (λ p. p.line) downs
  downs_line old afters.Journal new owed downs = ap (λ p. p.line) downs

  follows_line : (over : Option Over) (old : Pass A) (owed : Bool) (after : TurnOutcome) (new : Pass A) (left : Bool) → Follows over old owed after new left → new.line ≡ old.line
  follows_line None old owed after new left follows = ap (λ p. p.line) follows.1
  follows_line (Some overs.Link) old owed after new left follows = downs_line old after new left follows
  follows_line (Some overs.Memory) old owed after new left follows = downs_line old after new left follows
  follows_line (Some overs.Halted) old owed after new left follows = ap (λ p. p.line) follows.1
  follows_line (Some overs.Journal) old owed after new left follows = ap (λ p. p.line) follows.1

  pub tells_line : (old : Pass A) (what : What A) (result : Result Receipt Over) (new : Pass A) → Tells old what result new → new.line ≡ old.line
  tells_line old what (Ok done) new tells = tells.line
  tells_line old what (Err over) new tells = ap (λ p. p.line) tells.1

  pub worked_line : (modulus : Modulus) (now connection : ℕ) (old_pass : Pass A) (old : Seen) (over : Option Over) (worked_pass : Pass A) (worked : Seen) (owed : Bool) (after : TurnOutcome) (new_pass : Pass A) (left : Bool)
      → WritesAndReads modulus now connection old_pass old over worked_pass worked → Follows over worked_pass owed after new_pass left → new_pass.line ≡ old_pass.line
  worked_line modulus now connection old_pass old over worked_pass worked owed after new_pass left works follows =
      follows_line over worked_pass owed after new_pass left follows ∙ works.hears.gains.line ∙ works.writes.took.line

  -- where the Down is owed
  pub turn_owed : (modulus : Modulus) (now connection : ℕ) (old_pass : Pass A) (old : Seen) (after : TurnOutcome) (wanting : Bool) (new_pass : Pass A) (owed : Bool) → old.owed ≡ true
      → Downs old_pass after new_pass owed → IsTurn modulus now connection old_pass old after wanting new_pass (record old { owed = owed })
  turn_owed modulus now connection old_pass old after wanting new_pass owed is downs =
      subst (λ o. IsTurnBy o modulus now connection old_pass old after wanting new_pass (record old { owed = owed })) (sym is) (downs, refl)

  -- where it is not
  pub turn_worked : (modulus : Modulus) (now connection : ℕ) (old_pass : Pass A) (old : Seen) (over : Option Over) (worked_pass : Pass A) (worked : Seen) (after : TurnOutcome) (wanting : Bool) (new_pass : Pass A) (owed : Bool) → old.owed ≡ false
      → WritesAndReads modulus now connection old_pass old over worked_pass worked → worked.owed ≡ old.owed → (is_wanting over ≡ true → wanting ≡ true) → Follows over worked_pass worked.owed after new_pass owed
      → IsTurn modulus now connection old_pass old after wanting new_pass (record worked { owed = owed })
  turn_worked modulus now connection old_pass old over worked_pass worked after wanting new_pass owed not_owed works same says follows =
      subst (λ o. IsTurnBy o modulus now connection old_pass old after wanting new_pass (record worked { owed = owed })) (sym not_owed) (record {
        over = over;
        worked_pass = worked_pass;
        worked = worked;
        works = works;
        says = says;
        follows = subst (λ o. Follows over worked_pass o after new_pass owed) same follows;
        rest = refl;
      })

  -- the link went, and memory was not wanting
  pub gone_kept : (over : Option Over) (old : Pass A) (owed : Bool) (after : TurnOutcome) (wanting : Bool) (new : Pass A) (left : Bool) → Follows over old owed after new left
      → (is_wanting over ≡ true → wanting ≡ true) → after ≡ afters.Dropped → wanting ≡ false → keeps over ≡ true
  gone_kept None old owed after wanting new left follows says dropped enough = refl
  gone_kept (Some overs.Link) old owed after wanting new left follows says dropped enough = refl
  gone_kept (Some overs.Memory) old owed after wanting new left follows says dropped enough = both_ways wanting enough (says refl)
  gone_kept (Some overs.Halted) old owed after wanting new left follows says dropped enough = absurd (let both : afters.Halted ≡ afters.Dropped = sym follows.0 ∙ dropped in cc)
  gone_kept (Some overs.Journal) old owed after wanting new left follows says dropped enough = absurd (let both : afters.Journal ≡ afters.Dropped = sym follows.0 ∙ dropped in cc)

  -- the link stays
  pub linked_stays : (over : Option Over) (old : Pass A) (owed : Bool) (after : TurnOutcome) (new : Pass A) (left : Bool) → Follows over old owed after new left → after ≡ afters.Linked → stays over ≡ true
  linked_stays None old owed after new left follows linked = refl
  linked_stays (Some overs.Link) old owed after new left follows linked = absurd (subst (λ a. Downs old a new left) linked follows)
  linked_stays (Some overs.Memory) old owed after new left follows linked = absurd (subst (λ a. Downs old a new left) linked follows)
  linked_stays (Some overs.Halted) old owed after new left follows linked = absurd (let both : afters.Halted ≡ afters.Linked = sym follows.0 ∙ linked in cc)
  linked_stays (Some overs.Journal) old owed after new left follows linked = absurd (let both : afters.Journal ≡ afters.Linked = sym follows.0 ∙ linked in cc)
