-- Lines that are played one after the other.
use Rattle.std.proofs.Common.{◌≡◌, ℕ, ◌+◌, List, [], ◌∷◌, ◌++◌, length, refl, sym, ap, ◌∙◌, append_assoc, append-nil, subst, arith, Option, Some, Ok, Err, inl, inr}
use Rattle.xp_exchange.specs.declared.fault.ReplayFault.{ReplayFault}
use Rattle.xp_exchange.specs.declared.fault.ReplayFault.TheVariants.{Script, Journal, Memory, Read, Write, Lay, Reload}
use Rattle.xp_exchange.specs.Play.{PlayState, PlaysAll}
use Rattle.xp_exchange.specs.steps.Playing.{Played}
use Rattle.xp_exchange.specs.steps.Replaying.{Progress, TakesIn, Overflows}
use Rattle.xp_exchange.specs.WholeScript.{Stops, StopsAt, PlaysOut}
use Rattle.xp_exchange.specs.Splitting.{joined, line_feed, HasNoFeed, EndsLine}
use Rattle.xp_exchange.proofs.Tellings.{told_nothing, outputs_to_both}

pub no_feed_both : (octets more : List ℕ) → HasNoFeed octets → HasNoFeed more → HasNoFeed (octets ++ more)
no_feed_both [] more none other = other
no_feed_both (first ∷ octets) more none other = (none.0, no_feed_both octets more none.1 other)

module _ {A : Type 0} where
  -- the subscriptions stay
  pub same_subs : (old : PlayState A) (lines : List (List ℕ)) (new : PlayState A) → PlaysAll old lines new → new.exchange.subs ≡ old.exchange.subs
  same_subs old [] new same = ap (λ state. state.exchange.subs) same
  same_subs old (line ∷ earlier) new played = played.2.acts.subs ∙ same_subs old earlier played.0 played.1

  pub took_none : (old : Progress A) → TakesIn old [] old []
  took_none old = record {
    lines = [];
    whole = append-nil old.line;
    each = tt;
    played = refl;
    number = omega arith;
    told = told_nothing old.state.exchange;
  }

  -- some octets more of the line
  pub took_octets : (old between new : Progress A) (front octets : List ℕ) (text : List ℕ) → TakesIn old front between text
      → new ≡ record between { line = between.line ++ octets } → TakesIn old (front ++ octets) new text
  took_octets old between new front octets text took added =
      let after : Progress A = record between { line = between.line ++ octets } in
      let more : TakesIn old (front ++ octets) after text = record {
        lines = took.lines;
        whole = sym (append_assoc old.line front octets) ∙ ap (λ some. some ++ octets) took.whole ∙ append_assoc (joined took.lines) between.line octets;
        each = took.each;
        played = took.played;
        number = took.number;
        told = took.told;
      } in
      subst (λ now. TakesIn old (front ++ octets) now text) (sym added) more

  -- the octets up to a line feed
  up_to_feed : (old between : Progress A) (front : List ℕ) (octet : ℕ) (text : List ℕ) → (took : TakesIn old front between text) → octet ≡ line_feed
      → old.line ++ (front ++ octet ∷ []) ≡ joined (between.line ∷ took.lines)
  up_to_feed old between front octet text took feed =
      sym (append_assoc old.line front (octet ∷ [])) ∙ ap (λ some. some ++ octet ∷ []) took.whole
      ∙ append_assoc (joined took.lines) between.line (octet ∷ [])
      ∙ ap (λ last. joined took.lines ++ (between.line ++ last ∷ [])) feed

  -- a line feed: the line is played
  pub took_line : (old between new : Progress A) (front : List ℕ) (octet : ℕ) (text more : List ℕ) → TakesIn old front between text → octet ≡ line_feed → HasNoFeed between.line
      → Played between.state between.number between.line (Ok tt) new.state more → new.line ≡ [] → new.number ≡ between.number + 1
      → TakesIn old (front ++ octet ∷ []) new (text ++ more)
  took_line old between new front octet text more took feed clean played empty next = record {
    lines = between.line ∷ took.lines;
    whole = up_to_feed old between front octet text took feed ∙ sym (append-nil (joined (between.line ∷ took.lines)))
        ∙ ap (λ rest. joined (between.line ∷ took.lines) ++ rest) (sym empty);
    each = (clean, took.each);
    played = (between.state, took.played, played.0);
    number = omega (arith, took.number, next);
    told = outputs_to_both old.state.exchange between.state.exchange new.state.exchange text more (same_subs old.state took.lines between.state took.played) took.told played.1;
  }

  -- a line at which it stops
  stops_at : (fault : ReplayFault) (at new : PlayState A) (line more : List ℕ) (left : Option (List ℕ)) (number there : ℕ) (own : List ℕ) → number ≡ there
      → EndsLine more → Played at number line (Err fault) new own → StopsAt at line more there fault left new.exchange own
  stops_at (Script found) at new line more left number there own here over played = (played.0 ∙ here, inl (over, played.1), played.2)
  stops_at Journal at new line more left number there own here over played = (record { over = over; begun = played.0 }, played.1, played.2)
  stops_at Memory at new line more left number there own here over (inl before) = inl before
  stops_at Memory at new line more left number there own here over (inr within) = inr (record { over = over; begun = within.0 }, within.1)
  stops_at Write at new line more left number there own here over played = (record { over = over; begun = played.0 }, played.1)
  stops_at Read at new line more left number there own here over played = elim played [ ]
  stops_at (Lay found tables) at new line more left number there own here over played = (played.0 ∙ here, over, played.1, played.2, played.3)
  stops_at (Reload found tables why) at new line more left number there own here over played = (played.0 ∙ here, over, played.1, played.2, played.3)

  -- what was read, and what follows
  onward : (old between : Progress A) (front more : List ℕ) (text : List ℕ) → (took : TakesIn old front between text)
      → old.line ++ (front ++ more) ≡ joined took.lines ++ (between.line ++ more)
  onward old between front more text took =
      sym (append_assoc old.line front more) ∙ ap (λ some. some ++ more) took.whole ∙ append_assoc (joined took.lines) between.line more

  -- it stops at a line that is over
  pub took_stops : (fault : ReplayFault) (old between : Progress A) (new : PlayState A) (front more : List ℕ) (left : Option (List ℕ)) (text other : List ℕ) → TakesIn old front between text
      → EndsLine more → HasNoFeed between.line → Played between.state between.number between.line (Err fault) new other
      → Stops old.state old.number (old.line ++ (front ++ more)) fault left new.exchange (text ++ other)
  took_stops fault old between new front more left text other took over clean played = record {
    lines = took.lines;
    line = between.line;
    more = more;
    whole = onward old between front more text took;
    each = took.each;
    no_feed = clean;
    at = between.state;
    played = took.played;
    earlier = text;
    own = other;
    text_is = refl;
    told = took.told;
    why = stops_at fault between.state new between.line more left between.number (old.number + length took.lines) other took.number over played;
  }

  -- it stops in the midst of a line
  pub took_overflows : (fault : ReplayFault) (old between : Progress A) (front octets more : List ℕ) (left : Option (List ℕ)) (text : List ℕ) → TakesIn old front between text
      → HasNoFeed octets → HasNoFeed between.line → Overflows between octets fault
      → Stops old.state old.number (old.line ++ (front ++ (octets ++ more))) fault left between.state.exchange text
  took_overflows (Script found) old between front octets more left text took other clean over = record {
    lines = took.lines;
    line = between.line ++ octets;
    more = more;
    whole = onward old between front (octets ++ more) text took ∙ ap (λ rest. joined took.lines ++ rest) (sym (append_assoc between.line octets more));
    each = took.each;
    no_feed = no_feed_both between.line octets clean other;
    at = between.state;
    played = took.played;
    earlier = text;
    own = [];
    text_is = sym (append-nil text);
    told = took.told;
    why = (over.0 ∙ took.number, inr over.1, (refl, refl));
  }
  took_overflows Memory old between front octets more left text took other clean over = record {
    lines = took.lines;
    line = between.line;
    more = octets ++ more;
    whole = onward old between front (octets ++ more) text took;
    each = took.each;
    no_feed = clean;
    at = between.state;
    played = took.played;
    earlier = text;
    own = [];
    text_is = sym (append-nil text);
    told = took.told;
    why = inl (refl, refl);
  }
  took_overflows Journal old between front octets more left text took other clean over = elim over [ ]
  took_overflows Write old between front octets more left text took other clean over = elim over [ ]
  took_overflows Read old between front octets more left text took other clean over = elim over [ ]
  took_overflows (Lay found tables) old between front octets more left text took other clean over = elim over [ ]
  took_overflows (Reload found tables why) old between front octets more left text took other clean over = elim over [ ]

  -- it can't be read on
  pub took_unread : (old between : Progress A) (front more : List ℕ) (left : Option (List ℕ)) (text : List ℕ) → TakesIn old front between text → HasNoFeed between.line
      → left ≡ Some more → Stops old.state old.number (old.line ++ (front ++ more)) Read left between.state.exchange text
  took_unread old between front more left text took clean rest = record {
    lines = took.lines;
    line = between.line;
    more = more;
    whole = onward old between front more text took;
    each = took.each;
    no_feed = clean;
    at = between.state;
    played = took.played;
    earlier = text;
    own = [];
    text_is = sym (append-nil text);
    told = took.told;
    why = (rest, (refl, refl));
  }

  -- the last line was played
  pub took_all : (old between new : Progress A) (octets : List ℕ) (text other : List ℕ) → TakesIn old octets between text → HasNoFeed between.line
      → Played between.state between.number between.line (Ok tt) new.state other
      → PlaysOut old.state (old.line ++ octets) new.state.exchange (text ++ other)
  took_all old between new octets text other took clean played = record {
    lines = took.lines;
    last = between.line;
    split = record { whole = took.whole; each = took.each; no_feed = clean };
    at = new.state;
    played = (between.state, took.played, played.0);
    after_is = refl;
    told = outputs_to_both old.state.exchange between.state.exchange new.state.exchange text other (same_subs old.state took.lines between.state took.played) took.told played.1;
  }

  -- nothing was read yet
  pub stops_first : (first : PlayState A) (number : ℕ) (octets : List ℕ) (left : Option (List ℕ)) → Stops first number octets Memory left first.exchange []
  stops_first first number octets left = record {
    lines = [];
    line = [];
    more = octets;
    whole = refl;
    each = tt;
    no_feed = tt;
    at = first;
    played = refl;
    earlier = [];
    own = [];
    text_is = refl;
    told = told_nothing first.exchange;
    why = inl (refl, refl);
  }
