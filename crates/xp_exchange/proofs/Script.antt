-- A script that is read in pieces.
use Rattle.std.proofs.Common.{◌≡◌, ℕ, ◌+◌, List, [], ◌∷◌, ◌++◌, length, refl, sym, ap, ◌∙◌, append_assoc, append-nil, length-append, subst, arith, Option, None, Some, Result, Ok, Err, IfSome}
use Rattle.std.specs.List.{AllByRecursion}
use Rattle.std.specs.Io.KnownBytes.{Appends, Consumes, Keeps, IsAtEnd}
use Rattle.xp_subs.specs.Tables.{Tables}
use Rattle.xp_step.specs.Exchange.{Exchange}
use Rattle.xp_exchange.specs.declared.fault.ReplayFault.{ReplayFault}
use Rattle.xp_exchange.specs.declared.fault.ReplayFault.TheVariants.{Memory, Read}
use Rattle.xp_script.specs.NamedText.{NamedText}
use Rattle.xp_exchange.specs.Play.{PlayState, PlaysAll, opened, start}
use Rattle.xp_exchange.specs.steps.Replaying.{Progress, TakesIn, Took, Finished, ReplaysFrom}
use Rattle.xp_exchange.specs.WholeScript.{StopsAt, Stops, Replays, ReplaysAlone}
use Rattle.xp_exchange.specs.Splitting.{joined, HasNoFeed}
use Rattle.xp_writing.proofs.Bytes.{appends_nothing, appends_both, consumes_nothing, consumes_both, consumes_kept}
use Rattle.xp_exchange.proofs.Lines.{same_subs, took_none, took_stops, took_unread, took_all, stops_first}
use Rattle.xp_exchange.proofs.Tellings.{outputs_to_both}

joined-append : (late early : List (List ℕ)) → joined (late ++ early) ≡ joined early ++ joined late
joined-append [] early = sym (append-nil (joined early))
joined-append (line ∷ late) early =
    ap (λ some. some ++ (line ++ 10 ∷ [])) (joined-append late early) ∙ append_assoc (joined early) (joined late) (line ++ 10 ∷ [])

each-append : (late early : List (List ℕ)) → AllByRecursion HasNoFeed late → AllByRecursion HasNoFeed early → AllByRecursion HasNoFeed (late ++ early)
each-append [] early a b = b
each-append (line ∷ late) early a b = (a.0, each-append late early a.1 b)

-- the script begins with what was read, whatever follows
on_script : (first now : Option (List ℕ)) (taken : List ℕ) (P : List ℕ → Type 0) → Consumes first now taken → ((more : List ℕ) → P (taken ++ more)) → IfSome first P
on_script None now taken P consumed holds = tt
on_script (Some script) None taken P consumed holds = elim consumed [ ]
on_script (Some script) (Some rest) taken P consumed holds = subst P (sym consumed) (holds rest)

-- likewise, where it is known what is left
on_rest : (first now : Option (List ℕ)) (taken : List ℕ) (P : List ℕ → Type 0) → Consumes first now taken → ((more : List ℕ) → now ≡ Some more → P (taken ++ more)) → IfSome first P
on_rest None now taken P consumed holds = tt
on_rest (Some script) None taken P consumed holds = elim consumed [ ]
on_rest (Some script) (Some rest) taken P consumed holds = subst P (sym consumed) (holds rest refl)

on_whole : (first now : Option (List ℕ)) (taken : List ℕ) (P : List ℕ → Type 0) → Consumes first now taken → IsAtEnd now → (now ≡ Some [] → P taken) → IfSome first P
on_whole None now taken P consumed over holds = tt
on_whole (Some script) None taken P consumed over holds = elim consumed [ ]
on_whole (Some script) (Some rest) taken P consumed over holds = subst P (sym (consumed ∙ ap (λ some. taken ++ some) over ∙ append-nil taken)) (holds (ap Some over))

module _ {A : Type 0} where
  plays-append : (old : PlayState A) (early : List (List ℕ)) (between : PlayState A) (late : List (List ℕ)) (new : PlayState A)
      → PlaysAll old early between → PlaysAll between late new → PlaysAll old (late ++ early) new
  plays-append old early between [] new first same = subst (PlaysAll old early) (sym same) first
  plays-append old early between (line ∷ late) new first then = (then.0, plays-append old early between late then.0 first then.1, then.2)

  took_both : (old between new : Progress A) (front more : List ℕ) (text other : List ℕ) → TakesIn old front between text → TakesIn between more new other
      → TakesIn old (front ++ more) new (text ++ other)
  took_both old between new front more text other first second = record {
    lines = second.lines ++ first.lines;
    whole = sym (append_assoc old.line front more) ∙ ap (λ some. some ++ more) first.whole
        ∙ append_assoc (joined first.lines) between.line more
        ∙ ap (λ rest. joined first.lines ++ rest) second.whole
        ∙ sym (append_assoc (joined first.lines) (joined second.lines) new.line)
        ∙ ap (λ some. some ++ new.line) (sym (joined-append second.lines first.lines));
    each = each-append second.lines first.lines second.each first.each;
    played = plays-append old.state first.lines between.state second.lines new.state first.played second.played;
    number = omega (arith, first.number, second.number, length-append second.lines first.lines);
    told = outputs_to_both old.state.exchange between.state.exchange new.state.exchange text other
        (same_subs old.state first.lines between.state first.played) first.told second.told;
  }

  stops_later : (fault : ReplayFault) (old between : Progress A) (front more : List ℕ) (left : Option (List ℕ)) (after : Exchange A) (text other : List ℕ) → TakesIn old front between text
      → Stops between.state between.number (between.line ++ more) fault left after other
      → Stops old.state old.number (old.line ++ (front ++ more)) fault left after (text ++ other)
  stops_later fault old between front more left after text other first stops = record {
    lines = stops.lines ++ first.lines;
    line = stops.line;
    more = stops.more;
    whole = sym (append_assoc old.line front more) ∙ ap (λ some. some ++ more) first.whole
        ∙ append_assoc (joined first.lines) between.line more
        ∙ ap (λ rest. joined first.lines ++ rest) stops.whole
        ∙ sym (append_assoc (joined first.lines) (joined stops.lines) (stops.line ++ stops.more))
        ∙ ap (λ some. some ++ (stops.line ++ stops.more)) (sym (joined-append stops.lines first.lines));
    each = each-append stops.lines first.lines stops.each first.each;
    no_feed = stops.no_feed;
    at = stops.at;
    played = plays-append old.state first.lines between.state stops.lines stops.at first.played stops.played;
    earlier = text ++ stops.earlier;
    own = stops.own;
    text_is = ap (λ rest. text ++ rest) stops.text_is ∙ sym (append_assoc text stops.earlier stops.own);
    told = outputs_to_both old.state.exchange between.state.exchange stops.at.exchange text stops.earlier
        (same_subs old.state first.lines between.state first.played) first.told stops.told;
    why = subst (λ number. StopsAt stops.at stops.line stops.more number fault left after stops.own)
        (let same : between.number + length stops.lines ≡ old.number + length (stops.lines ++ first.lines) = omega (arith, first.number, length-append stops.lines first.lines) in same)
        stops.why;
  }

  -- A front of the script was read, from this reader on, and what it says was written.
  pub record ReadTo (first : Progress A) (source now : Option (List ℕ)) (progress : Progress A) (old new : Option (List ℕ)) : Type 0 where
    pub taken : List ℕ
    pub consumed : Consumes source now taken
    pub text : List ℕ
    pub puts : Appends old new text
    pub took : TakesIn first taken progress text

  pub read_none : (first : Progress A) (source old : Option (List ℕ)) → ReadTo first source source first old old
  read_none first source old = record {
    taken = [];
    consumed = consumes_nothing source;
    text = [];
    puts = appends_nothing old;
    took = took_none first;
  }

  pub read_more : (first : Progress A) (source before now : Option (List ℕ)) (progress next : Progress A) (piece octets : List ℕ) (old between new : Option (List ℕ))
      → ReadTo first source before progress old between → Consumes before now piece → octets ≡ piece
      → (text : List ℕ) × Appends between new text × Took progress octets (Ok tt) next text
      → ReadTo first source now next old new
  read_more first source before now progress next piece octets old between new so_far consumed same took = record {
    taken = so_far.taken ++ octets;
    consumed = consumes_both source before now so_far.taken octets so_far.consumed (subst (Consumes before now) (sym same) consumed);
    text = so_far.text ++ took.0;
    puts = appends_both old between new so_far.text took.0 so_far.puts took.1;
    took = took_both first progress next so_far.taken octets so_far.text took.0 so_far.took took.2;
  }

  pub read_kept : (first : Progress A) (source before now : Option (List ℕ)) (progress : Progress A) (old new : Option (List ℕ))
      → ReadTo first source before progress old new → Keeps before now → ReadTo first source now progress old new
  read_kept first source before now progress old new so_far keeps = record {
    taken = so_far.taken;
    consumed = consumes_kept source before now so_far.taken so_far.consumed keeps;
    text = so_far.text;
    puts = so_far.puts;
    took = so_far.took;
  }

  abbrev pub Told : Progress A → Option (List ℕ) → Option (List ℕ) → Result (Unit {0}) ReplayFault → Option (List ℕ) → Exchange A → List ℕ → Type 0
  Told first old new result left after octets = (text : List ℕ) × Appends old new text × ReplaysFrom first octets result left after text

  pub told_stops : (first : Progress A) (source before now : Option (List ℕ)) (progress next : Progress A) (piece octets : List ℕ) (old between new : Option (List ℕ)) (fault : ReplayFault)
      → ReadTo first source before progress old between → Consumes before now piece → octets ≡ piece
      → (text : List ℕ) × Appends between new text × Took progress octets (Err fault) next text
      → IfSome source (Told first old new (Err fault) now next.state.exchange)
  told_stops first source before now progress next piece octets old between new fault so_far consumed same took =
      on_script source now (so_far.taken ++ octets) (Told first old new (Err fault) now next.state.exchange)
      (consumes_both source before now so_far.taken octets so_far.consumed (subst (Consumes before now) (sym same) consumed))
      (λ more. (
        so_far.text ++ took.0,
        appends_both old between new so_far.text took.0 so_far.puts took.1,
        subst (λ rest. Stops first.state first.number (first.line ++ rest) fault now next.state.exchange (so_far.text ++ took.0)) (sym (append_assoc so_far.taken octets more))
            (stops_later fault first progress so_far.taken (octets ++ more) now next.state.exchange so_far.text took.0 so_far.took (took.2 more now)),
      ))

  pub told_unread : (first : Progress A) (source before now : Option (List ℕ)) (progress : Progress A) (old new : Option (List ℕ))
      → ReadTo first source before progress old new → Keeps before now → HasNoFeed progress.line
      → IfSome source (Told first old new (Err Read) now progress.state.exchange)
  told_unread first source before now progress old new so_far keeps clean =
      on_rest source now so_far.taken (Told first old new (Err Read) now progress.state.exchange) (consumes_kept source before now so_far.taken so_far.consumed keeps)
      (λ more rest. (so_far.text, so_far.puts, took_unread first progress so_far.taken more now so_far.text so_far.took clean rest))

  pub told_all : (first : Progress A) (source before now : Option (List ℕ)) (progress next : Progress A) (nothing : List ℕ) (old between new : Option (List ℕ)) (result : Result (Unit {0}) ReplayFault)
      → ReadTo first source before progress old between → Consumes before now nothing → nothing ≡ [] → IsAtEnd now → HasNoFeed progress.line
      → (text : List ℕ) × Appends between new text × Finished progress result next text
      → IfSome source (Told first old new result now next.state.exchange)
  told_all first source before now progress next nothing old between new result so_far consumed none over clean finished =
      on_whole source now so_far.taken (Told first old new result now next.state.exchange) whole over
      (λ empty. (so_far.text ++ finished.0, appends_both old between new so_far.text finished.0 so_far.puts finished.1, go result empty finished.2))
    where
      whole : Consumes source now so_far.taken
      whole = subst (Consumes source now) (append-nil so_far.taken)
          (consumes_both source before now so_far.taken [] so_far.consumed (subst (Consumes before now) none consumed))

      go : (result : Result (Unit {0}) ReplayFault) → now ≡ Some [] → Finished progress result next finished.0 → ReplaysFrom first so_far.taken result now next.state.exchange (so_far.text ++ finished.0)
      go (Ok done) empty played = (empty, took_all first progress next so_far.taken so_far.text finished.0 so_far.took clean played)
      go (Err fault) empty stopped =
          subst (λ rest. Stops first.state first.number (first.line ++ rest) fault now next.state.exchange (so_far.text ++ finished.0)) (append-nil so_far.taken)
          (took_stops fault first progress next.state so_far.taken [] now so_far.text finished.0 so_far.took tt clean stopped)

  from_start : (old : Exchange A) (named : List NamedText) (script : List ℕ) (result : Result (Unit {0}) ReplayFault) (left : Option (List ℕ)) (after : Exchange A) (text : List ℕ)
      → ReplaysFrom (record { state = start old named; line = []; number = 1 }) script result left after text → Replays old named script result left after text
  from_start old named script (Ok done) left after text replays = replays
  from_start old named script (Err fault) left after text replays = replays

  abbrev pub Wrote : Exchange A → List NamedText → Option (List ℕ) → Option (List ℕ) → Result (Unit {0}) ReplayFault → Option (List ℕ) → Exchange A → List ℕ → Type 0
  Wrote first named old new result left after script = (text : List ℕ) × Appends old new text × Replays first named script result left after text

  -- a replay that began with nothing
  pub told_from_start : (exchange : Exchange A) (named : List NamedText) (source old new left : Option (List ℕ)) (first : Progress A) (result : Result (Unit {0}) ReplayFault) (after : Exchange A)
      → first ≡ record { state = start exchange named; line = []; number = 1 } → IfSome source (Told first old new result left after)
      → IfSome source (Wrote exchange named old new result left after)
  told_from_start exchange named None old new left first result after begun told = tt
  told_from_start exchange named (Some script) old new left first result after begun told =
      (told.0, told.1, from_start exchange named script result left after told.0 (subst (λ progress. ReplaysFrom progress script result left after told.0) begun told.2))

  -- nothing was read yet
  pub told_first : (exchange : Exchange A) (named : List NamedText) (source known : Option (List ℕ)) → IfSome source (Wrote exchange named known known (Err Memory) source exchange)
  told_first exchange named None known = tt
  told_first exchange named (Some script) known = ([], appends_nothing known, stops_first (start exchange named) 1 script (Some script))

module _ (A : Type 0) where
  abbrev pub WroteAlone : Tables → List NamedText → Option (List ℕ) → Option (List ℕ) → Result (Unit {0}) ReplayFault → List ℕ → Type 0
  WroteAlone tables named old new result script = (text : List ℕ) × Appends old new text × ReplaysAlone A tables named script result text

  -- on an exchange that was opened for it
  pub told_alone : (tables : Tables) (named : List NamedText) (source old new left : Option (List ℕ)) (first after : Exchange A) (result : Result (Unit {0}) ReplayFault) → first ≡ opened tables
      → IfSome source (Wrote first named old new result left after) → IfSome source (WroteAlone tables named old new result)
  told_alone tables named None old new left first after result same told = tt
  told_alone tables named (Some script) old new left first after result same told =
      let wrote = subst (λ exchange. Wrote exchange named old new result left after script) same told in
      (wrote.0, wrote.1, record { left = left; after = after; replays = wrote.2 })
