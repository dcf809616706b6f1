-- The links of a line, one after the other, turn by turn.
use Rattle.std.proofs.Common.{◌≡◌, ◌⊎◌, ℕ, List, [], ◌∷◌, ◌++◌, refl, sym, ap, ◌∙◌, append-nil, subst, Option, None, Some, Bool, Result, Ok, Err, inl, inr}
use Rattle.std.specs.List.{AllByRecursion}
use Rattle.xp_packets.specs.declared.modulus.Modulus.{Modulus}
use Rattle.xp_subs.specs.Tables.{Tables, modulus_of}
use Rattle.xp_step.specs.declared.event.What.{What}
use Rattle.xp_step.specs.declared.event.What.TheVariants.{Up, Down}
use Rattle.xp_step.specs.declared.output.Outgoing.{Outgoing}
use Rattle.xp_lock.specs.Passes.{GainsEvent, Pass}
use Rattle.xp_lock.specs.declared.receipt.Receipt.{Receipt}
use Rattle.xp_lines.specs.Offers.{Gains}
use Rattle.xp_lines.specs.Sessions.{AreSessions, ComesUp, Drops, EndsWritten, Goes, IsGone, IsLineDown, IsLineServed, IsSession, PastSession, WritesLast, left_at_last}
use Rattle.xp_lines.specs.Together.{AreTurns, Left, MayFollow, last_of}
use Rattle.xp_lines.specs.Turns.{Here, IsTurn, Seen}
use Rattle.xp_lines.proofs.Written.{rest_lost, took_both}
use Rattle.xp_lines.specs.steps.Offering.{Tells, event_on}
use Rattle.xp_lines.specs.steps.Sessions.{AreOver, Closes, Connects, GoesBy, GoesOn, IsHere, IsOn, IsThere, Leaves, Steps}
use Rattle.xp_lines.specs.declared.over.Over.{Over}
use Rattle.xp_lines.specs.declared.line.EndReason.{EndReason}
use Rattle.xp_lines.specs.declared.line.EndReason.TheVariants.{Stopped}
use Rattle.xp_lines.specs.declared.turning.TurnOutcome.{TurnOutcome}
use Rattle.xp_lines.specs.declared.turning.TurnOutcome.TheVariants.{Linked, Dropped, DownOwed, Halted, Journal}

is_there : (after : TurnOutcome) → GoesOn after → IsThere after
is_there Linked goes = tt
is_there Dropped goes = goes
is_there DownOwed goes = tt
is_there Halted goes = absurd goes
is_there Journal goes = absurd goes

none_follows : (A : Type 0) (after : TurnOutcome) → MayFollow {A = A} after []
none_follows A Linked = tt
none_follows A Dropped = refl
none_follows A DownOwed = tt
none_follows A Halted = refl
none_follows A Journal = refl

module _ {A : Type 0} where
  pub drops_nothing : (pass : Pass A) → Drops pass pass
  drops_nothing pass = ([], record { line = refl; seen = refl; taken = sym (append-nil pass.taken) })

  pub drops_same : (old new : Pass A) → new ≡ old → Drops old new
  drops_same old new same = subst (Drops old) (sym same) (drops_nothing old)

  pub drops_both : (old now next : Pass A) → Drops old now → Drops now next → Drops old next
  drops_both old now next first second = (first.0 ++ second.0, took_both old now next first.0 second.0 first.1 second.1)

  -- one output more is dropped
  pub drops_more : (old now next : Pass A) (item : Outgoing A) → Drops old now → next ≡ record now { taken = now.taken ++ item ∷ [] } → Drops old next
  drops_more old now next item so_far same = drops_both old now next so_far
      (subst (Drops now) (sym same) (item ∷ [], record { line = refl; seen = refl; taken = refl }))

  -- that a link came was accepted
  pub comes_up : (subs : Tables) (before pass : Pass A) (moment : ℕ) (what : What A) (receipt : Receipt) (connection : ℕ) → GainsEvent subs before (event_on before.line moment what) receipt pass → what ≡ Up → connection ≡ receipt.connection → ComesUp subs before connection pass
  comes_up subs before pass moment what receipt connection gains is_up connection_is = record {
    before = before;
    drops = drops_nothing before;
    moment = moment;
    receipt = receipt;
    gains = subst (λ w. GainsEvent subs before (event_on before.line moment w) receipt pass) is_up gains;
    connection_is = connection_is;
  }

  comes_later : (subs : Tables) (old before : Pass A) (connection : ℕ) (came : Pass A) → Drops old before → ComesUp subs before connection came → ComesUp subs old connection came
  comes_later subs old before connection came drops comes = record {
    before = comes.before;
    drops = drops_both old before comes.before drops comes.drops;
    moment = comes.moment;
    receipt = comes.receipt;
    gains = comes.gains;
    connection_is = comes.connection_is;
  }

  -- the Down was accepted, and then outputs were dropped
  pub goes_down : (old gone : Pass A) (why : EndReason) (new : Pass A) → Gains old (Down ∷ []) gone → Drops gone new → GoesBy why old new
  goes_down old gone why new gains drops = record { gone = gone; goes = inl gains; stopped = λ _. gains; drops = drops }

  -- nothing changed, and the line was not stopped
  pub goes_not : (old : Pass A) (why : EndReason) (new : Pass A) → new ≡ old → (why ≡ Stopped → ⊥) → GoesBy why old new
  goes_not old why new same not_stopped = record { gone = new; goes = inr same; stopped = λ stopped. absurd (not_stopped stopped); drops = drops_nothing new }

  -- the line ends for another reason, and its Down was offered
  pub goes_told : (old : Pass A) (result : Result Receipt Over) (new : Pass A) (why : EndReason) → Tells old Down result new → (why ≡ Stopped → ⊥) → GoesBy why old new
  goes_told old (Ok done) new why tells not_stopped = goes_down old new why new tells (drops_nothing new)
  goes_told old (Err over) new why tells not_stopped = goes_not old why new tells.1 not_stopped

  goes_by : (after : TurnOutcome) (last gone : Pass A) → IsThere after → Gains last (Down ∷ []) gone ⊎ (gone ≡ last) → Goes after last gone
  goes_by Linked last gone there goes = goes
  goes_by Dropped last gone there goes = absurd there
  goes_by DownOwed last gone there goes = goes
  goes_by Halted last gone there goes = goes
  goes_by Journal last gone there goes = goes

  goes_follow : (after : TurnOutcome) (turns : List (Left A)) → GoesOn after → MayFollow after turns
  goes_follow Linked turns goes = tt
  goes_follow Dropped turns goes = absurd goes
  goes_follow DownOwed turns goes = tt
  goes_follow Halted turns goes = absurd goes
  goes_follow Journal turns goes = absurd goes

  more_follow : (after : TurnOutcome) (first : Left A) (turns more : List (Left A)) → MayFollow after (first ∷ turns) → MayFollow after (first ∷ more)
  more_follow Linked first turns more may = tt
  more_follow Dropped first turns more may = absurd (let none : first ∷ turns ≡ [] = may in cc)
  more_follow DownOwed first turns more may = tt
  more_follow Halted first turns more may = absurd (let none : first ∷ turns ≡ [] = may in cc)
  more_follow Journal first turns more may = absurd (let none : first ∷ turns ≡ [] = may in cc)

  last_more : (came : Left A) (turns : List (Left A)) (left : Left A) → last_of came (turns ++ left ∷ []) ≡ left
  last_more came [] left = refl
  last_more came (first ∷ turns) left = last_more first turns left

  -- one turn more
  turns_more : (modulus : Modulus) (connection : ℕ) (came : Left A) (turns : List (Left A)) (last left : Left A)
      → AreTurns modulus connection came.pass came.seen turns → last_of came turns ≡ last → GoesOn last.after
      → (now : ℕ) × (wanting : Bool) × IsTurn modulus now connection last.pass last.seen left.after wanting left.pass left.seen
      → AreTurns modulus connection came.pass came.seen (turns ++ left ∷ [])
  turns_more modulus connection came [] last left are is goes turn =
      (subst (λ (l : Left A). (now : ℕ) × (wanting : Bool) × IsTurn modulus now connection l.pass l.seen left.after wanting left.pass left.seen) (sym is) turn, none_follows A left.after, tt)
  turns_more modulus connection came (first ∷ []) last left are is goes turn =
      (are.0, goes_follow first.after (left ∷ []) (subst (λ (l : Left A). GoesOn l.after) (sym is) goes), turns_more modulus connection first [] last left tt is goes turn)
  turns_more modulus connection came (first ∷ second ∷ turns) last left are is goes turn =
      (are.0, more_follow first.after second turns (turns ++ left ∷ []) are.1, turns_more modulus connection first (second ∷ turns) last left are.2 is goes turn)

all_more : {X : Type 0} (P : X → Type 0) (xs : List X) (x : X) → AllByRecursion P xs → P x → AllByRecursion P (xs ++ x ∷ [])
all_more P [] x all one = (one, tt)
all_more P (first ∷ xs) x all one = (all.0, all_more P xs x all.1 one)

module _ {A : Type 0} (subs : Tables) (of_link : Option (List ℕ) → Option (List ℕ) → Type 0) where
  over_more : (old : Pass A) (sessions : List (PastSession A)) (between : Pass A) (session : PastSession A) → AreOver subs of_link old sessions between
      → IsSession subs of_link between session → (left_at_last session).after ≡ Dropped → AreOver subs of_link old (sessions ++ session ∷ []) session.gone
  over_more old [] between session over is dropped = (subst (λ p. IsSession subs of_link p session) over is, dropped, refl)
  over_more old (first ∷ sessions) between session over is dropped = (over.0, over.1, over_more first.gone sessions between session over.2 is dropped)

  over_then : (old : Pass A) (sessions : List (PastSession A)) (between : Pass A) (more : List (PastSession A)) (new : Pass A) → AreOver subs of_link old sessions between
      → AreSessions subs of_link between more new → AreSessions subs of_link old (sessions ++ more) new
  over_then old [] between more new over are = subst (λ p. AreSessions subs of_link p more new) over are
  over_then old (first ∷ sessions) between more new over are = (over.0, inl over.1, over_then first.gone sessions between more new over.2 are)

  over_gone : (old : Pass A) (sessions : List (PastSession A)) (between : Pass A) → AreOver subs of_link old sessions between → AllByRecursion IsGone sessions
  over_gone old [] between over = tt
  over_gone old (session ∷ sessions) between over = (inl over.1, over_gone session.gone sessions between over.2)

  over_written : (old : Pass A) (sessions : List (PastSession A)) (between new : Pass A) → AreOver subs of_link old sessions between → EndsWritten subs of_link sessions new
  over_written old [] between new over = tt
  over_written old (session ∷ []) between new over = inl over.1
  over_written old (session ∷ next ∷ sessions) between new over = over_written session.gone (next ∷ sessions) between new over.2

  -- it is said of the last link
  pub written_last : (sessions : List (PastSession A)) (session : PastSession A) (new : Pass A) → WritesLast subs of_link session new → EndsWritten subs of_link (sessions ++ session ∷ []) new
  written_last [] session new writes = inr writes
  written_last (first ∷ []) session new writes = inr writes
  written_last (first ∷ next ∷ sessions) session new writes = written_last (next ∷ sessions) session new writes

  moved_last : (came : Left A) (turns : List (Left A)) → of_link came.seen.pushed came.seen.pulled → AllByRecursion (λ left. of_link left.seen.pushed left.seen.pulled) turns
      → of_link (last_of came turns).seen.pushed (last_of came turns).seen.pulled
  moved_last came [] moved all = moved
  moved_last came (left ∷ turns) moved all = moved_last left turns all.0 all.1

  -- the line has had no turn
  pub on_nothing : (pass : Pass A) → IsOn subs of_link GoesOn pass None pass
  on_nothing pass = record { sessions = []; between = pass; over = refl; rest = drops_nothing pass }

  there_here : (old : Pass A) (link : Option Here) (pass : Pass A) → IsHere subs of_link GoesOn old link pass → IsHere subs of_link IsThere old link pass
  there_here old None pass drops = drops
  there_here old (Some (connection, seen)) pass there = record {
    came = there.came;
    first = there.first;
    turns = there.turns;
    comes = there.comes;
    fresh = there.fresh;
    are_turns = there.are_turns;
    moved_at_first = there.moved_at_first;
    moved = there.moved;
    after = there.after;
    may_be = is_there there.after there.may_be;
    last = there.last;
    line = there.line;
  }

  -- the turns have come to their end
  pub on_there : (first : Pass A) (link : Option Here) (pass : Pass A) → IsOn subs of_link GoesOn first link pass → IsOn subs of_link IsThere first link pass
  on_there first link pass on = record { sessions = on.sessions; between = on.between; over = on.over; rest = there_here on.between link pass on.rest }

  -- what a turn comes to: the turns end with it, or go on after it
  abbrev pub OnAfter : Pass A → Option Here → Option EndReason → Pass A → Type 0
  OnAfter first left end new = IsOn subs of_link IsThere first left new × (end ≡ None → IsOn subs of_link GoesOn first left new)

  connected : (first : Pass A) (pass : Pass A) (left : Option Here) (end : Option EndReason) (new : Pass A)
      → IsOn subs of_link GoesOn first None pass → Connects subs of_link pass left end new → IsOn subs of_link GoesOn first left new
  connected first pass None end new on drops =
      record { sessions = on.sessions; between = on.between; over = on.over; rest = drops_both on.between pass new on.rest drops }
  connected first pass (Some (connection, seen)) end new on (comes, fresh, moved, line, _) = record {
    sessions = on.sessions;
    between = on.between;
    over = on.over;
    rest = record {
      came = new;
      first = seen;
      turns = [];
      comes = comes_later subs on.between pass connection new on.rest comes;
      fresh = fresh;
      are_turns = tt;
      moved_at_first = moved;
      moved = tt;
      after = Linked;
      may_be = tt;
      last = refl;
      line = line ∙ on.rest.1.line;
    };
  }

  module _ (first : Pass A) (connection : ℕ) (pass : Pass A) (seen : Seen) (new : Pass A) (on : IsOn subs of_link GoesOn first (Some (connection, seen)) pass)
      (after : TurnOutcome) (now : ℕ) (wanting : Bool) (new_seen : Seen) (is_turn : IsTurn (modulus_of subs pass.line) now connection pass seen after wanting new new_seen)
      (moved : of_link new_seen.pushed new_seen.pulled) (line : new.line ≡ pass.line) where
    this : Left A
    this = record { after = after; pass = new; seen = new_seen }

    came : Left A
    came = record { after = Linked; pass = on.rest.came; seen = on.rest.first }

    more : AreTurns (modulus_of subs on.between.line) connection on.rest.came on.rest.first (on.rest.turns ++ this ∷ [])
    unfolding this came
    more =
        turns_more (modulus_of subs on.between.line) connection came on.rest.turns (record { after = on.rest.after; pass = pass; seen = seen }) this on.rest.are_turns on.rest.last on.rest.may_be
        (now, wanting, subst (λ l. IsTurn (modulus_of subs l) now connection pass seen after wanting new new_seen) on.rest.line is_turn)

    all_moved : AllByRecursion (λ left. of_link left.seen.pushed left.seen.pulled) (on.rest.turns ++ this ∷ [])
    unfolding this
    all_moved = all_more (λ left. of_link left.seen.pushed left.seen.pulled) on.rest.turns this on.rest.moved moved

    -- the link is there after the turn
    still_open : (may : TurnOutcome → Type 0) → may after → IsOn subs of_link may first (Some (connection, new_seen)) new
    unfolding this came more all_moved
    still_open may is = record {
      sessions = on.sessions;
      between = on.between;
      over = on.over;
      rest = record {
        came = on.rest.came;
        first = on.rest.first;
        turns = on.rest.turns ++ this ∷ [];
        comes = on.rest.comes;
        fresh = on.rest.fresh;
        are_turns = more;
        moved_at_first = on.rest.moved_at_first;
        moved = all_moved;
        after = after;
        may_be = is;
        last = last_more came on.rest.turns this;
        line = line ∙ on.rest.line;
      };
    }

    session : PastSession A
    unfolding this
    session = record { connection = connection; came = on.rest.came; seen = on.rest.first; turns = on.rest.turns ++ this ∷ []; gone = new }

    -- it went in the turn
    went : after ≡ Dropped → IsOn subs of_link GoesOn first None new
    unfolding this came more all_moved session
    went dropped =
        let last : left_at_last session ≡ this = last_more came on.rest.turns this in
        let is_dropped : (left_at_last session).after ≡ Dropped = ap (λ (l : Left A). l.after) last ∙ dropped in
        let is : IsSession subs of_link on.between session = record {
          comes = on.rest.comes;
          fresh = on.rest.fresh;
          turns = more;
          moved_at_first = on.rest.moved_at_first;
          moved = all_moved;
          goes =
              subst (λ a. Goes a (left_at_last session).pass new) (sym is_dropped)
              (ap (λ (l : Left A). l.pass) (sym last));
        } in
        record { sessions = on.sessions ++ session ∷ []; between = new; over = over_more first on.sessions on.between session on.over is is_dropped; rest = drops_nothing new }

  turned : (first : Pass A) (connection : ℕ) (pass : Pass A) (seen : Seen) (left : Option Here) (end : Option EndReason) (new : Pass A)
      → IsOn subs of_link GoesOn first (Some (connection, seen)) pass
      → (after : TurnOutcome) (now : ℕ) (wanting : Bool) (new_seen : Seen) → IsTurn (modulus_of subs pass.line) now connection pass seen after wanting new new_seen
      → of_link new_seen.pushed new_seen.pulled → new.line ≡ pass.line → Leaves after (connection, new_seen) left end → OnAfter first left end new
  turned first connection pass seen left end new on Linked now wanting new_seen is moved line leaves =
      subst (λ l. OnAfter first l end new) (sym leaves)
      (still_open first connection pass seen new on Linked now wanting new_seen is moved line IsThere tt, λ _. still_open first connection pass seen new on Linked now wanting new_seen is moved line GoesOn tt)
  turned first connection pass seen left end new on DownOwed now wanting new_seen is moved line leaves =
      subst (λ l. OnAfter first l end new) (sym leaves)
      (still_open first connection pass seen new on DownOwed now wanting new_seen is moved line IsThere tt, λ _. still_open first connection pass seen new on DownOwed now wanting new_seen is moved line GoesOn tt)
  turned first connection pass seen left end new on Dropped now wanting new_seen is moved line leaves =
      let on_now = went first connection pass seen new on Dropped now wanting new_seen is moved line refl in
      subst (λ l. OnAfter first l end new) (sym leaves) (on_there first None new on_now, λ _. on_now)
  turned first connection pass seen left end new on Halted now wanting new_seen is moved line leaves =
      subst (λ l. OnAfter first l end new) (sym leaves.0)
      (still_open first connection pass seen new on Halted now wanting new_seen is moved line IsThere tt, λ none. absurd (leaves.1 none))
  turned first connection pass seen left end new on Journal now wanting new_seen is moved line leaves =
      subst (λ l. OnAfter first l end new) (sym leaves.0)
      (still_open first connection pass seen new on Journal now wanting new_seen is moved line IsThere tt, λ none. absurd (leaves.1 none))

  -- one turn more
  pub on_more : (first : Pass A) (link : Option Here) (pass : Pass A) (left : Option Here) (end : Option EndReason) (new : Pass A)
      → IsOn subs of_link GoesOn first link pass → Steps subs of_link pass link left end new → OnAfter first left end new
  on_more first None pass left end new on steps =
      let on_now = connected first pass left end new on steps in (on_there first left new on_now, λ _. on_now)
  on_more first (Some (connection, seen)) pass left end new on steps =
      turned first connection pass seen left end new on steps.after steps.now steps.wanting steps.new_seen steps.is_turn steps.moved steps.line steps.leaves

  -- the links of a line that has ended, all of them gone where it was stopped
  abbrev pub EndsWith : Pass A → EndReason → Pass A → Type 0
  EndsWith first why new =
      (sessions : List (PastSession A)) × AreSessions subs of_link first sessions new × (why ≡ Stopped → AllByRecursion IsGone sessions × EndsWritten subs of_link sessions new)

  -- The link that was there goes as the line is stopped.
  pub record GoneWith (first : Pass A) (connection : ℕ) (seen : Seen) (gone : Pass A) : Type 0 where
    pub sessions : List (PastSession A)
    pub session : PastSession A
    pub are : AreSessions subs of_link first (sessions ++ session ∷ []) session.gone
    pub all_gone : AllByRecursion IsGone (sessions ++ session ∷ [])
    pub gone_is : session.gone ≡ gone
    pub connection_is : session.connection ≡ connection
    pub seen_is : (left_at_last session).seen ≡ seen

  pub gone_with : (first : Pass A) (connection : ℕ) (seen : Seen) (pass gone : Pass A) → IsOn subs of_link IsThere first (Some (connection, seen)) pass → Gains pass (Down ∷ []) gone
      → GoneWith first connection seen gone
  gone_with first connection seen pass gone on gains =
      let there = on.rest in
      let session : PastSession A = record { connection = connection; came = there.came; seen = there.first; turns = there.turns; gone = gone } in
      let is : IsSession subs of_link on.between session = record {
        comes = there.comes;
        fresh = there.fresh;
        turns = there.are_turns;
        moved_at_first = there.moved_at_first;
        moved = there.moved;
        goes = subst (λ (l : Left A). Goes l.after l.pass gone) (sym there.last) (goes_by there.after pass gone there.may_be (inl gains));
      } in
      let goes : IsGone session = inr (subst (λ (l : Left A). Gains l.pass (Down ∷ []) gone) (sym there.last) gains) in
      record {
        sessions = on.sessions;
        session = session;
        are = over_then first on.sessions on.between (session ∷ []) gone on.over (is, inr refl, drops_nothing gone);
        all_gone = all_more IsGone on.sessions session (over_gone first on.sessions on.between on.over) goes;
        gone_is = refl;
        connection_is = refl;
        seen_is = ap (λ (l : Left A). l.seen) there.last;
      }

  -- the line has ended
  pub ends_with : (first : Pass A) (link : Option Here) (pass : Pass A) (why : EndReason) (new : Pass A) → IsOn subs of_link IsThere first link pass → Closes link why pass new → EndsWith first why new
  ends_with first None pass why new on closes = (
    on.sessions,
    subst (λ sessions. AreSessions subs of_link first sessions new) (append-nil on.sessions)
        (over_then first on.sessions on.between [] new on.over (subst (Drops on.between) (sym closes) on.rest)),
    λ _. (over_gone first on.sessions on.between on.over, over_written first on.sessions on.between new on.over),
  )
  ends_with first (Some (connection, seen)) pass why new on closes =
      let there = on.rest in
      let session : PastSession A = record { connection = connection; came = there.came; seen = there.first; turns = there.turns; gone = closes.gone } in
      let is : IsSession subs of_link on.between session = record {
        comes = there.comes;
        fresh = there.fresh;
        turns = there.are_turns;
        moved_at_first = there.moved_at_first;
        moved = there.moved;
        goes = subst (λ (l : Left A). Goes l.after l.pass closes.gone) (sym there.last) (goes_by there.after pass closes.gone there.may_be closes.goes);
      } in
      let gone : why ≡ Stopped → IsGone session = λ stopped. inr (subst (λ (l : Left A). Gains l.pass (Down ∷ []) closes.gone) (sym there.last) (closes.stopped stopped)) in
      let last = left_at_last session in
      let lost : WritesLast subs of_link session new = record {
        left = last.seen.unwritten;
        lost = _;
        pushed = last.seen.pushed;
        pulled = last.seen.pulled;
        moved = moved_last (record { after = Linked; pass = there.came; seen = there.first }) there.turns there.moved_at_first there.moved;
        writes = rest_lost (modulus_of subs closes.gone.line) connection closes.gone last.seen.unwritten last.seen.pushed new closes.drops.0 closes.drops.1;
      } in (
        on.sessions ++ session ∷ [],
        over_then first on.sessions on.between (session ∷ []) new on.over (is, inr refl, closes.drops),
        λ stopped. (all_more IsGone on.sessions session (over_gone first on.sessions on.between on.over) (gone stopped), written_last on.sessions session new lost),
      )

  pub is_down : (first : Pass A) (why : EndReason) (new : Pass A) → EndsWith first why new → why ≡ Stopped → IsLineDown subs of_link first new
  is_down first why new ends stopped = (ends.0, ends.1, (ends.2 stopped).0, (ends.2 stopped).1)

  -- a link came, after outputs were dropped
  pub connects_later : (old before : Pass A) (left : Option Here) (end : Option EndReason) (new : Pass A) → Drops old before → Connects subs of_link before left end new → Connects subs of_link old left end new
  connects_later old before None end new drops later = drops_both old before new drops later
  connects_later old before (Some (connection, seen)) end new drops (comes, fresh, moved, line, none) =
      (comes_later subs old before connection new drops comes, fresh, moved, line ∙ drops.1.line, none)

-- less is said of the links
module _ {A : Type 0} (subs : Tables) (of_link other : Option (List ℕ) → Option (List ℕ) → Type 0) (less : (pushed pulled : Option (List ℕ)) → of_link pushed pulled → other pushed pulled) where
  all_moved_less : (turns : List (Left A)) → AllByRecursion (λ left. of_link left.seen.pushed left.seen.pulled) turns → AllByRecursion (λ left. other left.seen.pushed left.seen.pulled) turns
  all_moved_less [] all = tt
  all_moved_less (left ∷ turns) all = (less left.seen.pushed left.seen.pulled all.0, all_moved_less turns all.1)

  session_less : (old : Pass A) (session : PastSession A) → IsSession subs of_link old session → IsSession subs other old session
  session_less old session is = record {
    comes = is.comes;
    fresh = is.fresh;
    turns = is.turns;
    moved_at_first = less session.seen.pushed session.seen.pulled is.moved_at_first;
    moved = all_moved_less session.turns is.moved;
    goes = is.goes;
  }

  sessions_less : (old : Pass A) (sessions : List (PastSession A)) (new : Pass A) → AreSessions subs of_link old sessions new → AreSessions subs other old sessions new
  sessions_less old [] new are = are
  sessions_less old (session ∷ sessions) new are = (session_less old session are.0, are.1, sessions_less session.gone sessions new are.2)

  pub served_less : (first last : Pass A) → IsLineServed subs of_link first last → IsLineServed subs other first last
  served_less first last is = (is.0, is.1, sessions_less first is.1 last is.2)

  written_less : (sessions : List (PastSession A)) (last : Pass A) → EndsWritten subs of_link sessions last → EndsWritten subs other sessions last
  written_less [] last ends = tt
  written_less (last_one ∷ []) last (inl dropped) = inl dropped
  written_less (last_one ∷ []) last (inr writes) =
      inr (record { left = writes.left; lost = writes.lost; pushed = writes.pushed; pulled = writes.pulled; moved = less writes.pushed writes.pulled writes.moved; writes = writes.writes })
  written_less (first ∷ next ∷ sessions) last ends = written_less (next ∷ sessions) last ends

  pub down_less : (first last : Pass A) → IsLineDown subs of_link first last → IsLineDown subs other first last
  down_less first last is = (is.0, sessions_less first is.0 last is.1, is.2, written_less is.0 last is.3)
