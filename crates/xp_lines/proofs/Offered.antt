-- What a line offers, one event at a time.
use Rattle.std.proofs.Common.{◌≡◌, ℕ, List, [], ◌∷◌, ◌++◌, refl, sym, ap, ◌∙◌, append_assoc, append-nil, map, subst, Bool, Option, None, Some, true, false, inl, inr, Result, Ok, Err}
use Rattle.std.proofs.lemmas.List.{map-append}
use Rattle.xp_packets.specs.declared.modulus.Modulus.{Modulus}
use Rattle.xp_frames.specs.Deframer.{DeframerState, Gives}
use Rattle.xp_step.specs.declared.event.Event.{Event}
use Rattle.xp_step.specs.declared.event.What.{What}
use Rattle.xp_subs.specs.Tables.{Tables}
use Rattle.xp_lock.specs.Passes.{GainsEvent, Pass, own_entries}
use Rattle.xp_lock.specs.declared.receipt.Receipt.{Receipt}
use Rattle.xp_lines.specs.AnswerTimer.{has_any}
use Rattle.xp_lines.specs.FrameEvents.{IsReadAs, AreReadAs}
use Rattle.xp_lines.specs.steps.Offering.{TakesFront, Tells, event_on}
use Rattle.xp_lines.specs.Offers.{Gains, Offers, happened, on_line}
use Rattle.xp_lines.specs.Reads.{keeps, stays}
use Rattle.xp_lines.specs.declared.over.Over.{Over}

stays_on : (over : Option Over) → stays over ≡ true → over ≡ None
stays_on None is = refl
stays_on (Some over) is = absurd (let never : false ≡ true = is in cc)

module _ {A : Type 0} where
  pub gains_nothing : (pass : Pass A) → Gains pass [] pass
  gains_nothing pass = record { line = refl; taken = refl; entries = []; own_entries_are = sym (append-nil (own_entries pass)); events = refl }

  pub gains_both : (first second third : Pass A) (whats others : List (What A)) → Gains first whats second → Gains second others third → Gains first (whats ++ others) third
  gains_both first second third whats others a b = record {
    line = b.line ∙ a.line;
    taken = b.taken ∙ a.taken;
    entries = a.entries ++ b.entries;
    own_entries_are = b.own_entries_are ∙ ap (λ xs. xs ++ b.entries) a.own_entries_are ∙ append_assoc (own_entries first) a.entries b.entries;
    events =
        map-append happened a.entries b.entries
        ∙ ap (λ xs. xs ++ map happened b.entries) a.events
        ∙ ap (λ xs. map (on_line first.line) whats ++ xs) (b.events ∙ ap (λ line. map (on_line line) others) a.line)
        ∙ sym (map-append (on_line first.line) whats others);
  }

  read_one_more : (modulus : Modulus) (packets : List (List ℕ)) (read : List (What A)) (packet : List ℕ) (what : What A) → AreReadAs modulus packets read → IsReadAs modulus packet what → AreReadAs modulus (packets ++ packet ∷ []) (read ++ what ∷ [])
  read_one_more modulus [] [] packet what so_far is = (is, tt)
  read_one_more modulus [] (one ∷ read) packet what so_far is = elim so_far [ ]
  read_one_more modulus (first ∷ packets) [] packet what so_far is = elim so_far [ ]
  read_one_more modulus (first ∷ packets) (one ∷ read) packet what so_far is = (so_far.0, read_one_more modulus packets read packet what so_far.1 is)

  -- The packets that were asked for so far are read as these events, and the others still wait.
  pub record ReadSoFar (modulus : Modulus) (frames : DeframerState) (ready : List (What A)) (now : DeframerState) : Type 0 where
    pub packets : List (List ℕ)
    pub frames_are : frames.waiting ≡ packets ++ now.waiting
    pub rest : now.rest ≡ frames.rest
    pub failed : now.failed ≡ frames.failed
    pub read_as : AreReadAs modulus packets ready

  pub read_none : (modulus : Modulus) (frames : DeframerState) → ReadSoFar modulus frames [] frames
  read_none modulus frames = record { packets = []; frames_are = refl; rest = refl; failed = refl; read_as = tt }

  -- one packet more
  pub read_more : (modulus : Modulus) (frames : DeframerState) (ready : List (What A)) (before : DeframerState) (packet : List ℕ) (what : What A) (now : DeframerState)
      → ReadSoFar modulus frames ready before → Gives before (Some packet) now → IsReadAs modulus packet what → ReadSoFar modulus frames (ready ++ what ∷ []) now
  read_more modulus frames ready before packet what now so_far gives is = record {
    packets = so_far.packets ++ packet ∷ [];
    frames_are = so_far.frames_are ∙ ap (λ xs. so_far.packets ++ xs) gives.0 ∙ sym (append_assoc so_far.packets (packet ∷ []) now.waiting);
    rest = gives.1 ∙ so_far.rest;
    failed = gives.2 ∙ so_far.failed;
    read_as = read_one_more modulus so_far.packets ready packet what so_far.read_as is;
  }

  -- none is left
  pub read_all : (modulus : Modulus) (frames : DeframerState) (ready : List (What A)) (now : DeframerState) → ReadSoFar modulus frames ready now → now.waiting ≡ [] → AreReadAs modulus frames.waiting ready
  read_all modulus frames ready now so_far none =
      subst (λ packets. AreReadAs modulus packets ready) (sym (so_far.frames_are ∙ ap (λ xs. so_far.packets ++ xs) none ∙ append-nil so_far.packets)) so_far.read_as

  -- an allocation failed before any was offered
  pub offers_nothing : (modulus : Modulus) (frames left : List (List ℕ)) → Offers {A = A} modulus frames [] false left
  offers_nothing modulus frames left = record {
    packets = [];
    unread = frames;
    frames_are = refl;
    read = [];
    read_as = tt;
    unoffered = [];
    in_order = refl;
    kept = λ is. absurd (let never : false ≡ true = is in cc);
  }

  -- all were read, and those were offered up to the first that was refused
  pub offers_front : (modulus : Modulus) (frames left : List (List ℕ)) (old : Pass A) (ready : List (What A)) (over : Option Over) (new : Pass A)
      → AreReadAs modulus frames ready → left ≡ [] → (front : TakesFront old ready over new) → Offers modulus frames front.whats (stays over) left
  offers_front modulus frames left old ready over new read none front = record {
    packets = frames;
    unread = [];
    frames_are = sym (append-nil frames);
    read = ready;
    read_as = read;
    unoffered = front.left;
    in_order = front.in_order;
    kept = λ is. (sym none, front.all (stays_on over is));
  }

  pub refused : (old new : Pass A) (what : What A) (result : Result Receipt Over) (over : Over) → Tells old what result new → result ≡ Err over → (keeps (Some over) ≡ false) × (new ≡ old)
  refused old new what result over tells is = subst (λ r. Tells old what r new) is tells

  pub accepted : (old new : Pass A) (what : What A) (result : Result Receipt Over) (done : Receipt) → Tells old what result new → result ≡ Ok done → Gains old (what ∷ []) new
  accepted old new what result done tells is = subst (λ r. Tells old what r new) is tells

  -- one event of the line was taken
  pub gains_one : (subs : Tables) (old new : Pass A) (line moment : ℕ) (what : What A) (receipt : Receipt) → GainsEvent subs old (event_on line moment what) receipt new → line ≡ old.line → Gains old (what ∷ []) new
  gains_one subs old new line moment what receipt gains same = record {
    line = gains.line;
    taken = gains.taken;
    entries = gains.entered.forcing.entry ∷ [];
    own_entries_are = gains.own_entries_are;
    events = ap (λ (e : Event A). on_line e.line e.what ∷ []) gains.entered.event_is ∙ ap (λ l. on_line l what ∷ []) same;
  }

  -- The first of a list of events were taken, and these are left.
  pub record TakenSoFar (old : Pass A) (ready left : List (What A)) (new : Pass A) : Type 0 where
    pub whats : List (What A)
    pub in_order : ready ≡ whats ++ left
    pub gains : Gains old whats new

  pub taken_none : (pass : Pass A) (ready : List (What A)) → TakenSoFar pass ready ready pass
  taken_none pass ready = record { whats = []; in_order = refl; gains = gains_nothing pass }

  pub taken_one : (old before new : Pass A) (ready left rest : List (What A)) (what : What A)
      → TakenSoFar old ready left before → left ≡ what ∷ rest → Gains before (what ∷ []) new → TakenSoFar old ready rest new
  taken_one old before new ready left rest what so_far is gains = record {
    whats = so_far.whats ++ what ∷ [];
    in_order = so_far.in_order ∙ ap (λ xs. so_far.whats ++ xs) is ∙ sym (append_assoc so_far.whats (what ∷ []) rest);
    gains = gains_both _ _ _ _ _ so_far.gains gains;
  }

  -- all were taken
  pub takes_all : (old new : Pass A) (ready left : List (What A)) → TakenSoFar old ready left new → left ≡ [] → TakesFront old ready None new
  takes_all old new ready left so_far none = record {
    whats = so_far.whats;
    left = left;
    in_order = so_far.in_order;
    gains = so_far.gains;
    all = λ _. none;
    refused = inl refl;
  }

  -- one was refused
  pub takes_until : (old before new : Pass A) (ready left : List (What A)) (over : Over) → TakenSoFar old ready left before → (keeps (Some over) ≡ false) × (new ≡ before) → TakesFront old ready (Some over) new
  takes_until old before new ready left over so_far (loses, same) = record {
    whats = so_far.whats;
    left = left;
    in_order = so_far.in_order;
    gains = subst (Gains old so_far.whats) (sym same) so_far.gains;
    all = λ is. absurd (let never : Some over ≡ None = is in cc);
    refused = inr loses;
  }

  -- whether any was offered
  pub sent_is : (old : Pass A) (ready : List (What A)) (over : Option Over) (new : Pass A) (sent : Bool) → (front : TakesFront old ready over new) → sent ≡ has_any ready → stays over ≡ true → sent ≡ has_any front.whats
  sent_is old ready over new sent front is on =
      is ∙ ap has_any (front.in_order ∙ ap (λ xs. front.whats ++ xs) (front.all (stays_on over on)) ∙ append-nil front.whats)
