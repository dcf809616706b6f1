-- Events of frames, one more at a time.
use Rattle.std.proofs.Common.{◌≡◌, ℕ, List, [], ◌∷◌, ◌++◌, refl, sym, ap, ◌∙◌, append_assoc, append-nil, subst, All, true, false, Some, Result, Ok, Err, IfOk, OnOk}
use Rattle.std.proofs.lemmas.List.Elements.{All-append, All-nil, All-cons}
use Rattle.xp_frames.specs.Deframer.{DeframerState, Gives, Takes}
use Rattle.xp_packets.specs.declared.modulus.Modulus.{Modulus}
use Rattle.xp_step.specs.declared.event.What.TheVariants.{Down}
use Rattle.xp_step.specs.declared.event.Event.{Event}
use Rattle.xp_exchange.specs.steps.Acting.{emptied, IsBetweenFrames, TakesWhole}
use Rattle.xp_exchange.specs.FrameEvents.{AreRead, CanCome, ReadsEvents, IsReadAs}

-- the waiting packets are those of the frames
taken_waiting : (old between : DeframerState) (octets : List ℕ) → IsBetweenFrames old → (takes : Takes old octets between) → between.waiting ≡ takes.packets
taken_waiting old between octets idle takes = takes.waiting ∙ ap (λ front. front ++ takes.packets) idle.0

module _ {A : Type 0} where
  pub read_one_more : (modulus : Modulus) (line moment : ℕ) (packets : List (List ℕ)) (events : List (Event A)) (packet : List ℕ) (event : Event A)
      → AreRead modulus line moment packets events → event.line ≡ line → event.moment ≡ moment → IsReadAs modulus packet event.what
      → AreRead modulus line moment (packets ++ packet ∷ []) (events ++ event ∷ [])
  read_one_more modulus line moment [] [] packet event read here then what = (here, then, what, tt)
  read_one_more modulus line moment [] (one ∷ events) packet event read here then what = elim read [ ]
  read_one_more modulus line moment (first ∷ packets) [] packet event read here then what = elim read [ ]
  read_one_more modulus line moment (first ∷ packets) (one ∷ events) packet event read here then what =
      (read.0, read.1, read.2, read_one_more modulus line moment packets events packet event read.3 here then what)

  abbrev pub IsFit : ℕ → Event A → Type 0
  IsFit line event = (event.line ≡ line) × CanCome event.what

  -- The packets that were asked for so far are these events, and the others wait.
  pub record ReadSoFar (modulus : Modulus) (line moment : ℕ) (first now : DeframerState) (events : List (Event A)) : Type 0 where
    pub packets : List (List ℕ)
    pub waiting : first.waiting ≡ packets ++ now.waiting
    pub rest : now.rest ≡ first.rest
    pub failed : now.failed ≡ first.failed
    pub read : AreRead modulus line moment packets events
    pub fit : All (IsFit line) events

  pub read_nothing : (modulus : Modulus) (line moment : ℕ) (first : DeframerState) → ReadSoFar modulus line moment first first []
  read_nothing modulus line moment first = record { packets = []; waiting = refl; rest = refl; failed = refl; read = tt; fit = All-nil (IsFit line) }

  pub read_next : (modulus : Modulus) (line moment : ℕ) (first before now : DeframerState) (events after : List (Event A)) (packet : List ℕ) (event : Event A)
      → ReadSoFar modulus line moment first before events → Gives before (Some packet) now → after ≡ events ++ event ∷ []
      → event.line ≡ line → event.moment ≡ moment → IsReadAs modulus packet event.what → CanCome event.what → ReadSoFar modulus line moment first now after
  read_next modulus line moment first before now events after packet event so_far given pushed here then what readable =
      let more : ReadSoFar modulus line moment first now (events ++ event ∷ []) = record {
        packets = so_far.packets ++ packet ∷ [];
        waiting = so_far.waiting ∙ ap (λ rest. so_far.packets ++ rest) given.0
            ∙ sym (append_assoc so_far.packets (packet ∷ []) now.waiting);
        rest = given.1 ∙ so_far.rest;
        failed = given.2 ∙ so_far.failed;
        read = read_one_more modulus line moment so_far.packets events packet event so_far.read here then what;
        fit = All-append (IsFit line) events (event ∷ []) so_far.fit (one line event here readable);
      } in
      subst (ReadSoFar modulus line moment first now) (sym pushed) more
    where
      one : (line : ℕ) (event : Event A) → event.line ≡ line → CanCome event.what → All (IsFit line) (event ∷ [])
      one line event here readable = All-cons (IsFit line) event [] (here, readable) (All-nil (IsFit line))

  pub fit_more : (line : ℕ) (events after : List (Event A)) (event : Event A) → All (IsFit line) events → IsFit line event → after ≡ events ++ event ∷ [] → All (IsFit line) after
  fit_more line events after event each one pushed =
      subst (All (IsFit line)) (sym pushed) (All-append (IsFit line) events (event ∷ []) each (All-cons (IsFit line) event [] one (All-nil (IsFit line))))

  -- octets with a bad head behind their frames
  pub heard_bad : (modulus : Modulus) (line moment : ℕ) (old between : DeframerState) (octets : List ℕ) (events after : List (Event A)) (kept : List ℕ)
      → IsBetweenFrames old → TakesWhole old octets true between → AreRead modulus line moment between.waiting events
      → after ≡ events ++ record { line = line; moment = moment; what = Down } ∷ [] → kept ≡ [] → ReadsEvents modulus line moment old.rest octets after kept
  heard_bad modulus line moment old between octets events after kept idle took read pushed none = record {
    packets = took.0.packets;
    left = between.rest;
    stream = took.0.stream;
    frames = events;
    last = record { line = line; moment = moment; what = Down } ∷ [];
    events_are = pushed;
    each = subst (λ packets. AreRead modulus line moment packets events) (taken_waiting old between octets idle took.0) read;
    ends = (took.2, refl, none);
  }

  -- octets with none
  pub heard_good : (modulus : Modulus) (line moment : ℕ) (old between new : DeframerState) (octets : List ℕ) (events : List (Event A))
      → IsBetweenFrames old → TakesWhole old octets false between → AreRead modulus line moment between.waiting events → new ≡ emptied between
      → ReadsEvents modulus line moment old.rest octets events new.rest
  heard_good modulus line moment old between new octets events idle took read same = record {
    packets = took.0.packets;
    left = between.rest;
    stream = took.0.stream;
    frames = events;
    last = [];
    events_are = sym (append-nil events);
    each = subst (λ packets. AreRead modulus line moment packets events) (taken_waiting old between octets idle took.0) read;
    ends = (took.2, ap (λ held. held.rest) same);
  }

  -- the same of an answer
  pub heard_good_of : {X E : Type 0} (items : X → List (Event A)) (result : Result X E) (modulus : Modulus) (line moment : ℕ) (old between new : DeframerState) (octets : List ℕ)
      → IsBetweenFrames old → TakesWhole old octets false between → IfOk result (λ x. AreRead modulus line moment between.waiting (items x)) → OnOk result (new ≡ emptied between)
      → IfOk result (λ x. ReadsEvents modulus line moment old.rest octets (items x) new.rest)
  heard_good_of items (Ok x) modulus line moment old between new octets idle took read same = heard_good modulus line moment old between new octets (items x) idle took read same
  heard_good_of items (Err e) modulus line moment old between new octets idle took read same = tt
