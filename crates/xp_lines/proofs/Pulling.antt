-- What becomes of octets that are pulled, before and behind a pull.
use Rattle.std.proofs.Common.{◌≡◌, ◌⊎◌, ℕ, List, [], ◌∷◌, ◌++◌, refl, sym, ap, ◌∙◌, append-nil, subst, Option, None, Some, Bool, true, false, inl, inr, Ok, Err}
use Rattle.xp_packets.specs.declared.modulus.Modulus.{Modulus}
use Rattle.xp_frames.specs.declared.fault.FrameFault.{FrameFault}
use Rattle.xp_frames.specs.declared.fault.FrameFault.TheVariants as faults
use Rattle.xp_frames.specs.Deframer.{Feeds, DeframerState, Takes}
use Rattle.xp_frames.specs.Frame.{HasNoBadHeader}
use Rattle.xp_step.specs.declared.event.What.{What}
use Rattle.xp_lines.specs.FrameEvents.{AreReadAs}
use Rattle.xp_lines.specs.Offers.{Offers}
use Rattle.xp_lines.specs.Reads.{Completes, Reads, keeps, stays}
use Rattle.xp_lines.specs.steps.Reads.{Pulls, over_fed}
use Rattle.xp_lines.specs.declared.over.Over.{Over}
use Rattle.xp_lines.specs.declared.over.Over.TheVariants as overs

pub completes_nothing : (rest : List ℕ) → Completes rest [] [] rest
completes_nothing rest = record { whole = append-nil rest; each = tt; partial = λ none. none }

-- no octets came
pub pulls_nothing : (held : DeframerState) (over : Option Over) → Pulls held [] over held
pulls_nothing held over = record {
  fed = [];
  lost = [];
  pulled_are = refl;
  none_lost = λ _. refl;
  lost_behind = λ _. inl refl;
  packets = [];
  completes = completes_nothing held.rest;
  waiting = sym (append-nil held.waiting);
  sound = λ _ none. none;
}

pulls_taken : (old : DeframerState) (piece : List ℕ) (over : Option Over) (new : DeframerState) → Takes old piece new → (stays over ≡ true → HasNoBadHeader new.rest) → Pulls old piece over new
pulls_taken old piece over new takes sound = record {
  fed = piece;
  lost = [];
  pulled_are = sym (append-nil piece);
  none_lost = λ _. refl;
  lost_behind = λ _. inl refl;
  packets = takes.packets;
  completes = record { whole = takes.stream.whole; each = takes.stream.each; partial = λ _. takes.stream.partial };
  waiting = takes.waiting;
  sound = λ is _. sound is;
}

pub pulls_came : (old : DeframerState) (piece : List ℕ) (new : DeframerState) → Feeds old piece (Ok tt) new → Pulls old piece None new
pulls_came old piece new feeds = pulls_taken old piece None new feeds.2 (λ _. feeds.3)

-- octets that came are lost, for want of memory or behind a bad header
pulls_lost : (old : DeframerState) (piece : List ℕ) (over : Over) (new : DeframerState) → new ≡ old → (keeps (Some over) ≡ true → old.failed ≡ true) → Pulls old piece (Some over) new
pulls_lost old piece over new same behind = subst (Pulls old piece (Some over)) (sym same) (record {
  fed = [];
  lost = piece;
  pulled_are = refl;
  none_lost = λ is. absurd (let never : false ≡ true = is in cc);
  lost_behind = λ is. inr (behind is);
  packets = [];
  completes = completes_nothing old.rest;
  waiting = sym (append-nil old.waiting);
  sound = λ is. absurd (let never : false ≡ true = is in cc);
})

pub pulls_fed : (old : DeframerState) (piece : List ℕ) (fault : FrameFault) (new : DeframerState) → Feeds old piece (Err fault) new → Pulls old piece (Some (over_fed fault)) new
pulls_fed old piece (faults.Version v) new feeds = pulls_taken old piece (Some overs.Link) new feeds.2 (λ is. absurd (let never : false ≡ true = is in cc))
pulls_fed old piece (faults.Length n) new feeds = pulls_taken old piece (Some overs.Link) new feeds.2 (λ is. absurd (let never : false ≡ true = is in cc))
pulls_fed old piece faults.Failed new feeds = pulls_lost old piece overs.Link new feeds.1 (λ _. feeds.0)
pulls_fed old piece faults.Memory new feeds = pulls_lost old piece overs.Memory new feeds.1 (λ is. absurd (let never : false ≡ true = is in cc))

-- where the link stays, nothing that came is lost
pub stays_keeps : (over : Option Over) → stays over ≡ true → keeps over ≡ true
stays_keeps None is = refl
stays_keeps (Some over) is = absurd (let never : false ≡ true = is in cc)

-- where something that came may be lost, the link does not stay
pub lost_leaves : (over : Option Over) → keeps over ≡ false → stays over ≡ false
lost_leaves None is = absurd (let never : true ≡ false = is in cc)
lost_leaves (Some over) is = refl

-- the exchange refused an event
pub ends_refused : (over : Over) → (Some over ≡ None) ⊎ (keeps (Some over) ≡ false) → keeps (Some over) ≡ false
ends_refused over (inl none) = absurd (let never : Some over ≡ None = none in cc)
ends_refused over (inr loses) = loses

module _ {A : Type 0} where
  pub read_both : (modulus : Modulus) (packets others : List (List ℕ)) (read more : List (What A)) → AreReadAs modulus packets read → AreReadAs modulus others more → AreReadAs modulus (packets ++ others) (read ++ more)
  read_both modulus [] others [] more a b = b
  read_both modulus [] others (one ∷ read) more a b = elim a [ ]
  read_both modulus (first ∷ packets) others [] more a b = elim a [ ]
  read_both modulus (first ∷ packets) others (one ∷ read) more a b = (a.0, read_both modulus packets others read more a.1 b)

  -- less is said of what was offered
  pub offers_less : (modulus : Modulus) (frames : List (List ℕ)) (whats : List (What A)) (on other : Bool) (left : List (List ℕ)) → Offers modulus frames whats on left → (other ≡ true → on ≡ true) → Offers modulus frames whats other left
  offers_less modulus frames whats on other left offers less = record {
    packets = offers.packets;
    unread = offers.unread;
    frames_are = offers.frames_are;
    read = offers.read;
    read_as = offers.read_as;
    unoffered = offers.unoffered;
    in_order = offers.in_order;
    kept = λ is. offers.kept (less is);
  }

  -- A piece was pulled, and what waited and what it completed was offered. The result is that of the offering where it stopped, else
  -- that of the pull.
  pub reads_by : (modulus : Modulus) (old : DeframerState) (pulled : List ℕ) (pull offering over : Option Over) (between new : DeframerState) (whats : List (What A))
      → Pulls old pulled pull between → Offers modulus between.waiting whats (stays offering) new.waiting → new.rest ≡ between.rest
      → (keeps over ≡ true → (over ≡ pull) × (stays offering ≡ true)) → Reads modulus old pulled whats over new
  reads_by modulus old pulled pull offering over between new whats pulls offers rest is = record {
    fed = pulls.fed;
    lost = pulls.lost;
    pulled_are = pulls.pulled_are;
    none_lost = λ on. pulls.none_lost (sym (ap stays (is (stays_keeps over on)).0) ∙ on);
    lost_behind = λ on. pulls.lost_behind (sym (ap keeps (is on).0) ∙ on);
    packets = pulls.packets;
    completes = subst (Completes old.rest pulls.fed pulls.packets) (sym rest) pulls.completes;
    sound = λ on none. subst HasNoBadHeader (sym rest) (pulls.sound (sym (ap stays (is (stays_keeps over on)).0) ∙ on) none);
    offers =
        offers_less modulus (old.waiting ++ pulls.packets) whats (stays offering) (keeps over) new.waiting
        (subst (λ frames. Offers modulus frames whats (stays offering) new.waiting) pulls.waiting offers) (λ on. (is on).1);
  }
