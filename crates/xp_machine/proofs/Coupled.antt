-- Each change keeps lines and live calls coupled.
use Rattle.std.proofs.Common.{rules, ◌≡◌, ◌≢◌, ℕ, ◌+◌, ◌<◌, Some, None, List, length, set, refl, ap, sym, subst, ◌∙◌, inl, inr, arith}
use Rattle.std.proofs.lemmas.Bool.{cases_eq, cond_both}
use Rattle.std.specs.FinMap.{insert, remove}
use Rattle.xp_answer.specs.declared.setup.Setup.{Setup}
use Rattle.xp_subs.specs.Tables.{Tables, line_count}
use Rattle.xp_machine.specs.declared.agreement.Agreement.{Agreement}
use Rattle.xp_machine.specs.Changes.{Change, Rises, Leaves, Begins, IsRefused, Connects, Ends, NoCallState, GoesOut, IsFree, IsCleared, changed, state_after}
use Rattle.xp_machine.specs.Channel.{State, Waiting, Ringing, Talking, INITIAL_IDENTIFIER, call_of}
use Rattle.xp_machine.specs.Coupling.{AreCoupled, IsEnd, IsHeld}
use Rattle.xp_machine.specs.World.{Call, Line, World, call_numbered, far_end, line_at, state_at}
use Rattle.xp_machine.proofs.InCall.{called_shows, caller_shows, end_of, held_still, pair, same_number, shows_none}
use Rattle.xp_machine.proofs.Lines.{it, another, once, Twice, late, early, never, twice}
use Rattle.xp_machine.proofs.Maps.{get_left, get_new, get_other, new_or_old, was_there}

-- a line that exists and is in no call
pub record IsOut (world : World) (line : ℕ) : Type 0 where
  pub within : line < length world.lines
  pub none : call_of (state_at world line) ≡ None

-- two lines in no call
pub record AreTwo (world : World) (line other : ℕ) : Type 0 where
  pub one : IsOut world line
  pub second : IsOut world other
  pub differ : line ≢ other

-- an end of a live call
pub record IsIn (world : World) (number : ℕ) (call : Call) (line : ℕ) : Type 0 where
  pub live : call_numbered world number ≡ Some call
  pub shows : call_of (state_at world line) ≡ Some number
  pub end : IsEnd call line

-- the conditions of a change
abbrev pub CanBe : World → Change → Type 0
CanBe world (Rises line) = IsOut world line
CanBe world (Leaves line way) = IsOut world line
CanBe world (Begins line identifier called dialled setup requested) = AreTwo world line called
CanBe world (IsRefused line identifier dialled why) = IsOut world line
CanBe world (Connects number call agreement) = call_numbered world number ≡ Some call
CanBe world (Ends number call line way cause diagnostic) = IsIn world number call line

-- as the calls of these numbers end, a line stays in its call, which goes on, or it is in none, and its call was one of
-- these
data Stays (ends : ℕ → Type 0) (old new : State) : Type 0 where
  on : new ≡ old → ((number : ℕ) → call_of old ≡ Some number → ends number → ⊥) → Stays ends old new
  out : call_of new ≡ None → ((number : ℕ) → call_of old ≡ Some number → ends number) → Stays ends old new

record HaveEnded (ends : ℕ → Type 0) (world next : World) : Type 0 where
  left : (number : ℕ) (call : Call) → call_numbered next number ≡ Some call → (call_numbered world number ≡ Some call) × (ends number → ⊥)
  found : (number : ℕ) → (ends number → ⊥) → call_numbered next number ≡ call_numbered world number
  lines : (line : ℕ) → Stays ends (state_at world line) (state_at next line)

ended_coupled : (tables : Tables) (ends : ℕ → Type 0) (world next : World) → AreCoupled tables world → HaveEnded ends world next → AreCoupled tables next
ended_coupled tables ends world next coupled have = record {
  held = λ number call is.
      let left : (call_numbered world number ≡ Some call) × (ends number → ⊥) = have.left number call is in
      held_still tables world number call (coupled.held number call left.0) next (λ line shows. elim (have.lines line) [
        | on same goes ↦ same
        | out none gone ↦ absurd (left.1 (gone number shows))
      ]);
  shown = λ line number shows. elim (have.lines line) [
    | on same goes ↦
        let showed : call_of (state_at world line) ≡ Some number = ap call_of (sym same) ∙ shows in
        let found = coupled.shown line number showed in
        (found.0, have.found number (goes number showed) ∙ found.1, found.2)
    | out none gone ↦ absurd (cc)
  ];
}

module _ (tables : Tables) (world : World) (coupled : AreCoupled tables world) (lines : length world.lines ≡ line_count tables) where
  -- a line in no call comes to another state of no call
  quiet_coupled : (at : ℕ) (becomes : Line) (next : ℕ) → IsOut world at → call_of becomes.state ≡ None
      → AreCoupled tables (record { lines = set world.lines at becomes; calls = world.calls; next = next })
  quiet_coupled at becomes next old new =
      ended_coupled tables (λ number. ⊥) world (record { lines = set world.lines at becomes; calls = world.calls; next = next }) coupled (record {
        left = λ number call live. (live, λ none. none);
        found = λ number goes. refl;
        lines = λ line. elim (once world.lines at becomes line old.within) [
          | it is now ↦ out (ap (λ l. call_of l.state) now ∙ new) (λ number shows. shows_none world line at number is shows old.none)
          | another other now ↦ on (ap (λ l. l.state) now) (λ number shows none. none)
        ];
      })

  left_out : (way : NoCallState) → call_of (state_after way) ≡ None
  left_out GoesOut = refl
  left_out IsFree = refl
  left_out IsCleared = refl

  -- a call ends
  module _ (number : ℕ) (call : Call) (line : ℕ) (in_it : IsIn world number call line) where
    held : IsHeld tables world number call
    held = coupled.held number call in_it.live

    pub line_within : line < length world.lines
    line_within = grind (arith, held)

    pub far_within : far_end call line < length world.lines
    far_within = grind (arith, cond_both, held)

    pub far_shows : call_of (state_at world (far_end call line)) ≡ Some number
    far_shows = grind (arith, called_shows, caller_shows, cond_both, held)

    closed_coupled : (cleared becomes : Line) → call_of cleared.state ≡ None → call_of becomes.state ≡ None
        → AreCoupled tables (record { lines = set (set world.lines (far_end call line) cleared) line becomes; calls = remove world.calls number; next = world.next })
    closed_coupled cleared becomes far_new new =
        ended_coupled tables (λ n. n ≡ number) world _ coupled (record {
          left = λ n c is. let was = was_there world.calls number n c is in (was.1, was.0);
          found = λ n other. get_left world.calls number n other;
          lines = λ l. elim (twice world.lines (far_end call line) cleared line becomes l far_within line_within) [
            | late is now ↦ out (ap (λ k. call_of k.state) now ∙ new) (λ n shows. sym (same_number world l line number n is shows in_it.shows))
            | early is now ↦ out (ap (λ k. call_of k.state) now ∙ far_new) (λ n shows. sym (same_number world l (far_end call line) number n is shows far_shows))
            | never not_far not_near now ↦ on (ap (λ k. k.state) now) (λ n shows same.
                elim (pair call line l held.two in_it.end (end_of tables world coupled l number call (shows ∙ ap (λ m. Some m) same) in_it.live)) [
                  | inl near ↦ not_near near
                  | inr far ↦ not_far far
                ])
          ];
        })

  -- a call between two lines in no call begins
  module _ (caller called identifier : ℕ) (dialled : List ℕ) (setup : Setup) (requested : ℕ) (two : AreTwo world caller called) (fresh : call_numbered world world.next ≡ None) where
    abbrev call : Call
    call = record { caller = caller; called = called; dialled = dialled; setup = setup; requested = requested; agreed = None }

    abbrev waits : Line
    waits = record (line_at world caller) { state = Waiting world.next; identifier = identifier }

    abbrev rings : Line
    rings = record (line_at world called) { state = Ringing world.next; identifier = INITIAL_IDENTIFIER }

    abbrev put : World
    put = record { lines = set (set world.lines caller waits) called rings; calls = insert world.calls world.next call; next = world.next + 1 }

    change : (line : ℕ) → Twice world.lines caller waits called rings line
    change line = twice world.lines caller waits called rings line two.one.within two.second.within

    -- the calls that there were go on
    goes_on : (number : ℕ) (other : Call) → IsHeld tables world number other → IsHeld tables put number other
    goes_on number other was = grind (arith, change, held_still, shows_none)

    call_held : IsHeld tables put world.next call
    call_held = grind (arith, change)

    call_found : (number : ℕ) → Some world.next ≡ Some number → call_numbered put number ≡ Some call
    call_found number is = grind (arith, get_new)

    put_coupled : AreCoupled tables put
    put_coupled = record {
      held = λ number other is. elim (new_or_old world.calls world.next call number other is) [
        | inl new ↦
            let P : ℕ → Type 0 = λ n. IsHeld tables put n other in
            let Q : Call → Type 0 = λ c. IsHeld tables put world.next c in
            subst P (sym new.0) (subst Q new.1 call_held)
        | inr old ↦ goes_on number other (coupled.held number other old.1)
      ];
      shown = λ line number shows. elim (change line) [
        | late is now ↦ (call, call_found number (sym (ap (λ k. call_of k.state) now) ∙ shows), inr is)
        | early is now ↦ (call, call_found number (sym (ap (λ k. call_of k.state) now) ∙ shows), inl is)
        | never not_caller not_called now ↦
            let found = coupled.shown line number (sym (ap (λ k. call_of k.state) now) ∙ shows) in
            let other : number ≢ world.next = λ same.
            let P : ℕ → Type 0 = λ n. call_numbered world n ≡ Some found.0 in
            let here : call_numbered world world.next ≡ Some found.0 = subst P same found.1 in absurd (cc) in
            (found.0, get_other world.calls world.next call number other ∙ found.1, found.2)
      ];
    }

  -- a call is accepted: both its lines come to data transfer
  module _ (number : ℕ) (call : Call) (agreement : Agreement) (live : call_numbered world number ≡ Some call) where
    abbrev talking : ℕ → Line
    talking line = record (line_at world line) { state = Talking number }

    abbrev agreed : Call
    agreed = record call { agreed = Some agreement }

    abbrev accepted : World
    accepted = record world {
      lines = set (set world.lines call.called (talking call.called)) call.caller (talking call.caller);
      calls = insert world.calls number agreed;
    }

    was : IsHeld tables world number call
    was = coupled.held number call live

    accepts : (line : ℕ) → Twice world.lines call.called (talking call.called) call.caller (talking call.caller) line
    accepts line = grind (arith, twice, was)

    -- each line shows the call that it showed
    showed : (line n : ℕ) → call_of (state_at accepted line) ≡ Some n → call_of (state_at world line) ≡ Some n
    showed line n shows = grind (arith, accepts, called_shows, caller_shows, was)

    talks : (line : ℕ) → call_of (state_at world line) ≡ Some number → state_at accepted line ≡ Talking number
    talks line shows = grind (arith, accepts, end_of)

    agreed_held : IsHeld tables accepted number agreed
    agreed_held = grind (arith, called_shows, caller_shows, talks, was)

    -- the lines of a call of another number stay as they were
    holds : (n : ℕ) (other : Call) → n ≢ number → IsHeld tables world n other → IsHeld tables accepted n other
    holds n other differs old = grind (arith, accepts, called_shows, caller_shows, held_still, same_number, was)

    accepted_coupled : AreCoupled tables accepted
    accepted_coupled = record {
      held = λ n other is. elim (new_or_old world.calls number agreed n other is) [
        | inl new ↦
            let P : ℕ → Type 0 = λ m. IsHeld tables accepted m other in
            let Q : Call → Type 0 = λ c. IsHeld tables accepted number c in
            subst P (sym new.0) (subst Q new.1 agreed_held)
        | inr old ↦ holds n other old.0 (coupled.held n other old.1)
      ];
      shown = λ line n shows.
          let found = coupled.shown line n (showed line n shows) in
          elim (cases_eq n number) [
            | inl same ↦
                let there : call_numbered world n ≡ Some found.0 = found.1 in
                let here : call_numbered world n ≡ Some call = ap (call_numbered world) same ∙ live in
                let P : ℕ → Type 0 = λ m. call_numbered accepted m ≡ Some agreed in
                let E : Call → Type 0 = λ c. IsEnd c line in
                let is : found.0 ≡ call = cc in
                (agreed, subst P (sym same) (get_new world.calls number agreed), subst E is found.2)
            | inr other ↦ (found.0, get_other world.calls number agreed n other ∙ found.1, found.2)
          ];
    }

pub changed_coupled : (tables : Tables) (world : World) (change : Change) → AreCoupled tables world → length world.lines ≡ line_count tables
    → call_numbered world world.next ≡ None → CanBe world change → AreCoupled tables (changed change world)
changed_coupled tables world (Rises line) coupled lines fresh can = quiet_coupled tables world coupled lines line _ world.next can refl
changed_coupled tables world (Leaves line way) coupled lines fresh can = grind (arith, left_out, quiet_coupled)
changed_coupled tables world (Begins line identifier called dialled setup requested) coupled lines fresh can = search (rules, put_coupled)
changed_coupled tables world (IsRefused line identifier dialled why) coupled lines fresh can = grind (arith, quiet_coupled)
changed_coupled tables world (Connects number call agreement) coupled lines fresh can = search (rules, accepted_coupled)
changed_coupled tables world (Ends number call line way cause diagnostic) coupled lines fresh can = grind (arith, closed_coupled, left_out)
