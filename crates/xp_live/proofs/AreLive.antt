-- The calls that are taken as live from a view of an exchange are those that are connected.
use Rattle.std.proofs.Common.{◌≡◌, ◌∙◌, ℕ, zero, suc, ◌<◌, ◌≤◌, ◌⊎◌, inl, inr, Bool, true, false, cond, eqb, ltb, ◌&&◌, Option, None, Some, IsSome, is_some, List, [], ◌∷◌, ◌++◌, All, Contains, map, option_map, slice_get, ap, sym, subst, refl, arith}
use Rattle.std.proofs.lemmas.Bool.{and_from, and_parts, cases_lt, cond-true, eq-eqb, eqb-true, lt-ltb}
use Rattle.std.proofs.lemmas.List.{map-append}
use Rattle.std.proofs.lemmas.List.Elements.{All-append, All-cons, All-head, All-nil, All-tail, All-weaker, Contains-append_left, Contains-append_right, Contains-push}
use Rattle.xp_cdr.specs.declared.ended.EndedCall.{EndedCall}
use Rattle.xp_core.proofs.Sounds.{coupled_here}
use Rattle.xp_core.specs.View.{call_view}
use Rattle.xp_core.specs.declared.call_view.CallView.{CallView}
use Rattle.xp_live.specs.AreLive.{AreLiveCalls, Ascend, IsConnected, IsCutOff, cut_off}
use Rattle.xp_live.specs.LiveCalls.{is_live, live_call, live_call_at, live_calls, live_calls_of, partial_call}
use Rattle.xp_machine.proofs.InCall.{shown_on}
use Rattle.xp_machine.specs.Channel.{call_of}
use Rattle.xp_machine.specs.Coupling.{AreCoupled, IsAccepted, IsHeld, IsPut}
use Rattle.xp_machine.specs.World.{Call, World, call_on, numbered, state_at}
use Rattle.xp_machine.specs.declared.agreement.Agreement.{Agreement}
use Rattle.xp_step.specs.Run.{Run}
use Rattle.xp_step.specs.Worlds.{world_after}
use Rattle.xp_step.specs.declared.entry.Entry.{Entry}
use Rattle.xp_subs.specs.Tables.{Tables, line_count}
use Rattle.xp_view.specs.Views.{Shows}
use Rattle.xp_view.specs.declared.view.ExchangeView.{ExchangeView}
use Rattle.xp_view.specs.declared.view.LineWithCall.{LineWithCall}

-- lists that ascend

ascend_append : (lines more : List ℕ) → Ascend lines → Ascend more → All (λ line. All (λ other. line < other) more) lines → Ascend (lines ++ more)
ascend_append [] more first second below = second
ascend_append (line ∷ lines) more first second below =
    let Below : ℕ → Type 0 = λ line. All (λ other. line < other) more in
    (All-append (λ other. line < other) lines more first.0 (All-head Below line lines below), ascend_append lines more first.1 second (All-tail Below line lines below))

agreed_of : (agreed : Option Agreement) → is_some (option_map (λ agreement. agreement.connected) agreed) ≡ true → IsSome agreed
agreed_of None is = is
agreed_of (Some agreement) is = refl

connected_of_agreed : (agreed : Option Agreement) → IsSome agreed → is_some (option_map (λ agreement. agreement.connected) agreed) ≡ true
connected_of_agreed None is = is
connected_of_agreed (Some agreement) is = refl

none_is_not_agreed : (agreed : Option Agreement) → agreed ≡ None → IsSome agreed → ⊥
none_is_not_agreed None none is = absurd (cc)
none_is_not_agreed (Some agreement) none is = absurd (cc)

-- what `is_live` says of a line
live_here : (lines line : ℕ) (call : CallView) → is_live lines line call ≡ true → (is_some call.connected ≡ true) × (call.caller ≡ line)
live_here lines line call live =
    let here = is_some call.connected && eqb call.caller line in
    let called = and_parts (here && ltb call.caller lines) (ltb call.called lines) live in
    let caller = and_parts here (ltb call.caller lines) called.0 in
    let both = and_parts (is_some call.connected) (eqb call.caller line) caller.0 in
    (both.0, eqb-true call.caller line both.1)

module _ {A : Type 0} (names tables : Tables) (history : List (Entry A)) (moment : ℕ) (as_many : line_count names ≡ line_count tables) where
  abbrev world : World
  world = world_after tables history

  abbrev lines : ℕ
  lines = line_count names

  abbrev callers : List EndedCall → List ℕ
  callers calls = map (λ ended. ended.charging.caller) calls

  -- what is taken at a line that is in this call
  abbrev taken_by : ℕ × Call → Bool → List EndedCall
  taken_by found live = cond live (partial_call names moment (call_view tables history found) ∷ []) []

  each_by : (line : ℕ) (found : ℕ × Call) (live : Bool) → call_on world line ≡ Some found → is_live lines line (call_view tables history found) ≡ live
      → All (IsCutOff names tables history moment) (taken_by found live)
  each_by line found true on live =
      let here = live_here lines line (call_view tables history found) live in
      All-cons (IsCutOff names tables history moment) (partial_call names moment (call_view tables history found)) [] (record {
        number = found.0;
        call = found.1;
        connected = record { is_live = (shown_on world line found on).1; agreed = agreed_of found.1.agreed here.0 };
        is = refl;
      }) (All-nil (IsCutOff names tables history moment))
  each_by line found false on live = All-nil (IsCutOff names tables history moment)

  -- and its caller's line is this one
  own_by : (line : ℕ) (found : ℕ × Call) (live : Bool) → is_live lines line (call_view tables history found) ≡ live
      → All (λ caller. caller ≡ line) (callers (taken_by found live)) × Ascend (callers (taken_by found live))
  own_by line found true live =
      let Own : ℕ → Type 0 = λ caller. caller ≡ line in
      (All-cons Own found.1.caller [] (live_here lines line (call_view tables history found) live).1 (All-nil Own), (All-nil (λ other. found.1.caller < other), tt))
  own_by line found false live = (All-nil (λ caller. caller ≡ line), tt)

  abbrev taken_at : ℕ → Option (ℕ × Call) → List EndedCall
  taken_at line found = live_call names moment line (option_map (call_view tables history) found)

  each_at : (line : ℕ) (found : Option (ℕ × Call)) → call_on world line ≡ found → All (IsCutOff names tables history moment) (taken_at line found)
  each_at line None on = All-nil (IsCutOff names tables history moment)
  each_at line (Some found) on = each_by line found (is_live lines line (call_view tables history found)) on refl

  own_at : (line : ℕ) (found : Option (ℕ × Call)) → All (λ caller. caller ≡ line) (callers (taken_at line found)) × Ascend (callers (taken_at line found))
  own_at line None = (All-nil (λ caller. caller ≡ line), tt)
  own_at line (Some found) = own_by line found (is_live lines line (call_view tables history found)) refl

  module _ {B : Type 0} (view : ExchangeView B) (shows : Shows tables history view) where
    abbrev seen : List LineWithCall
    seen = view.lines.items

    -- what is taken at a line
    taken_is : (line : ℕ) → line < lines → live_call_at names moment line (slice_get seen line) ≡ taken_at line (call_on world line)
    taken_is line within = ap (live_call_at names moment line) (shows.each line (omega (arith, within, as_many)))

    each_of : (count : ℕ) → count ≤ lines → All (IsCutOff names tables history moment) (live_calls_of names moment seen count)
    each_of zero most = All-nil (IsCutOff names tables history moment)
    each_of (suc line) most =
        All-append (IsCutOff names tables history moment) (live_calls_of names moment seen line) (live_call_at names moment line (slice_get seen line)) (each_of line (omega (arith, most)))
        (subst (All (IsCutOff names tables history moment)) (sym (taken_is line (omega (arith, most)))) (each_at line (call_on world line) refl))

    -- the callers of those of the first lines are below
    below_of : (count : ℕ) → count ≤ lines → All (λ caller. caller < count) (callers (live_calls_of names moment seen count))
    below_of zero most = All-nil (λ caller. caller < zero)
    below_of (suc line) most =
        let within : line < lines = omega (arith, most) in
        let own = subst (λ calls. All (λ caller. caller ≡ line) (callers calls)) (sym (taken_is line within)) (own_at line (call_on world line)).0 in
        subst (All (λ caller. caller < suc line)) (sym (map-append (λ ended. ended.charging.caller) (live_calls_of names moment seen line) (live_call_at names moment line (slice_get seen line))))
        (All-append (λ caller. caller < suc line) (callers (live_calls_of names moment seen line)) (callers (live_call_at names moment line (slice_get seen line)))
        (All-weaker (λ caller. caller < line) (λ caller. caller < suc line) (λ caller below. omega (arith, below)) (callers (live_calls_of names moment seen line)) (below_of line (omega (arith, most))))
        (All-weaker (λ caller. caller ≡ line) (λ caller. caller < suc line) (λ caller is. omega (arith, is)) (callers (live_call_at names moment line (slice_get seen line))) own))

    once_of : (count : ℕ) → count ≤ lines → Ascend (callers (live_calls_of names moment seen count))
    once_of zero most = tt
    once_of (suc line) most =
        let within : line < lines = omega (arith, most) in
        let own = subst (λ calls. All (λ caller. caller ≡ line) (callers calls) × Ascend (callers calls)) (sym (taken_is line within)) (own_at line (call_on world line)) in
        subst Ascend (sym (map-append (λ ended. ended.charging.caller) (live_calls_of names moment seen line) (live_call_at names moment line (slice_get seen line))))
        (ascend_append (callers (live_calls_of names moment seen line)) (callers (live_call_at names moment line (slice_get seen line))) (once_of line (omega (arith, most))) own.1
        (All-weaker (λ caller. caller < line) (λ caller. All (λ other. caller < other) (callers (live_call_at names moment line (slice_get seen line))))
        (λ caller below. All-weaker (λ other. other ≡ line) (λ other. caller < other) (λ other is. omega (arith, below, is)) (callers (live_call_at names moment line (slice_get seen line))) own.0)
        (callers (live_calls_of names moment seen line)) (below_of line (omega (arith, most)))))

    contains_of : (count line : ℕ) (ended : EndedCall) → line < count → count ≤ lines → Contains (taken_at line (call_on world line)) ended
        → Contains (live_calls_of names moment seen count) ended
    contains_of zero line ended below most there = absurd (omega (arith, below))
    contains_of (suc last) line ended below most there = elim (cases_lt line last) [
      | inl before ↦ Contains-append_left _ _ ended (contains_of last line ended before (omega (arith, most)) there)
      | inr here ↦
          let same : last ≡ line = omega (arith, below, here) in
          Contains-append_right _ _ ended
          (subst (λ calls. Contains calls ended) (sym (taken_is last (omega (arith, most))))
          (subst (λ at. Contains (taken_at at (call_on world at)) ended) (sym same) there))
    ]

    module _ (coupled : AreCoupled tables world) (number : ℕ) (call : Call) (connected : IsConnected tables history number call) where
      held : IsHeld tables world number call
      held = coupled.held number call connected.is_live

      shown_by : IsPut world number call ⊎ IsAccepted world number call → call_of (state_at world call.caller) ≡ Some number
      shown_by (inl put) = absurd (none_is_not_agreed call.agreed put.2 connected.agreed)
      shown_by (inr accepted) = ap call_of accepted.0

      on_caller : call_on world call.caller ≡ Some (number, call)
      on_caller = ap (numbered world) (shown_by held.stage) ∙ ap (option_map (λ one. (number, one))) connected.is_live

      is_taken : taken_at call.caller (call_on world call.caller) ≡ cut_off names tables history moment number call ∷ []
      is_taken =
          ap (taken_at call.caller) on_caller
          ∙ cond-true (is_live lines call.caller (call_view tables history (number, call))) _ _
          (and_from _ (ltb call.called lines)
          (and_from _ (ltb call.caller lines)
          (and_from _ (eqb call.caller call.caller) (connected_of_agreed call.agreed connected.agreed) (eq-eqb call.caller call.caller refl))
          (lt-ltb call.caller lines (omega (arith, held.caller, as_many))))
          (lt-ltb call.called lines (omega (arith, held.called, as_many))))

      pub in_all : Contains (live_calls_of names moment seen lines) (cut_off names tables history moment number call)
      in_all =
          contains_of lines call.caller (cut_off names tables history moment number call) (omega (arith, held.caller, as_many)) (omega arith)
          (subst (λ calls. Contains calls (cut_off names tables history moment number call)) (sym is_taken) (Contains-push [] (cut_off names tables history moment number call)))

    pub are_live : Run tables history world → AreLiveCalls names tables history moment (live_calls names moment seen)
    are_live run =
        let coupled = coupled_here tables history world world run refl in
        subst (λ count. AreLiveCalls names tables history moment (live_calls_of names moment seen count)) (as_many ∙ sym shows.count)
        (record {
          each = each_of lines (omega arith);
          all = λ number call connected. in_all coupled number call connected;
          once = once_of lines (omega arith);
        })
