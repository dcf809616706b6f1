-- What the machine keeps, as it changes.
use Rattle.std.proofs.Common.{arith, ◌≡◌, ◌≢◌, ℕ, zero, suc, ◌+◌, ◌<◌, ◌^◌, eqb, Option, Some, None, List, [], ◌∷◌, map, option_map, get_or, set, refl, ap, sym, subst, ◌∙◌, ◌⊎◌, inl, inr, get_or-set_other}
use Rattle.std.specs.Prelude.{replicate, slice_set}
use Rattle.std.proofs.lemmas.Bool.{cases_eq, cases_lt, cond-false, cond-true, eq-eqb, ne_eqb}
use Rattle.std.proofs.lemmas.Grind.{get_or-set_at}
use Rattle.std.proofs.lemmas.List.{get_or_past, get_or-replicate, length-replicate, map-set, set_past}
use Rattle.std.specs.FinMap.{insert}
use Rattle.std.specs.FinMap as finite
use Rattle.slab.specs.Slab.{Slab, Updates, get}
use Rattle.xp_machine.specs.declared.call.CallKey.{CallKey}
use Rattle.xp_machine.specs.declared.call.LiveCall.{LiveCall}
use Rattle.xp_machine.specs.declared.change.Change.TheVariants as changes
use Rattle.xp_machine.specs.declared.channel.ChannelState.{ChannelState}
use Rattle.xp_machine.specs.declared.channel.ChannelState.TheVariants as kept
use Rattle.xp_machine.specs.declared.channel.LogicalChannel.{LogicalChannel}
use Rattle.xp_machine.specs.declared.agreement.Agreement.{Agreement}
use Rattle.xp_machine.specs.Changes.{NoCallState, IsFree, state_after}
use Rattle.xp_machine.specs.Channel.{State, Ringing, Talking, Waiting, Cleared, INITIAL_IDENTIFIER, call_of}
use Rattle.xp_machine.specs.Coupling.{IsEnd}
use Rattle.xp_machine.specs.steps.StoredState.{AreKeyed, IsAccepted, IsEnded, IsKeptUnder, channel_at, lines_left, lines_put, off_channel, risen, turned_down}
use Rattle.xp_machine.specs.StoredState.{call_of_stored, calls_of, entry_of, key_of, line_of, state_of, stored_world}
use Rattle.xp_machine.specs.AppliedChange.{applied, connected, freed_if_any, left}
use Rattle.xp_machine.specs.World.{Call, World, call_numbered, call_on, far_end, line_at, moved, moved_as, numbered, off_line, opening, state_at}
use Rattle.xp_machine.proofs.Keyed.{added, added_one_each, changed, changed_one_each, found, removed, removed_one_each}
use Rattle.xp_machine.proofs.Lines.{get_or-set}
use Rattle.xp_machine.proofs.Maps.{get_gone, get_left}

map-replicate : {X Y : Type 0} (f : X → Y) (x : X) (count : ℕ) → map f (replicate count x) ≡ replicate count (f x)
map-replicate f x zero = refl
map-replicate f x (suc count) = ap (λ ys. f x ∷ ys) (map-replicate f x count)

map_at : {X Y : Type 0} (f : X → Y) (xs : List X) (n : ℕ) (d : X) → get_or (map f xs) n (f d) ≡ f (get_or xs n d)
map_at f [] n d = refl
map_at f (x ∷ xs) zero d = refl
map_at f (x ∷ xs) (suc n) d = map_at f xs n d

-- after an item is set, a fact holds at each place if it holds of the new item, of the default and of each other item
-- before
set_over : {X : Type 0} (P : X → Type 0) (items : List X) (at : ℕ) (item : X) (q : ℕ) (d : X) → (q ≡ at → P item) → P d → (q ≢ at → P (get_or items q d))
    → P (get_or (set items at item) q d)
set_over P items at item q d new none old = grind (arith, cases_eq, cases_lt, get_or-set_at, get_or-set_other, get_or_past, set_past)

-- the two lines of a call
ends : (call : Call) (line other : ℕ) → IsEnd call line → IsEnd call other → (other ≡ line) ⊎ (other ≡ far_end call line)
ends call line other (inl caller) (inl is) = inl (is ∙ sym caller)
ends call line other (inl caller) (inr is) = inr (is ∙ sym (cond-true (eqb call.caller line) call.called call.caller (eq-eqb call.caller line (sym caller))))
ends call line other (inr called) (inr is) = inl (is ∙ sym called)
ends call line other (inr called) (inl is) = grind (arith, cases_eq, cond-false, ne_eqb)

number_of : (state : ChannelState) → call_of (state_of state) ≡ option_map (λ call. call.number) (key_of state)
number_of kept.Off = refl
number_of kept.Ready = refl
number_of (kept.Waiting call) = refl
number_of (kept.Ringing call) = refl
number_of (kept.Talking call) = refl
number_of kept.Cleared = refl

pub line_kept : (lines : List LogicalChannel) (line : ℕ) → get_or (map line_of lines) line off_line ≡ line_of (channel_at lines line)
line_kept lines line = map_at line_of lines line off_channel

-- a line shows the number that stands beside its call's key
number_kept : (lines : List LogicalChannel) (calls : Slab LiveCall) (next line : ℕ)
    → call_of (state_at (stored_world lines calls next) line) ≡ option_map (λ call. call.number) (key_of (channel_at lines line).state)
number_kept lines calls next line = ap (λ l. call_of l.state) (line_kept lines line) ∙ number_of (channel_at lines line).state

-- a line without a key is in no call
none_kept : (lines : List LogicalChannel) (calls : Slab LiveCall) (next line : ℕ) → key_of (channel_at lines line).state ≡ None
    → call_on (stored_world lines calls next) line ≡ None
none_kept lines calls next line none =
    ap (numbered (stored_world lines calls next)) (number_kept lines calls next line ∙ ap (option_map (λ call. call.number)) none)

-- the call under the key that a line has is the call that the line is in
pub found_kept : (lines : List LogicalChannel) (calls : Slab LiveCall) (next line : ℕ) (shown : CallKey)
    → AreKeyed lines calls → key_of (channel_at lines line).state ≡ Some shown
    → option_map entry_of (get calls shown.key) ≡ call_on (stored_world lines calls next) line
found_kept lines calls next line shown keyed key =
    let P : Option CallKey → Type 0 = λ k. IsKeptUnder calls line k in
    let it = subst P key (keyed.keys line) in
    let w : World = stored_world lines calls next in
    let number : call_of (state_at w line) ≡ Some it.0.number =
    number_kept lines calls next line ∙ ap (option_map (λ call. call.number)) key ∙ ap (λ n. Some n) (sym it.2) in
    ap (option_map entry_of) it.1
    ∙ sym (ap (option_map (λ call. (it.0.number, call))) (found entry_of calls shown.key it.0 keyed.one_each it.1))
    ∙ sym (ap (numbered w) number)

-- where a line has a key, its call is there
pub there_kept : (lines : List LogicalChannel) (calls : Slab LiveCall) (line : ℕ) (shown : CallKey)
    → AreKeyed lines calls → key_of (channel_at lines line).state ≡ Some shown → IsKeptUnder calls line (Some shown)
there_kept lines calls line shown keyed key = let P : Option CallKey → Type 0 = λ k. IsKeptUnder calls line k in subst P key (keyed.keys line)

pub new_kept : (lines : List LogicalChannel) (calls : Slab LiveCall) (count : ℕ) → lines ≡ replicate count off_channel → calls.slots ≡ []
    → stored_world lines calls 1 ≡ opening count
new_kept lines calls count all none = grind (arith, map-replicate)

pub new_keyed : (lines : List LogicalChannel) (calls : Slab LiveCall) (count : ℕ) → lines ≡ replicate count off_channel → calls.slots ≡ [] → AreKeyed lines calls
new_keyed lines calls count all none = grind (arith, cases_lt, get_or-replicate, get_or_past, length-replicate)

-- no key
kept_none : (calls : Slab LiveCall) (line : ℕ) (key : Option CallKey) → key ≡ None → IsKeptUnder calls line key
kept_none calls line key none = let P : Option CallKey → Type 0 = λ k. IsKeptUnder calls line k in subst P (sym none) tt

-- what is kept under a key stays there
carried : (calls after : Slab LiveCall) (line : ℕ) (key : Option CallKey)
    → ((its : CallKey) (call : LiveCall) → get calls its.key ≡ Some call → IsEnd (call_of_stored call) line → get after its.key ≡ Some call)
    → IsKeptUnder calls line key → IsKeptUnder after line key
carried calls after line None stays it = tt
carried calls after line (Some its) stays it = (it.0, stays its it.0 it.1 it.3, it.2, it.3)

-- a line comes to a state of no call
pub out_keyed : (lines : List LogicalChannel) (calls : Slab LiveCall) (line : ℕ) (becomes : LogicalChannel) → AreKeyed lines calls
    → key_of becomes.state ≡ None → AreKeyed (set lines line becomes) calls
out_keyed lines calls line becomes keyed none = record {
  keys = λ l. get_or-set (λ channel. IsKeptUnder calls l (key_of channel.state)) lines line becomes l off_channel (kept_none calls l (key_of becomes.state) none) (keyed.keys l);
  one_each = keyed.one_each;
}

module _ (lines : List LogicalChannel) (calls : Slab LiveCall) (next : ℕ) where
  abbrev here : World
  here = stored_world lines calls next

  pub set_kept : (line : ℕ) (becomes : LogicalChannel) → stored_world (set lines line becomes) calls next ≡ record here { lines = slice_set here.lines line (line_of becomes) }
  set_kept line becomes = ap (λ ls. record here { lines = ls }) (map-set line_of lines line becomes)

  pub risen_kept : (line : ℕ) → stored_world (set lines line (risen (channel_at lines line))) calls next ≡ applied (changes.Rise line) here
  risen_kept line = grind (arith, line_kept, set_kept)

  pub moved_as_kept : (line identifier : ℕ) (state : ChannelState) (others : List LogicalChannel)
      → map line_of (set others line (record (channel_at lines line) { state = state; identifier = identifier })) ≡ moved_as here line identifier (state_of state) (map line_of others)
  moved_as_kept line identifier state others = grind (arith, line_kept, map-set)

  pub refused_kept : (line identifier : ℕ) → stored_world (set lines line (turned_down (channel_at lines line) identifier)) calls (next + 1) ≡ applied (changes.Refuse line identifier) here
  refused_kept line identifier = ap (λ ls. record here { lines = ls; next = next + 1 }) (moved_as_kept line identifier kept.Cleared lines)

  moved_kept : (line : ℕ) (state : ChannelState) (others : List LogicalChannel)
      → map line_of (set others line (record (channel_at lines line) { state = state })) ≡ moved here line (state_of state) (map line_of others)
  moved_kept line state others = grind (arith, line_kept, map-set)

  pub free_kept : (line : ℕ) → stored_world (set lines line (record (channel_at lines line) { state = kept.Ready })) calls next ≡ applied (changes.Free line) here
  free_kept line = ap (λ ls. record here { lines = ls }) (moved_kept line kept.Ready lines)

  -- a call begins: it is put under a free key, which both its lines have
  module _ (keyed : AreKeyed lines calls) (after : Slab LiveCall) (key : ℕ) (call : LiveCall) (updates : Updates calls after key (Some call)) (free : get calls key ≡ None)
      (fresh : finite.get (calls_of calls) call.number ≡ None) (identifier : ℕ) where
    abbrev both : CallKey
    both = record { number = call.number; key = key }

    abbrev waits : LogicalChannel
    waits = record (channel_at lines call.caller) { state = kept.Waiting both; identifier = identifier }

    abbrev rings : LogicalChannel
    rings = record (channel_at lines call.called) { state = kept.Ringing both; identifier = INITIAL_IDENTIFIER }

    stays : (line : ℕ) → IsKeptUnder after line (key_of (channel_at lines line).state)
    stays line = grind (arith, carried)

    pub began_keyed : AreKeyed (lines_put lines identifier call key) after
    began_keyed = record {
      keys = λ line.
          let P : LogicalChannel → Type 0 = λ channel. IsKeptUnder after line (key_of channel.state) in
          set_over P (set lines call.caller waits) call.called rings line off_channel (λ is. (call, updates.changed, refl, inr is)) tt
          (λ other. set_over P lines call.caller waits line off_channel (λ is. (call, updates.changed, refl, inl is)) tt (λ others. stays line));
      one_each = added_one_each entry_of calls after key keyed.one_each call updates free fresh;
    }

    abbrev begun_from : World → World
    begun_from w = record {
      lines = moved_as w call.called INITIAL_IDENTIFIER (Ringing call.number) (moved_as w call.caller identifier (Waiting call.number) w.lines);
      calls = insert w.calls call.number (call_of_stored call);
      next = call.number + 1;
    }

    pub began_kept : stored_world (lines_put lines identifier call key) after (call.number + 1) ≡ begun_from here
    began_kept =
        ap (λ ls. record { lines = ls; calls = calls_of after; next = call.number + 1 })
        (moved_as_kept call.called INITIAL_IDENTIFIER (kept.Ringing both) (set lines call.caller waits)
        ∙ ap (moved_as here call.called INITIAL_IDENTIFIER (Ringing call.number)) (moved_as_kept call.caller identifier (kept.Waiting both) lines))
        ∙ ap (λ m. record (begun_from here) { calls = m }) (added entry_of calls after key keyed.one_each call updates free fresh)

  -- a line in no call
  module _ (line : ℕ) (none : key_of (channel_at lines line).state ≡ None) where
    pub out_kept : (state : ChannelState) (way : NoCallState) → state_of state ≡ state_after way
        → stored_world (set lines line (record (channel_at lines line) { state = state })) calls next ≡ left line way (call_on here line) here
    out_kept state way is = grind (arith, found, moved_kept, none_kept)

    pub unconnected_kept : (agreement : Agreement) → here ≡ connected (call_on here line) agreement here
    unconnected_kept agreement = ap (λ found. connected found agreement here) (sym (none_kept lines calls next line none))

  -- a line in a call
  module _ (keyed : AreKeyed lines calls) (line : ℕ) (shown : CallKey) (key : key_of (channel_at lines line).state ≡ Some shown) where
    its_call : (call : LiveCall) → get calls shown.key ≡ Some call → call_on here line ≡ Some (entry_of call)
    its_call call there = sym (found_kept lines calls next line shown keyed key) ∙ ap (option_map entry_of) there

    its_line : (call : LiveCall) → get calls shown.key ≡ Some call → IsEnd (call_of_stored call) line
    its_line call there = grind (arith, there_kept)

    -- its call ends: it is taken out, and no line has its key any more
    module _ (state : ChannelState) (after : List LogicalChannel) (rest : Slab LiveCall) (ended : IsEnded lines calls shown.key line state after rest)
        (out : key_of state ≡ None) where
      abbrev far : ℕ
      far = far_end (call_of_stored ended.call) line

      goes_on : (other : ℕ) → other ≢ line → other ≢ far → IsKeptUnder rest other (key_of (channel_at lines other).state)
      goes_on other not_line not_far = grind (arith, carried, ends, its_line)

      left_keyed : AreKeyed (lines_left lines line far state) rest
      left_keyed = record {
        keys = λ l.
            let P : LogicalChannel → Type 0 = λ channel. IsKeptUnder rest l (key_of channel.state) in
            set_over P (set lines far (record (channel_at lines far) { state = kept.Cleared })) line (record (channel_at lines line) { state = state }) l off_channel
            (λ is. kept_none rest l (key_of state) out) tt
            (λ not_line. set_over P lines far (record (channel_at lines far) { state = kept.Cleared }) l off_channel (λ is. tt) tt (λ not_far. goes_on l not_line not_far));
        one_each = removed_one_each entry_of calls rest shown.key keyed.one_each ended.call ended.there ended.updates;
      }

      pub ended_keyed : AreKeyed after rest
      ended_keyed = let P : List LogicalChannel → Type 0 = λ ls. AreKeyed ls rest in subst P (sym ended.left) left_keyed

      abbrev ended_from : State → World → World
      ended_from s w = record w { lines = moved w line s (moved w far Cleared w.lines); calls = finite.remove w.calls ended.call.number }

      pub ended_kept : (way : NoCallState) → state_of state ≡ state_after way → stored_world after rest next ≡ left line way (call_on here line) here
      ended_kept way is =
          ap (λ ls. stored_world ls rest next) ended.left
          ∙ ap (λ ls. record here { lines = ls; calls = calls_of rest })
          (moved_kept line state (set lines far (record (channel_at lines far) { state = kept.Cleared }))
          ∙ ap (moved here line (state_of state)) (moved_kept far kept.Cleared lines))
          ∙ ap (λ m. record (ended_from (state_of state) here) { calls = m })
          (removed entry_of calls rest shown.key keyed.one_each ended.call ended.there ended.updates)
          ∙ ap (λ s. ended_from s here) is
          ∙ ap (λ found. left line way found here) (sym (its_call ended.call ended.there))

    -- its call is accepted in place: its lines keep its key
    module _ (agreement : Agreement) (after : List LogicalChannel) (rest : Slab LiveCall) (accepted : IsAccepted lines calls shown.key agreement after rest) where
      abbrev becomes : LiveCall
      becomes = record accepted.call { agreed = Some agreement }

      abbrev talking : ℕ → LogicalChannel
      talking l = record (channel_at lines l) { state = kept.Talking (record { number = accepted.call.number; key = shown.key }) }

      still : (l : ℕ) (its : Option CallKey) → IsKeptUnder calls l its → IsKeptUnder rest l its
      still l None it = tt
      still l (Some its) it = grind (arith, cases_eq, changed)

      pub accepted_keyed : AreKeyed after rest
      accepted_keyed =
          let Q : List LogicalChannel → Type 0 = λ ls. AreKeyed ls rest in
          subst Q (sym accepted.connected) (record {
            keys = λ l.
                let P : LogicalChannel → Type 0 = λ channel. IsKeptUnder rest l (key_of channel.state) in
                set_over P (set lines accepted.call.called (talking accepted.call.called)) accepted.call.caller (talking accepted.call.caller) l off_channel
                (λ is. (becomes, accepted.updates.changed, refl, inl is)) tt
                (λ other. set_over P lines accepted.call.called (talking accepted.call.called) l off_channel (λ is. (becomes, accepted.updates.changed, refl, inr is)) tt
                (λ others. still l (key_of (channel_at lines l).state) (keyed.keys l)));
            one_each = changed_one_each entry_of calls rest shown.key keyed.one_each accepted.call accepted.there becomes accepted.updates refl;
          })

      abbrev connected_from : World → World
      connected_from w = record w {
        lines = moved w accepted.call.caller (Talking accepted.call.number) (moved w accepted.call.called (Talking accepted.call.number) w.lines);
        calls = insert w.calls accepted.call.number (call_of_stored becomes);
      }

      pub accepted_kept : stored_world after rest next ≡ connected (call_on here line) agreement here
      accepted_kept =
          let state : ChannelState = kept.Talking (record { number = accepted.call.number; key = shown.key }) in
          ap (λ ls. stored_world ls rest next) accepted.connected
          ∙ ap (λ ls. record here { lines = ls; calls = calls_of rest })
          (moved_kept accepted.call.caller state (set lines accepted.call.called (talking accepted.call.called))
          ∙ ap (moved here accepted.call.caller (Talking accepted.call.number)) (moved_kept accepted.call.called state lines))
          ∙ ap (λ m. record (connected_from here) { calls = m })
          (changed entry_of calls rest shown.key keyed.one_each accepted.call accepted.there becomes accepted.updates refl)
          ∙ ap (λ found. connected found agreement here) (sym (its_call accepted.call accepted.there))

-- room for more calls changes none
pub roomy_keyed : (lines : List LogicalChannel) (calls roomy : Slab LiveCall) → roomy ≡ record calls { capacity = roomy.capacity } → AreKeyed lines calls → AreKeyed lines roomy
roomy_keyed lines calls roomy rest keyed = grind arith

pub roomy_kept : (lines : List LogicalChannel) (calls roomy : Slab LiveCall) (next : ℕ) → roomy ≡ record calls { capacity = roomy.capacity }
    → stored_world lines roomy next ≡ stored_world lines calls next
roomy_kept lines calls roomy next rest = ap (λ s. stored_world lines s next) rest

-- what `begin` leaves
module _ (lines : List LogicalChannel) (calls : Slab LiveCall) (world : World) (keyed : AreKeyed lines calls) (call : LiveCall)
    (shown : stored_world lines calls call.number ≡ world) (fresh : call_numbered world world.next ≡ None)
    (after : Slab LiveCall) (key : ℕ) (updates : Updates calls after key (Some call)) (free : get calls key ≡ None) (identifier : ℕ)
    (all : List LogicalChannel) (all_is : all ≡ lines_put lines identifier call key) where
  fresh_here : finite.get (calls_of calls) call.number ≡ None
  fresh_here = ap (λ w. call_numbered w w.next) shown ∙ fresh

  pub begun_keyed : AreKeyed all after
  begun_keyed =
      let P : List LogicalChannel → Type 0 = λ ls. AreKeyed ls after in
      subst P (sym all_is) (began_keyed lines calls call.number keyed after key call updates free fresh_here identifier)

  abbrev begun_in : World → World
  begun_in w = record {
    lines = moved_as w call.called INITIAL_IDENTIFIER (Ringing w.next) (moved_as w call.caller identifier (Waiting w.next) w.lines);
    calls = insert w.calls w.next (call_of_stored call);
    next = w.next + 1;
  }

  pub begun_kept : stored_world all after (call.number + 1) ≡ begun_in world
  begun_kept =
      ap (λ ls. stored_world ls after (call.number + 1)) all_is
      ∙ began_kept lines calls call.number keyed after key call updates free fresh_here identifier
      ∙ ap begun_in shown

-- a cancelled call leaves the next number fresh, and the connections as they were
pub fresh_freed : (world : World) (cancelled : Option ℕ) → call_numbered world world.next ≡ None
    → call_numbered (freed_if_any cancelled world) (freed_if_any cancelled world).next ≡ None
fresh_freed world None fresh = fresh
fresh_freed world (Some line) fresh = grind (arith, cases_eq, found, get_gone, get_left)

abbrev pub HasConnections : World → Type 0
HasConnections world = (line : ℕ) → (line_at world line).connection + 1 < 2 ^ 64

pub connections_freed : (world : World) (cancelled : Option ℕ) → HasConnections world → HasConnections (freed_if_any cancelled world)
connections_freed world None few = few
connections_freed world (Some line) few = few_left (call_on world line)
  where
    few_left : (found : Option (ℕ × Call)) → HasConnections (left line IsFree found world)
    few_left None = λ l. get_or-set (λ k. k.connection + 1 < 2 ^ 64) world.lines line (record (line_at world line) { state = state_after IsFree }) l off_line (few line) (few l)
    few_left (Some found) = λ l.
        let far : ℕ = far_end found.1 line in
        get_or-set (λ k. k.connection + 1 < 2 ^ 64) (set world.lines far (record (line_at world far) { state = Cleared })) line
        (record (line_at world line) { state = state_after IsFree }) l off_line (few line)
        (get_or-set (λ k. k.connection + 1 < 2 ^ 64) world.lines far (record (line_at world far) { state = Cleared }) l off_line (few far) (few l))
