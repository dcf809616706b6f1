-- A history grows by an event and the stalls that it forced, and by a reload with the stalls that give up lines.
use Rattle.std.proofs.Common.{arith, ◌≡◌, ℕ, false, true≢false, List, [], ◌∷◌, ◌++◌, sym, refl, ap, ◌∙◌, subst, append_assoc, append-nil}
use Rattle.std.proofs.lemmas.Grind.{flat_map-append}
use Rattle.std.specs.Prelude.{flat_map}
use Rattle.xp_subs.specs.Tables.{Tables}
use Rattle.xp_step.specs.declared.entry.Entry.{Entry}
use Rattle.xp_step.specs.declared.event.Event.{Event}
use Rattle.xp_step.specs.declared.event.What.{What}
use Rattle.xp_step.specs.declared.event.What.TheVariants as events
use Rattle.xp_step.specs.InForce.{Brings, in_force}
use Rattle.xp_step.specs.Worlds.{world_after}
use Rattle.xp_machine.specs.World.{World}
use Rattle.xp_seats.specs.Handed.{is_raised}
use Rattle.xp_lock.specs.declared.receipt.Receipt.{Receipt}
use Rattle.xp_lock.specs.Locked.{Locked, Takes}
use Rattle.xp_lock.proofs.Fresh.{not_stall}
use Rattle.xp_lock.specs.Histories.{AllHappen, AreForced, AreGivenUp, Forcing, Happening, Happens, IsGivenUp, all_entries, entries_in, entries_of}

-- what lines offer brings no tables
brings_none : {A : Type 0} (force : Tables) (world : World) (what : What A) (brought : List Tables) → is_raised what ≡ false → Brings force world what brought → brought ≡ []
brings_none force world events.Reload brought kind brings = absurd (true≢false kind)
brings_none force world events.Up brought kind none = none
brings_none force world events.Down brought kind none = none
brings_none force world (events.Frame identifier packet) brought kind none = none
brings_none force world (events.WrongFrame wrong) brought kind none = none
brings_none force world events.Expire brought kind none = none
brings_none force world events.Stall brought kind none = none

module _ {A : Type 0} where
  -- nothing happened
  pub none_forced : (subs : Tables) → AreForced {A = A} subs []
  none_forced subs = record { happenings = []; history_is = refl; each = tt }

  one_more : (subs : Tables) (before : List (Entry A)) (happenings : List (Happening A)) (last : Happening A)
      → AllHappen subs before happenings → Happens subs (before ++ flat_map entries_in happenings) last → AllHappen subs before (happenings ++ last ∷ [])
  one_more subs before [] last each one = (subst (λ xs. Happens subs xs last) (append-nil before) one, tt)
  one_more subs before (next ∷ happenings) last each one = (
    each.0,
    one_more subs (before ++ entries_in next) happenings last each.1
        (subst (λ xs. Happens subs xs last) (sym (append_assoc before (entries_in next) (flat_map entries_in happenings))) one),
  )

  pub forced_more : (subs : Tables) (history grown : List (Entry A)) (last : Happening A)
      → AreForced subs history → Happens subs history last → grown ≡ history ++ entries_in last → AreForced subs grown
  forced_more subs history grown last was one is = record {
    happenings = was.happenings ++ last ∷ [];
    history_is = is ∙ ap (λ xs. xs ++ entries_in last) was.history_is ∙ ap (λ xs. flat_map entries_in was.happenings ++ xs) (sym (append-nil (entries_in last)))
        ∙ sym (flat_map-append entries_in was.happenings (last ∷ []));
    each = one_more subs [] was.happenings last was.each (subst (λ xs. Happens subs xs last) was.history_is one);
  }

  -- a line more is given up
  pub given_up_more : (subs : Tables) (before : List (Entry A)) (next : Tables) (moment : ℕ) (given_up : List (Forcing A)) (last : Forcing A)
      → AreGivenUp subs before next moment given_up → IsGivenUp subs (before ++ all_entries given_up) next moment last → AreGivenUp subs before next moment (given_up ++ last ∷ [])
  given_up_more subs before next moment [] last each one = (subst (λ xs. IsGivenUp subs xs next moment last) (append-nil before) one, tt)
  given_up_more subs before next moment (first ∷ given_up) last each one = (
    each.0,
    given_up_more subs (before ++ entries_of first) next moment given_up last each.1
        (subst (λ xs. IsGivenUp subs xs next moment last) (sym (append_assoc before (entries_of first) (all_entries given_up))) one),
  )

  pub entries_more : (given_up : List (Forcing A)) (last : Forcing A) → all_entries (given_up ++ last ∷ []) ≡ all_entries given_up ++ entries_of last
  entries_more given_up last = flat_map-append entries_of given_up (last ∷ []) ∙ ap (λ xs. all_entries given_up ++ xs) (append-nil (entries_of last))

  module _ (old : Locked A) (event : Event A) (done : Receipt) (new : Locked A) (takes : Takes old event done new) where
    -- a take adds the event and the stalls that it forced
    pub forced_taken : is_raised event.what ≡ false → AreForced old.subs old.history → AreForced old.subs new.history
    forced_taken kind was =
        let forcing = takes.entered.forcing in
        let raised : is_raised forcing.entry.event.what ≡ false = ap (λ e. is_raised e.what) takes.entered.event_is ∙ kind in
        let brought : forcing.entry.tables.items ≡ [] =
        brings_none (in_force old.subs old.history) (world_after old.subs old.history) forcing.entry.event.what forcing.entry.tables.items raised takes.entered.forced.forces.step.brought in
        let last : Happening A = record { given_up = []; event = forcing } in
        let one : Happens old.subs old.history last = grind (arith, append-nil, not_stall) in
        forced_more old.subs old.history new.history last was one takes.entered.history
