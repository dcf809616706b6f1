-- A history, one happening after another (`AreForced`): behind the entry of each event stand the entries of the stalls that the event
-- forced. In front of the entry of a reload stand those of the stalls that give up lines, each with the stalls that it forced. It has
-- no other stalls.
use Rattle.std.specs.Prelude.{◌≡◌, ℕ, ◌<◌, ◌≤◌, false, List, [], ◌∷◌, ◌++◌, flat_map, length}
use Rattle.xp_subs.specs.Tables.{Tables}
use Rattle.xp_step.specs.declared.entry.Entry.{Entry}
use Rattle.xp_step.specs.declared.event.What.TheVariants.{Stall}
use Rattle.xp_step.specs.InForce.{in_force}
use Rattle.xp_step.specs.Worlds.{world_after}
use Rattle.xp_core.specs.Reload.{MustGo}
use Rattle.xp_seats.specs.Handed.{is_stall}
use Rattle.xp_lock.specs.Forced.{Forces}

-- the entry of an event, the entries of the stalls that it forced, and how many places of each line's outbox were known to be
-- free before it
pub record Forcing (A : Type 0) : Type 0 where
  pub entry : Entry A
  pub stalls : List (Entry A)
  pub places : ℕ → ℕ

-- an event, and the stalls before it that give up lines
pub record Happening (A : Type 0) : Type 0 where
  pub given_up : List (Forcing A)
  pub event : Forcing A

module _ {A : Type 0} where
  -- the entries of an event and of its stalls
  abbrev pub entries_of : Forcing A → List (Entry A)
  entries_of forcing = forcing.entry ∷ forcing.stalls

  -- so of some events
  abbrev pub all_entries : List (Forcing A) → List (Entry A)
  all_entries forcings = flat_map entries_of forcings

  abbrev pub entries_in : Happening A → List (Entry A)
  entries_in happening = all_entries happening.given_up ++ entries_of happening.event

  -- behind these entries, an event forced these stalls, three at most
  pub record IsForcing (subs : Tables) (before : List (Entry A)) (forcing : Forcing A) : Type 0 where
    pub few : length forcing.stalls ≤ 3
    pub forces : Forces subs before (world_after subs before) forcing.places forcing.entry forcing.stalls (world_after subs (before ++ entries_of forcing))

  -- behind these entries, a stall of this moment gives up the lowest line that must go before the next tables come into force
  pub record IsGivenUp (subs : Tables) (before : List (Entry A)) (next : Tables) (moment : ℕ) (forcing : Forcing A) : Type 0 where
    pub stall : forcing.entry.event.what ≡ Stall
    pub moment_is : forcing.entry.event.moment ≡ moment
    pub must_go : MustGo (in_force subs before) (world_after subs before) next forcing.entry.event.line
    pub lowest : (other : ℕ) → other < forcing.entry.event.line → MustGo (in_force subs before) (world_after subs before) next other → ⊥
    pub forced : IsForcing subs before forcing

  -- so each of these, one after the other
  abbrev pub AreGivenUp : Tables → List (Entry A) → Tables → ℕ → List (Forcing A) → Type 0
  AreGivenUp subs before next moment [] = Unit {0}
  AreGivenUp subs before next moment (forcing ∷ forcings) =
      IsGivenUp subs before next moment forcing × AreGivenUp subs (before ++ entries_of forcing) next moment forcings

  -- an event that brings tables, a reload, gives up lines; no other event does
  abbrev pub GivesUpFor : Tables → List (Entry A) → List Tables → ℕ → List (Forcing A) → Type 0
  GivesUpFor subs before [] moment given_up = given_up ≡ []
  GivesUpFor subs before (next ∷ later) moment given_up = AreGivenUp subs before next moment given_up

  -- this happened behind these entries, and its event is no stall
  pub record Happens (subs : Tables) (before : List (Entry A)) (happening : Happening A) : Type 0 where
    pub own : is_stall happening.event.entry.event.what ≡ false
    pub given_up : GivesUpFor subs before happening.event.entry.tables.items happening.event.entry.event.moment happening.given_up
    pub forced : IsForcing subs (before ++ all_entries happening.given_up) happening.event

  -- so each of these, one after the other
  abbrev pub AllHappen : Tables → List (Entry A) → List (Happening A) → Type 0
  AllHappen subs before [] = Unit {0}
  AllHappen subs before (happening ∷ happenings) = Happens subs before happening × AllHappen subs (before ++ entries_in happening) happenings

  -- the history is the entries of such happenings
  pub record AreForced (subs : Tables) (history : List (Entry A)) : Type 0 where
    pub happenings : List (Happening A)
    pub history_is : history ≡ flat_map entries_in happenings
    pub each : AllHappen subs [] happenings
