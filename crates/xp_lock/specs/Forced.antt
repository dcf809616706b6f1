-- The stalls that an event forces (`Forces`): a line in service that takes its packets too slowly goes out of service. The event may
-- itself be a stall, which gives up a line that goes with the next reload.
use Rattle.std.specs.Prelude.{◌≡◌, ℕ, ◌+◌, ◌<◌, false, List, [], ◌∷◌, ◌++◌, All, length}
use Rattle.xp_subs.specs.Tables.{Tables}
use Rattle.xp_step.specs.declared.entry.Entry.{Entry}
use Rattle.xp_step.specs.declared.event.What.TheVariants.{Stall}
use Rattle.xp_machine.specs.Channel.{is_off}
use Rattle.xp_step.specs.Step.{Step}
use Rattle.xp_machine.specs.World.{World, state_at}
use Rattle.xp_lock.specs.Outboxes.{PLACES_KEPT}
use Rattle.xp_lock.specs.Outgoing.{put_out_to}

module _ {A : Type 0} where
  -- A line is due to be stalled: in this state it is in service, these entries put something out to it, and they leave it
  -- fewer than 24 free places. `places` is how many places of each line were known to be free before these entries
  pub record IsDue (world : World) (places : ℕ → ℕ) (entries : List (Entry A)) (line : ℕ) : Type 0 where
    pub in_service : is_off (state_at world line) ≡ false
    pub given : 0 < length (put_out_to line entries)
    pub short : places line < PLACES_KEPT + length (put_out_to line entries)

  -- a line is due, and no lower line is
  pub record IsLowestDue (world : World) (places : ℕ → ℕ) (entries : List (Entry A)) (line : ℕ) : Type 0 where
    pub due : IsDue world places entries line
    pub lowest : (other : ℕ) → other < line → IsDue world places entries other → ⊥

  -- no line is due
  abbrev pub IsQuiet : World → (ℕ → ℕ) → List (Entry A) → Type 0
  IsQuiet world places entries = (line : ℕ) → IsDue world places entries line → ⊥

  -- After these entries the lowest line that is due is stalled, and so on. These are the entries of the stalls, and this is the
  -- last state
  abbrev pub Stalls : Tables → List (Entry A) → World → (ℕ → ℕ) → List (Entry A) → List (Entry A) → World → Type 0
  Stalls subs before world places entries [] last = last ≡ world
  Stalls subs before world places entries (stall ∷ stalls) last =
      (next : World) × (stall.event.what ≡ Stall) × IsLowestDue world places entries stall.event.line
      × Step subs (before ++ entries) world stall next × Stalls subs before next places (entries ++ stall ∷ []) stalls last

  -- all these entries have this moment
  abbrev pub AreAt : ℕ → List (Entry A) → Type 0
  AreAt moment entries = All (λ entry. entry.event.moment ≡ moment) entries

  -- an event has this entry, forces these stalls, which have its moment, and leads to this last state, in which no line is due
  pub record Forces (subs : Tables) (before : List (Entry A)) (world : World) (places : ℕ → ℕ) (entry : Entry A) (stalls : List (Entry A)) (last : World) : Type 0 where
    pub next : World
    pub step : Step subs before world entry next
    pub forced : Stalls subs before next places (entry ∷ []) stalls last
    pub quiet : IsQuiet last places (entry ∷ stalls)
    pub moments : AreAt entry.event.moment stalls
