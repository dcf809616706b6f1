-- For private steps. What is looked at before a reload, and its entry.
use Rattle.std.specs.Prelude.{◌≡◌, ◌+◌, ◌<◌, ℕ, All, Contains, List, [], ◌∷◌, length}
use Rattle.std.specs.List.Sorted.{IsStrictlyIncreasing}
use Rattle.xp_subs.specs.Tables.{Tables}
use Rattle.xp_core.specs.Reload.{MovesInCall, MustGo, reload_at}
use Rattle.xp_machine.specs.World.{World}
use Rattle.xp_step.specs.declared.entry.Entry.{Entry}
use Rattle.xp_step.specs.declared.outcome.Outcome.TheVariants.{Plain}

-- none of the lines below this number stays in a call with another address
abbrev pub IsIdle : Tables → World → Tables → ℕ → Type 0
IsIdle force world next count = (line : ℕ) → line < count → MovesInCall force world next line → ⊥

-- none of the lines below this number must go
abbrev pub NoneGoes : Tables → World → Tables → ℕ → Type 0
NoneGoes force world next count = (line : ℕ) → line < count → MustGo force world next line → ⊥

-- the lines below this number that must go, the lowest first
pub record AreGoingBelow (force : Tables) (world : World) (next : Tables) (number : ℕ) (lines : List ℕ) : Type 0 where
  pub each : All (MustGo force world next) lines
  pub all : (line : ℕ) → line < number → MustGo force world next line → Contains lines line
  pub below : All (λ line. line < number) lines
  pub rising : IsStrictlyIncreasing lines

pub record IsReloadEntry {A : Type 0} (history : List (Entry A)) (moment : ℕ) (next : Tables) (entry : Entry A) : Type 0 where
  pub number : entry.number ≡ length history + 1
  pub event : entry.event ≡ reload_at moment
  pub plain : entry.outcome ≡ Plain
  pub outputs : entry.outputs ≡ []
  pub records : entry.records.items ≡ []
  pub brought : entry.tables.items ≡ next ∷ []
