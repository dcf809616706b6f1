-- A reload: other subscriptions come into force.
use Rattle.std.specs.Prelude.{◌≡◌, ◌≢◌, ◌≤◌, ◌<◌, ℕ, false, All, Contains, IsSome, List, None, length}
use Rattle.std.specs.List.Sorted.{IsStrictlyIncreasing}
use Rattle.xp_reload.specs.Frame.{Differs, IsSameFrame, KeepsLine}
use Rattle.xp_subs.specs.Sound.{IsSound}
use Rattle.xp_subs.specs.Tables.{Tables, address_of, line_at, line_count}
use Rattle.xp_core.specs.declared.reload.ReloadFault.{ReloadFault}
use Rattle.xp_core.specs.declared.reload.ReloadFault.TheVariants.{Frame, InCall, InService, JournalFull}
use Rattle.xp_step.specs.declared.event.Event.{Event}
use Rattle.xp_step.specs.declared.event.What.TheVariants.{Reload}
use Rattle.xp_step.specs.Exchange.{Exchange, world_of}
use Rattle.xp_step.specs.InForce.{in_force}
use Rattle.xp_machine.specs.Channel.{is_off}
use Rattle.xp_machine.specs.World.{World, call_on, state_at}

-- a line that stays, and is in a call, would get another address
pub record MovesInCall (force : Tables) (world : World) (next : Tables) (line : ℕ) : Type 0 where
  pub known : line < line_count force
  pub stays : KeepsLine (line_at force line) (line_at next line)
  pub moves : address_of next line ≢ address_of force line
  pub in_call : IsSome (call_on world line)

-- a line is in service, and its place does not keep it: it has to be given up first
pub record MustGo (force : Tables) (world : World) (next : Tables) (line : ℕ) : Type 0 where
  pub known : line < line_count force
  pub goes : KeepsLine (line_at force line) (line_at next line) → ⊥
  pub in_service : is_off (state_at world line) ≡ false

-- the lines that must go, the lowest first
pub record AreGoing (force : Tables) (world : World) (next : Tables) (lines : List ℕ) : Type 0 where
  pub each : All (MustGo force world next) lines
  pub all : (line : ℕ) → MustGo force world next line → Contains lines line
  pub rising : IsStrictlyIncreasing lines

-- the next tables may come into force as soon as no line must go
pub record MayReplace (force : Tables) (world : World) (next : Tables) : Type 0 where
  pub sound : IsSound next
  pub frame : IsSameFrame force next
  -- a line that stays, and whose address changes, is in no call
  pub idle : (line : ℕ) → line < line_count force → KeepsLine (line_at force line) (line_at next line)
      → address_of next line ≢ address_of force line → call_on world line ≡ None

-- why the next tables cannot come into force, with a history of so many entries of at most so many
abbrev pub IsRefusal : ℕ → ℕ → Tables → World → Tables → ReloadFault → Type 0
IsRefusal journal entries force world next JournalFull = journal ≤ entries
IsRefusal journal entries force world next (Frame change) = Differs force next change
IsRefusal journal entries force world next (InCall line) = MovesInCall force world next line
IsRefusal journal entries force world next (InService line) = MustGo force world next line

-- why they cannot, also when no line must go any more
abbrev pub IsLastingRefusal : Tables → World → Tables → ReloadFault → Type 0
IsLastingRefusal force world next JournalFull = ⊥
IsLastingRefusal force world next (Frame change) = Differs force next change
IsLastingRefusal force world next (InCall line) = MovesInCall force world next line
IsLastingRefusal force world next (InService line) = ⊥

module _ {A : Type 0} where
  -- the event of a reload: it is no line's
  abbrev pub reload_at : ℕ → Event A
  reload_at moment = record { line = 0; moment = moment; what = Reload }

  abbrev pub IsRefusedFor : Exchange A → Tables → ReloadFault → Type 0
  IsRefusedFor exchange next fault =
      IsRefusal exchange.subs.journal (length exchange.history) (in_force exchange.subs exchange.history) (world_of exchange) next fault

  -- the same of the state of an exchange
  abbrev pub AreGoingFrom : Exchange A → Tables → List ℕ → Type 0
  AreGoingFrom exchange next lines = AreGoing (in_force exchange.subs exchange.history) (world_of exchange) next lines

  abbrev pub MayReplaceIn : Exchange A → Tables → Type 0
  MayReplaceIn exchange next = MayReplace (in_force exchange.subs exchange.history) (world_of exchange) next
