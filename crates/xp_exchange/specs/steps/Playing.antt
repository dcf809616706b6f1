-- What playing one line promises.
use Rattle.std.specs.Prelude.{◌≡◌, ◌⊎◌, ℕ, ◌+◌, ◌<◌, List, length, All, Option, None, Some, Result, Ok, Err}
use Rattle.xp_script.specs.Command.{said}
use Rattle.xp_step.specs.declared.event.Event.{Event}
use Rattle.xp_exchange.specs.FrameEvents.{Fits}
use Rattle.xp_script.specs.NamedText.{NamedText}
use Rattle.xp_subs.specs.Tables.{Tables}
use Rattle.xp_exchange.specs.declared.next_tables.AskedTables.{AskedTables}
use Rattle.xp_exchange.specs.declared.fault.ReplayFault.{ReplayFault}
use Rattle.xp_exchange.specs.declared.fault.ReplayFault.TheVariants.{Script, Journal, Memory, Read, Write, Lay, Reload}
use Rattle.xp_exchange.specs.Play.{AsksFor, BeginsLine, HasNoPlaces, IsRefusedText, LacksPlaces, PlayState, PlaysLine, ReadsLine, force_in}
use Rattle.xp_exchange.specs.WholeScript.{IsWritten, IsWrittenInPart, FindsNoMemory, StopsBeforeLine}

-- why the line of this number asks for nothing
abbrev pub RefusesCommand : (A : Type 0) → Tables → List NamedText → ℕ → List ℕ → ReplayFault → Type 0
RefusesCommand A tables named number line (Script found) = (found ≡ number) × (said {A = A} tables named line ≡ None)
RefusesCommand A tables named number line Memory = Unit {0}
RefusesCommand A tables named number line Journal = ⊥
RefusesCommand A tables named number line Read = ⊥
RefusesCommand A tables named number line Write = ⊥
RefusesCommand A tables named number line (Lay found which) = ⊥
RefusesCommand A tables named number line (Reload found which fault) = ⊥

module _ {A : Type 0} where
  -- what comes of reading the line of this number: events on which the exchange can act, or what it asks for
  abbrev pub IsRead : PlayState A → ℕ → List ℕ → List (Event A) → PlayState A → Option AskedTables → Type 0
  IsRead old number line events new None = ReadsLine old line events new × All (Fits old.exchange.subs) events
  IsRead old number line events new (Some asked) =
      AsksFor old line asked.tables × (asked.tables < length old.named) × (asked.line ≡ number) × (new ≡ old)

  -- what playing the line of this number returns, the state then, and what is written
  abbrev pub Played : PlayState A → ℕ → List ℕ → Result (Unit {0}) ReplayFault → PlayState A → List ℕ → Type 0
  Played old number line (Ok done) new text = PlaysLine old line new × IsWritten old.exchange new.exchange text
  Played old number line (Err (Script found)) new text =
      (found ≡ number) × (said {A = A} (force_in old.exchange) old.named line ≡ None) × StopsBeforeLine old new.exchange text
  Played old number line (Err Journal) new text =
      (begun : BeginsLine old line new.exchange) × IsWritten old.exchange new.exchange text
      × LacksPlaces begun.brought new.exchange begun.later
  Played old number line (Err Memory) new text =
      StopsBeforeLine old new.exchange text
      ⊎ ((begun : BeginsLine old line new.exchange) × FindsNoMemory old.exchange begun.later new.exchange text)
  Played old number line (Err Write) new text =
      BeginsLine old line new.exchange × IsWrittenInPart old.exchange new.exchange text
  Played old number line (Err (Lay found tables)) new text =
      (found ≡ number) × AsksFor old line tables × HasNoPlaces old.exchange old.named tables × StopsBeforeLine old new.exchange text
  Played old number line (Err (Reload found tables fault)) new text =
      (found ≡ number) × AsksFor old line tables × IsRefusedText old.exchange old.named tables fault × StopsBeforeLine old new.exchange text
  Played old number line (Err Read) new text = ⊥
