-- What private functions promise: cutting frames, acting on events and writing the text of an entry.
use Rattle.std.specs.Prelude.{◌≡◌, ℕ, ◌+◌, ◌<◌, Bool, true, false, List, [], ◌++◌, length, take, All, Option, None, Some, Result, Ok, Err}
use Rattle.std.specs.Io.KnownBytes.{Appends}
use Rattle.xp_frames.specs.declared.fault.FrameFault.{FrameFault}
use Rattle.xp_frames.specs.Frame.{BadHeader, HasNoBadHeader}
use Rattle.xp_frames.specs.Deframer.{DeframerState, Takes}
use Rattle.xp_step.specs.declared.event.Event.{Event}
use Rattle.xp_step.specs.Exchange.{Exchange}
use Rattle.xp_core.specs.declared.fault.StepFault.{StepFault}
use Rattle.xp_core.specs.declared.fault.StepFault.TheVariants as steps
use Rattle.xp_exchange.specs.declared.fault.ReplayFault.{ReplayFault}
use Rattle.xp_exchange.specs.declared.fault.ReplayFault.TheVariants.{Script, Journal, Memory, Read, Write, Lay, Reload}
use Rattle.xp_script.specs.NamedText.{NamedText}
use Rattle.xp_subs.specs.Tables.{Tables}
use Rattle.xp_exchange.specs.declared.next_tables.AskedTables.{AskedTables}
use Rattle.xp_exchange.specs.declared.next_tables.NextTables.{NextTables}
use Rattle.xp_exchange.specs.FrameEvents.{Fits}
use Rattle.xp_exchange.specs.Play.{ActsOn, HasNoPlaces, IsRefusedText, Lays, MayCome, stalls_at}
use Rattle.xp_exchange.specs.WholeScript.{IsWritten, IsWrittenInPart, FindsNoMemory}

-- the text is written, or, if the writer fails, a prefix of it, or, if there is no memory, nothing
abbrev pub Tells : Option (List ℕ) → Option (List ℕ) → List ℕ → Result (Unit {0}) ReplayFault → Type 0
Tells old new text (Ok done) = Appends old new text
Tells old new text (Err Memory) = Appends old new []
Tells old new text (Err Write) = (count : ℕ) × Appends old new (take count text)
Tells old new text (Err fault) = ⊥

-- the same, where no packet waits any more
abbrev pub emptied : DeframerState → DeframerState
emptied held = record { waiting = []; rest = held.rest; failed = held.failed }

-- no packet waits, and no bad header came
abbrev pub IsBetweenFrames : DeframerState → Type 0
IsBetweenFrames held = (held.waiting ≡ []) × (held.failed ≡ false)

-- whether these octets, which follow the frames, begin with a bad header
abbrev pub FailsBehind : Bool → List ℕ → Type 0
FailsBehind true rest = (fault : FrameFault) × BadHeader rest fault
FailsBehind false rest = HasNoBadHeader rest

-- octets are fed to a stream: whether a bad header follows their frames
abbrev pub TakesWhole : DeframerState → List ℕ → Bool → DeframerState → Type 0
TakesWhole old octets fails new = Takes old octets new × (new.failed ≡ fails) × FailsBehind fails new.rest

module _ {A : Type 0} where
  -- why a step was refused, without the event
  abbrev pub reason : StepFault A → ReplayFault
  reason (steps.JournalFull event) = Journal
  reason (steps.Memory event) = Memory

  -- The tables of this number may come into force behind these events, which give the lines up that go at this moment.
  pub record IsNext (exchange : Exchange A) (named : List NamedText) (number moment : ℕ) (events : List (Event A)) (next : NextTables) : Type 0 where
    pub number_is : next.number ≡ number
    pub going : List ℕ
    pub lays : Lays exchange named number next.subs going
    pub gives_up : events ≡ stalls_at moment going
    pub comes : (after : Exchange A) → ActsOn exchange events after → MayCome after next.subs

  -- The history has too few places for the lines that go, and for the reload that brings the tables of this number.
  pub record LacksPlacesFor (exchange : Exchange A) (named : List NamedText) (number : ℕ) : Type 0 where
    pub laid : Tables
    pub going : List ℕ
    pub lays : Lays exchange named number laid going
    pub full : exchange.subs.journal < length exchange.history + (length going + 4)

  -- why the tables of this number do not come into force, for the line of this number
  abbrev pub RefusesReload : Exchange A → List NamedText → ℕ → ℕ → ReplayFault → Type 0
  RefusesReload exchange named tables number Journal = LacksPlacesFor exchange named tables
  RefusesReload exchange named tables number Memory = Unit {0}
  RefusesReload exchange named tables number (Lay found which) =
      (found ≡ number) × (which ≡ tables) × HasNoPlaces exchange named which
  RefusesReload exchange named tables number (Reload found which fault) =
      (found ≡ number) × (which ≡ tables) × IsRefusedText exchange named which fault
  RefusesReload exchange named tables number (Script found) = ⊥
  RefusesReload exchange named tables number Read = ⊥
  RefusesReload exchange named tables number Write = ⊥

  -- what a line that was read asks for is there, if it asks for anything; else its events are as they were
  abbrev pub IsPrepared : Exchange A → List NamedText → Option AskedTables → ℕ → List (Event A) → List (Event A) → Option NextTables → Type 0
  IsPrepared exchange named None moment before events next = events ≡ before
  IsPrepared exchange named (Some asked) moment before events next =
      (one : NextTables) × (next ≡ Some one) × IsNext exchange named asked.tables moment events one × All (Fits exchange.subs) events

  -- why it is not there
  abbrev pub RefusesAsked : Exchange A → List NamedText → Option AskedTables → ReplayFault → Type 0
  RefusesAsked exchange named None fault = ⊥
  RefusesAsked exchange named (Some asked) fault = RefusesReload exchange named asked.tables asked.line fault

  -- The first of the events are acted on. They may be none, and they may be all.
  pub record ActsOnFirst (old : Exchange A) (events : List (Event A)) (now : Exchange A) : Type 0 where
    pub first : List (Event A)
    pub later : List (Event A)
    pub in_order : events ≡ first ++ later
    pub acts : ActsOn old first now

  -- why it stopped at one of the events, the exchange then, and what is written
  abbrev pub Breaks : Exchange A → List (Event A) → ReplayFault → Exchange A → List ℕ → Type 0
  Breaks old events Journal new text =
      (acted : ActsOnFirst old events new) × IsWritten old new text
      × (0 < length acted.later) × (new.subs.journal < length new.history + 4)
  Breaks old events Memory new text = (acted : ActsOnFirst old events new) × FindsNoMemory old acted.later new text
  Breaks old events Write new text = ActsOnFirst old events new × IsWrittenInPart old new text
  Breaks old events (Script number) new text = ⊥
  Breaks old events Read new text = ⊥
  Breaks old events (Lay number tables) new text = ⊥
  Breaks old events (Reload number tables fault) new text = ⊥

  -- what acting on events in turn returns, the exchange then, and what is written
  abbrev pub Acted : Exchange A → List (Event A) → Result (Unit {0}) ReplayFault → Exchange A → List ℕ → Type 0
  Acted old events (Ok done) new text = ActsOn old events new × IsWritten old new text
  Acted old events (Err fault) new text = Breaks old events fault new text
