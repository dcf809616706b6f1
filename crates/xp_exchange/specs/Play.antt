-- What the lines of a script do, in turn.
use Rattle.std.specs.Prelude.{◌≡◌, ◌⊎◌, ◌+◌, ◌<◌, ◌≤◌, ℕ, Bool, true, false, List, [], ◌∷◌, ◌++◌, length, map, replicate, slice_index_or, slice_set, Option, None, Some, All}
use Rattle.std.specs.List.{AllByRecursion}
use Rattle.xp_packets.specs.declared.modulus.Modulus.{Modulus}
use Rattle.xp_subs.specs.Tables.{Tables, line_count, modulus_of}
use Rattle.xp_subs.specs.declared.laid.LayFault.{LayFault}
use Rattle.xp_core.specs.Reload.{AreGoingFrom, IsLastingRefusal, MayReplaceIn, reload_at}
use Rattle.xp_core.specs.declared.reload.ReloadFault.{ReloadFault}
use Rattle.xp_step.specs.declared.entry.Entry.{Entry}
use Rattle.xp_step.specs.declared.event.Event.{Event}
use Rattle.xp_step.specs.declared.event.What.{What}
use Rattle.xp_step.specs.declared.event.What.TheVariants.{Up, Down, Expire as TimerExpires, Stall}
use Rattle.xp_machine.specs.Channel.{is_off}
use Rattle.xp_step.specs.Exchange.{Exchange, world_of}
use Rattle.xp_step.specs.InForce.{MayFollow, brought_by, in_force}
use Rattle.xp_step.specs.Run.{RunFrom}
use Rattle.xp_machine.specs.World.{World, state_at}
use Rattle.xp_script.specs.declared.command.Command.{Command}
use Rattle.xp_script.specs.declared.command.Command.TheVariants as commands
use Rattle.xp_script.specs.Command.{reload_of, said}
use Rattle.xp_script.specs.NamedText.{CannotLay, LaysOver, NamedText, text_at}
use Rattle.xp_exchange.specs.FrameEvents.{Fits, ReadsEvents}
use Rattle.xp_exchange.specs.declared.next_tables.NextTables.{NextTables}
use Rattle.xp_exchange.specs.declared.fault.ReplayFault.{ReplayFault}
use Rattle.xp_exchange.specs.declared.fault.ReplayFault.TheVariants.{Script, Journal, Memory, Read, Write, Lay, Reload}

-- the octets of an unfinished frame on the connection of a line
abbrev pub unfinished_at : List (List ℕ) → ℕ → List ℕ
unfinished_at unfinished line = slice_index_or unfinished line []

-- the line is out of service
abbrev pub is_off_at : World → ℕ → Bool
is_off_at world line = is_off (state_at world line)

-- A connection begins: no frame on it is unfinished. A line in service keeps the connection that it has
abbrev pub risen : Bool → ℕ → List (List ℕ) → List (List ℕ)
risen true line unfinished = slice_set unfinished line []
risen false line unfinished = unfinished

-- The state between two lines of a script: the exchange, for each line the octets of an unfinished frame, the moment of
-- the events that follow, and the subscriptions that lines may bring into force.
pub record PlayState (A : Type 0) : Type 0 where
  pub exchange : Exchange A
  pub unfinished : List (List ℕ)
  pub moment : ℕ
  pub named : List NamedText

module _ {A : Type 0} where
  -- the tables in force
  abbrev pub force_in : Exchange A → Tables
  force_in exchange = in_force exchange.subs exchange.history

  abbrev pub event_of : ℕ → ℕ → What A → Event A
  event_of line moment what = record { line = line; moment = moment; what = what }

  -- each of these lines is given up
  abbrev pub stalls_at : ℕ → List ℕ → List (Event A)
  stalls_at moment lines = map (λ line. event_of line moment Stall) lines

  -- octets that come in on a line out of service are no event
  abbrev pub ReadsEventsAt : Bool → Modulus → ℕ → ℕ → List (List ℕ) → List ℕ → List (Event A) → List (List ℕ) → Type 0
  ReadsEventsAt true modulus line moment unfinished octets events after = (events ≡ []) × (after ≡ unfinished)
  ReadsEventsAt false modulus line moment unfinished octets events after =
      (kept : List ℕ) × ReadsEvents modulus line moment (unfinished_at unfinished line) octets events kept
      × (after ≡ slice_set unfinished line kept)

  -- The text of this number brings these tables: what it sets up, with its lines at the places of the exchange. They may come
  -- into force once these lines are given up, the lowest first.
  pub record Lays (exchange : Exchange A) (named : List NamedText) (number : ℕ) (laid : Tables) (going : List ℕ) : Type 0 where
    pub over : LaysOver (text_at named number) (force_in exchange) laid
    pub may : MayReplaceIn exchange laid
    pub goes : AreGoingFrom exchange laid going

  -- The events of a command, the octets of unfinished frames afterwards, and the tables that it brings. A line is read by its
  -- own modulus. Tables come into force behind the lines that are given up
  abbrev pub Plays : PlayState A → Command A → List (Event A) → List (List ℕ) → Option Tables → Type 0
  Plays state commands.Nothing events after brought = (events ≡ []) × (after ≡ state.unfinished) × (brought ≡ None)
  Plays state (commands.Up line) events after brought =
      (events ≡ event_of line state.moment Up ∷ [])
      × (after ≡ risen (is_off_at (world_of state.exchange) line) line state.unfinished) × (brought ≡ None)
  Plays state (commands.Down line) events after brought =
      (events ≡ event_of line state.moment Down ∷ []) × (after ≡ state.unfinished) × (brought ≡ None)
  Plays state (commands.Expire line) events after brought =
      (events ≡ event_of line state.moment TimerExpires ∷ []) × (after ≡ state.unfinished) × (brought ≡ None)
  Plays state (commands.In line octets) events after brought =
      ReadsEventsAt (is_off_at (world_of state.exchange) line) (modulus_of state.exchange.subs line) line state.moment
      state.unfinished octets events after × (brought ≡ None)
  Plays state (commands.At moment) events after brought = (events ≡ []) × (after ≡ state.unfinished) × (brought ≡ None)
  Plays state (commands.Reload number) events after brought =
      (laid : Tables) × (going : List ℕ) × Lays state.exchange state.named number laid going
      × (events ≡ stalls_at state.moment going ++ reload_at state.moment ∷ []) × (after ≡ state.unfinished) × (brought ≡ Some laid)

  -- the moment of the events that follow a command
  abbrev pub moment_after : ℕ → Command A → ℕ
  moment_after before (commands.At moment) = moment
  moment_after before command = before

module _ {A : Type 0} where
  -- the entries of a line that brings tables: its reload brings these, and no other entry brings any
  abbrev pub Brings : Option Tables → List (Entry A) → Type 0
  Brings None entries = Unit {0}
  Brings (Some laid) entries = AllByRecursion (λ (entry : Entry A). entry.tables.items ≡ brought_by entry.event.what laid) entries

  -- a new exchange
  abbrev pub opened : Tables → Exchange A
  opened tables = record { subs = tables; history = []; given = []; waiting = []; stalls = 0 }

  -- a script begins: no frame is unfinished, and the moment is 0
  abbrev pub start : Exchange A → List NamedText → PlayState A
  start exchange named =
      record { exchange = exchange; unfinished = replicate (line_count exchange.subs) []; moment = 0; named = named }

  -- The exchange acts on these events in turn, and enters one entry for each.
  pub record ActsOn (old : Exchange A) (events : List (Event A)) (new : Exchange A) : Type 0 where
    pub entries : List (Entry A)
    pub run : RunFrom old.subs old.history (world_of old) entries (world_of new)
    pub of_events : map (λ entry. entry.event) entries ≡ events
    pub history : new.history ≡ old.history ++ entries
    pub subs : new.subs ≡ old.subs
    -- the history had four places left for each of them
    pub room : (entries ≡ []) ⊎ (length new.history + 3 ≤ old.subs.journal)

  -- The exchange acts on one event, and enters this entry for it.
  pub record Enters (old : Exchange A) (event : Event A) (new : Exchange A) (entry : Entry A) : Type 0 where
    pub event_is : entry.event ≡ event
    pub acts : ActsOn old (event ∷ []) new
    pub history : new.history ≡ old.history ++ entry ∷ []

  -- why the exchange does not act on an event
  abbrev pub RefusesEvent : Exchange A → ReplayFault → Type 0
  RefusesEvent exchange Journal = exchange.subs.journal < length exchange.history + 4
  RefusesEvent exchange Memory = Unit {0}
  RefusesEvent exchange (Script number) = ⊥
  RefusesEvent exchange Read = ⊥
  RefusesEvent exchange Write = ⊥
  RefusesEvent exchange (Lay number tables) = ⊥
  RefusesEvent exchange (Reload number tables fault) = ⊥

  -- These tables come into force at this moment.
  pub record ComesIntoForce (old : Exchange A) (laid : Tables) (moment : ℕ) (new : Exchange A) : Type 0 where
    pub entry : Entry A
    pub enters : Enters old (reload_at moment) new entry
    pub entries : enters.acts.entries ≡ entry ∷ []
    pub brought : entry.tables.items ≡ laid ∷ []
    -- nothing is put out, and no call ends
    pub quiet : entry.outputs ≡ []
    pub uncharged : entry.records.items ≡ []

  -- One line of a script is read, which brings no tables: these are its events. The exchange has acted on none of them yet.
  pub record ReadsLine (old : PlayState A) (line : List ℕ) (events : List (Event A)) (new : PlayState A) : Type 0 where
    pub command : Command A
    pub says : said (force_in old.exchange) old.named line ≡ Some command
    pub brings_none : reload_of command ≡ None
    pub plays : Plays old command events new.unfinished None
    pub moment : new.moment ≡ moment_after old.moment command
    pub exchange : new.exchange ≡ old.exchange
    pub named : new.named ≡ old.named

  -- these tables may come into force now: four places of the history are left
  abbrev pub MayCome : Exchange A → Tables → Type 0
  MayCome exchange laid =
      MayFollow (force_in exchange) (world_of exchange) laid × (length exchange.history + 4 ≤ exchange.subs.journal)

  -- One line of a script is read, which brings tables: these events give the lines up that go. The exchange has acted on none
  -- of them yet. Behind them the tables may come into force.
  pub record BringsLine (old : PlayState A) (line : List ℕ) (events : List (Event A)) (next : NextTables) : Type 0 where
    pub says : said {A = A} (force_in old.exchange) old.named line ≡ Some (commands.Reload next.number)
    pub known : next.number < length old.named
    pub going : List ℕ
    pub lays : Lays old.exchange old.named next.number next.subs going
    pub gives_up : events ≡ stalls_at old.moment going
    pub comes : (after : Exchange A) → ActsOn old.exchange events after → MayCome after next.subs

  -- what comes of reading a line: events on which the exchange can act, and the tables that come into force behind them
  abbrev pub LineRead : PlayState A → List ℕ → List (Event A) → PlayState A → Option NextTables → Type 0
  LineRead old line events new None = ReadsLine old line events new × All (Fits old.exchange.subs) events
  LineRead old line events new (Some next) = BringsLine old line events next × (new ≡ old) × All (Fits old.exchange.subs) events

  -- the line would bring the tables of this number
  abbrev pub AsksFor : PlayState A → List ℕ → ℕ → Type 0
  AsksFor old line number = said {A = A} (force_in old.exchange) old.named line ≡ Some (commands.Reload number)

  -- The text of this number brings tables that cannot come into force now, whichever lines are given up.
  pub record IsRefusedText (exchange : Exchange A) (named : List NamedText) (number : ℕ) (fault : ReloadFault) : Type 0 where
    pub laid : Tables
    pub over : LaysOver (text_at named number) (force_in exchange) laid
    pub refused : IsLastingRefusal (force_in exchange) (world_of exchange) laid fault

  -- a line of the tables of this number has no place
  abbrev pub HasNoPlaces : Exchange A → List NamedText → ℕ → Type 0
  HasNoPlaces exchange named number = (fault : LayFault) × CannotLay (text_at named number) (force_in exchange) fault

  -- One line of a script is played to its end.
  pub record PlaysLine (old : PlayState A) (line : List ℕ) (new : PlayState A) : Type 0 where
    pub command : Command A
    pub says : said (force_in old.exchange) old.named line ≡ Some command
    pub events : List (Event A)
    pub brought : Option Tables
    pub plays : Plays old command events new.unfinished brought
    pub moment : new.moment ≡ moment_after old.moment command
    pub acts : ActsOn old.exchange events new.exchange
    pub brings : Brings brought acts.entries
    pub named : new.named ≡ old.named

  -- One line of a script is played in part: its first events are acted on. They may be none, and they may be all.
  pub record BeginsLine (old : PlayState A) (line : List ℕ) (new : Exchange A) : Type 0 where
    pub command : Command A
    pub says : said (force_in old.exchange) old.named line ≡ Some command
    pub events : List (Event A)
    pub after : List (List ℕ)
    pub brought : Option Tables
    pub plays : Plays old command events after brought
    pub first : List (Event A)
    pub later : List (Event A)
    pub in_order : events ≡ first ++ later
    pub acts : ActsOn old.exchange first new
    pub brings : Brings brought acts.entries

  -- the history has fewer than four places left for the next of these events; where tables are brought, fewer than that and one
  -- for each of the others
  abbrev pub LacksPlaces : Option Tables → Exchange A → List (Event A) → Type 0
  LacksPlaces None exchange later = (0 < length later) × (exchange.subs.journal < length exchange.history + 4)
  LacksPlaces (Some laid) exchange later =
      (0 < length later) × (exchange.subs.journal < length exchange.history + (length later + 3))

  -- why the line of this number is not read
  abbrev pub RefusesLine : PlayState A → ℕ → List ℕ → ReplayFault → Type 0
  RefusesLine old number line (Script found) =
      (found ≡ number) × (said {A = A} (force_in old.exchange) old.named line ≡ None)
  RefusesLine old number line Memory = Unit {0}
  RefusesLine old number line Journal =
      (begun : BeginsLine old line old.exchange) × LacksPlaces begun.brought old.exchange begun.later
  RefusesLine old number line (Lay found tables) =
      (found ≡ number) × AsksFor old line tables × HasNoPlaces old.exchange old.named tables
  RefusesLine old number line (Reload found tables fault) =
      (found ≡ number) × AsksFor old line tables × IsRefusedText old.exchange old.named tables fault
  RefusesLine old number line Read = ⊥
  RefusesLine old number line Write = ⊥

  -- The lines of a script are played in turn. The list has the latest first
  abbrev pub PlaysAll : PlayState A → List (List ℕ) → PlayState A → Type 0
  PlaysAll old [] new = new ≡ old
  PlaysAll old (line ∷ earlier) new = (before : PlayState A) × PlaysAll old earlier before × PlaysLine before line new
