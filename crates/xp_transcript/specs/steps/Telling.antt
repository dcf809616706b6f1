-- What private functions promise of telling events, and one line.
use Rattle.std.specs.Prelude.{◌≡◌, ℕ, List, [], Result, Ok, Err, length, take}
use Rattle.xp_step.specs.declared.entry.Entry.{Entry}
use Rattle.xp_step.specs.declared.event.Event.{Event}
use Rattle.xp_exchange.specs.declared.fault.ReplayFault.{ReplayFault}
use Rattle.xp_exchange.specs.declared.fault.ReplayFault.TheVariants.{Script, Journal, Memory, Read, Write, Lay, Reload}
use Rattle.xp_exchange.specs.Play.{ActsOn, ComesIntoForce, PlaysLine, force_in}
use Rattle.xp_exchange.specs.declared.next_tables.NextTables.{NextTables}
use Rattle.xp_transcript.specs.Telling.{IsTold, IsToldInPart, IsUntold, StopsAt, TellState}
use Rattle.xp_transcript.specs.Transcript.{entry_told, front_of, teller_after}
use Rattle.xp_transcript.specs.declared.form.Form.{Form}
use Rattle.xp_transcript.specs.declared.teller.Teller.{Teller}
use Rattle.xp_transcript.specs.declared.teller.Teller.TheVariants as tellers

-- it knows the connections of so many lines, where it tells of connections
abbrev pub IsFor : ℕ → Teller → Type 0
IsFor count tellers.Words = Unit {0}
IsFor count (tellers.Ladder ladder) = Unit {0}
IsFor count (tellers.Capture flows) = length flows ≡ count

-- why a script is not read
abbrev pub IsUnread : ReplayFault → Type 0
IsUnread Read = Unit {0}
IsUnread Memory = Unit {0}
IsUnread Write = ⊥
IsUnread Journal = ⊥
IsUnread (Script number) = ⊥
IsUnread (Lay number tables) = ⊥
IsUnread (Reload number tables fault) = ⊥

-- what stands in front of all entries is written
abbrev pub WritesFront : Form → Result (Unit {0}) ReplayFault → List ℕ → Type 0
WritesFront form (Ok done) text = text ≡ front_of form
WritesFront form (Err fault) text = IsUntold form fault text

module _ {A : Type 0} where
  -- The exchange acts on these events, and their entries are told. Nothing else has changed.
  pub record TellsEach (old : TellState A) (events : List (Event A)) (new : TellState A) (text : List ℕ) : Type 0 where
    pub acts : ActsOn old.play.exchange events new.play.exchange
    pub told : IsTold old.play.exchange old.teller new.play.exchange new.teller text
    pub kept : new.play ≡ record old.play { exchange = new.play.exchange }

  -- what telling events answers, and what is told of them
  abbrev pub TellsEvents : TellState A → List (Event A) → Result (Unit {0}) ReplayFault → TellState A → List ℕ → Type 0
  TellsEvents old events (Ok done) new text = TellsEach old events new text
  TellsEvents old events (Err (Script number)) new text = ⊥
  TellsEvents old events (Err Read) new text = ⊥
  TellsEvents old events (Err (Lay number tables)) new text = ⊥
  TellsEvents old events (Err (Reload number tables fault)) new text = ⊥
  TellsEvents old events (Err fault) new text = IsToldInPart old.play.exchange old.teller events text

  -- what telling that these tables come into force under this name answers, and what is told of it
  abbrev pub TellsNext : TellState A → NextTables → List ℕ → Result (Unit {0}) ReplayFault → TellState A → List ℕ → Type 0
  TellsNext old next name (Ok done) new text =
      (comes : ComesIntoForce old.play.exchange next.subs old.play.moment new.play.exchange)
      × (text ≡ entry_told (force_in old.play.exchange) old.teller name comes.entry)
      × (new.play ≡ record old.play { exchange = new.play.exchange })
      × (new.teller ≡ teller_after (force_in old.play.exchange) old.teller comes.entry)
  TellsNext old next name (Err Memory) new text = text ≡ []
  TellsNext old next name (Err Write) new text =
      (comes : ComesIntoForce old.play.exchange next.subs old.play.moment new.play.exchange)
      × (count : ℕ) × (text ≡ take count (entry_told (force_in old.play.exchange) old.teller name comes.entry))
  TellsNext old next name (Err fault) new text = ⊥

  -- The line is played, and the entries that it makes are told.
  pub record TellsWhole (old : TellState A) (line : List ℕ) (new : TellState A) (text : List ℕ) : Type 0 where
    pub plays : PlaysLine old.play line new.play
    pub told : IsTold old.play.exchange old.teller new.play.exchange new.teller text

  -- what telling the line of this number answers, and what is told of it
  abbrev pub TellsLine : TellState A → ℕ → List ℕ → Result (Unit {0}) ReplayFault → TellState A → List ℕ → Type 0
  TellsLine old number line (Ok done) new text = TellsWhole old line new text
  TellsLine old number line (Err fault) new text = StopsAt old number line fault text
