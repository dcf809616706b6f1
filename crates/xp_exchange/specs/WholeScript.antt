-- What is written for a whole script, and for one that stops at a fault.
use Rattle.std.specs.Prelude.{◌≡◌, ℕ, ◌+◌, ◌<◌, ◌⊎◌, List, [], ◌∷◌, ◌++◌, length, take, Option, None, Some, Result, Ok, Err}
use Rattle.std.specs.List.{AllByRecursion}
use Rattle.xp_subs.specs.Tables.{Tables}
use Rattle.xp_step.specs.declared.entry.Entry.{Entry}
use Rattle.xp_step.specs.declared.event.Event.{Event}
use Rattle.xp_step.specs.Exchange.{Exchange}
use Rattle.xp_script.specs.Command.{said, longest}
use Rattle.xp_script.specs.NamedText.{NamedText}
use Rattle.xp_script.specs.Text.{text_of}
use Rattle.xp_exchange.specs.declared.fault.ReplayFault.{ReplayFault}
use Rattle.xp_exchange.specs.declared.fault.ReplayFault.TheVariants.{Script, Journal, Memory, Read, Write, Lay, Reload}
use Rattle.xp_exchange.specs.Play.{AsksFor, BeginsLine, HasNoPlaces, IsRefusedText, LacksPlaces, PlayState, PlaysAll, force_in, opened, start}
use Rattle.xp_exchange.specs.Splitting.{IsSplit, joined, HasNoFeed, EndsLine}

-- The line is over and says nothing that a script may say, or what was read of it is too long already
abbrev pub IsFaulty : (A : Type 0) → Tables → List NamedText → List ℕ → List ℕ → Type 0
IsFaulty A tables named line more = (EndsLine more × (said {A = A} tables named line ≡ None)) ⊎ (longest < length line)

module _ {A : Type 0} where
  -- The text is that of all entries from the old exchange to the new.
  pub record IsWritten (old new : Exchange A) (text : List ℕ) : Type 0 where
    pub entries : List (Entry A)
    pub history : new.history ≡ old.history ++ entries
    pub text_is : text ≡ text_of (force_in old) entries

  -- The same, but the text of the last entry is missing, and there is such an entry.
  pub record IsWrittenButLast (old new : Exchange A) (text : List ℕ) : Type 0 where
    pub entries : List (Entry A)
    pub last : Entry A
    pub history : new.history ≡ old.history ++ (entries ++ last ∷ [])
    pub text_is : text ≡ text_of (force_in old) entries

  -- The text is a prefix of that of all entries.
  pub record IsWrittenInPart (old new : Exchange A) (text : List ℕ) : Type 0 where
    pub whole : List ℕ
    pub told : IsWritten old new whole
    pub count : ℕ
    pub front : text ≡ take count whole

  -- No memory was found while these later events were left.
  -- Either there was none for the next of them: that step was refused, and all text is written.
  -- Or there was none for the text of the last entry: that text is missing, and no other
  abbrev pub FindsNoMemory : Exchange A → List (Event A) → Exchange A → List ℕ → Type 0
  FindsNoMemory old later new text = ((0 < length later) × IsWritten old new text) ⊎ IsWrittenButLast old new text

  -- nothing of the line was done, and nothing was written for it
  abbrev pub StopsBeforeLine : PlayState A → Exchange A → List ℕ → Type 0
  StopsBeforeLine at after own = (after ≡ at.exchange) × (own ≡ [])

  -- The line is over, and its first events were acted on: none, some or all of them.
  pub record StopsWithinLine (at : PlayState A) (line more : List ℕ) (after : Exchange A) : Type 0 where
    pub over : EndsLine more
    pub begun : BeginsLine at line after

  -- why it stopped at a line of this number, of which `more` follows what was read: by what the reader has left, the
  -- exchange afterwards, and what was written for this line
  abbrev pub StopsAt : PlayState A → List ℕ → List ℕ → ℕ → ReplayFault → Option (List ℕ) → Exchange A → List ℕ → Type 0
  StopsAt at line more number (Script found) left after own =
      (found ≡ number) × IsFaulty A (force_in at.exchange) at.named line more × StopsBeforeLine at after own
  StopsAt at line more number Read left after own = (left ≡ Some more) × StopsBeforeLine at after own
  StopsAt at line more number Memory left after own =
      StopsBeforeLine at after own
      ⊎ ((within : StopsWithinLine at line more after) × FindsNoMemory at.exchange within.begun.later after own)
  StopsAt at line more number Journal left after own =
      (within : StopsWithinLine at line more after) × IsWritten at.exchange after own
      × LacksPlaces within.begun.brought after within.begun.later
  StopsAt at line more number Write left after own =
      StopsWithinLine at line more after × IsWrittenInPart at.exchange after own
  StopsAt at line more number (Lay found tables) left after own =
      (found ≡ number) × EndsLine more × AsksFor at line tables × HasNoPlaces at.exchange at.named tables × StopsBeforeLine at after own
  StopsAt at line more number (Reload found tables fault) left after own =
      (found ≡ number) × EndsLine more × AsksFor at line tables × IsRefusedText at.exchange at.named tables fault × StopsBeforeLine at after own

  -- Whole lines were played, the first of this number, and all their text is written, whatever the fault.
  -- It stopped at the next line, of which `line` was read.
  pub record Stops (first : PlayState A) (number : ℕ) (octets : List ℕ) (fault : ReplayFault) (left : Option (List ℕ)) (after : Exchange A) (text : List ℕ) : Type 0 where
    pub lines : List (List ℕ)
    pub line : List ℕ
    pub more : List ℕ
    pub whole : octets ≡ joined lines ++ (line ++ more)
    pub each : AllByRecursion HasNoFeed lines
    pub no_feed : HasNoFeed line
    pub at : PlayState A
    pub played : PlaysAll first lines at
    -- the text of the lines before, which is whole, and what is written of this line's
    pub earlier : List ℕ
    pub own : List ℕ
    pub text_is : text ≡ earlier ++ own
    pub told : IsWritten first.exchange at.exchange earlier
    pub why : StopsAt at line more (number + length lines) fault left after own

  -- All lines were played, and all their text is written. The last line may lack its line feed.
  pub record PlaysOut (first : PlayState A) (octets : List ℕ) (after : Exchange A) (text : List ℕ) : Type 0 where
    pub lines : List (List ℕ)
    pub last : List ℕ
    pub split : IsSplit octets lines last
    pub at : PlayState A
    pub played : PlaysAll first (last ∷ lines) at
    pub after_is : after ≡ at.exchange
    pub told : IsWritten first.exchange after text

  -- what `replay_on` returns for a script that may name these texts, what the reader has left, the exchange afterwards,
  -- and what is written
  abbrev pub Replays : Exchange A → List NamedText → List ℕ → Result (Unit {0}) ReplayFault → Option (List ℕ) → Exchange A → List ℕ → Type 0
  Replays old named script (Ok done) left after text = (left ≡ Some []) × PlaysOut (start old named) script after text
  Replays old named script (Err fault) left after text = Stops (start old named) 1 script fault left after text

-- The same for `replay`, which opens the exchange. Its caller sees neither that exchange nor the reader afterwards.
pub record ReplaysAlone (A : Type 0) (tables : Tables) (named : List NamedText) (script : List ℕ) (result : Result (Unit {0}) ReplayFault) (text : List ℕ) : Type 0 where
  pub left : Option (List ℕ)
  pub after : Exchange A
  pub replays : Replays (opened tables) named script result left after text
