-- What is told of a script: the entries of the history that its lines make, in turn, up to the first fault.
use Rattle.std.specs.Prelude.{◌≡◌, ◌⊎◌, ◌+◌, ◌==◌, ℕ, Bool, List, [], ◌∷◌, ◌++◌, length, take, Option, None, Some, Result, Ok, Err}
use Rattle.std.specs.List.{slice_split}
use Rattle.xp_subs.specs.Tables.{Tables, line_count}
use Rattle.xp_step.specs.declared.event.Event.{Event}
use Rattle.xp_step.specs.Exchange.{Exchange}
use Rattle.xp_script.specs.declared.command.Command.{Command}
use Rattle.xp_script.specs.Command.{said}
use Rattle.xp_script.specs.NamedText.{NamedText}
use Rattle.xp_exchange.specs.declared.fault.ReplayFault.{ReplayFault}
use Rattle.xp_exchange.specs.declared.fault.ReplayFault.TheVariants.{Script, Journal, Memory, Read, Write, Lay, Reload}
use Rattle.xp_exchange.specs.Play.{ActsOn, AsksFor, Brings, HasNoPlaces, IsRefusedText, PlayState, PlaysAll, Plays, force_in, opened, start}
use Rattle.xp_transcript.specs.declared.form.Form.{Form}
use Rattle.xp_transcript.specs.declared.teller.Teller.{Teller}
use Rattle.xp_transcript.specs.Transcript.{ToldEntry, entries_of, first_teller, front_of, teller_behind, transcript}

-- the lines of a script, without their line feeds
abbrev pub is_feed : ℕ → Bool
is_feed octet = octet == 10

abbrev pub lines_of : List ℕ → List (List ℕ)
lines_of script = slice_split is_feed script

-- these lines, of which the list has the latest first, and then more
abbrev pub onto : List (List ℕ) → List (List ℕ) → List (List ℕ)
onto [] more = more
onto (line ∷ earlier) more = onto earlier (line ∷ more)

-- The state between two lines: that of the exchange and its script, and how the next entry is told.
pub record TellState (A : Type 0) : Type 0 where
  pub play : PlayState A
  pub teller : Teller

module _ {A : Type 0} where
  -- The text is the entries from the old exchange to the new, each told in turn.
  pub record IsTold (old : Exchange A) (teller : Teller) (new : Exchange A) (behind : Teller) (text : List ℕ) : Type 0 where
    pub told : List (ToldEntry A)
    pub history : new.history ≡ old.history ++ entries_of told
    pub text_is : text ≡ transcript (force_in old) teller told
    pub behind_is : behind ≡ teller_behind (force_in old) teller told

  -- The exchange acts on the first of these events: none, some or all. The text is a front of what is told of their entries.
  pub record IsToldInPart (old : Exchange A) (teller : Teller) (events : List (Event A)) (text : List ℕ) : Type 0 where
    pub first : List (Event A)
    pub later : List (Event A)
    pub in_order : events ≡ first ++ later
    pub after : Exchange A
    pub acts : ActsOn old first after
    pub behind : Teller
    pub whole : List ℕ
    pub told : IsTold old teller after behind whole
    pub count : ℕ
    pub front : text ≡ take count whole

  -- The line is read, and its events are told in part.
  pub record TellsInPart (at : TellState A) (line own : List ℕ) : Type 0 where
    pub command : Command A
    pub says : said (force_in at.play.exchange) at.play.named line ≡ Some command
    pub events : List (Event A)
    pub after : List (List ℕ)
    pub brought : Option Tables
    pub plays : Plays at.play command events after brought
    pub part : IsToldInPart at.play.exchange at.teller events own
    pub brings : Brings brought part.acts.entries

  -- why it stops at the line of this number, and what is told of that line
  abbrev pub StopsAt : TellState A → ℕ → List ℕ → ReplayFault → List ℕ → Type 0
  StopsAt at number line (Script found) own = (found ≡ number) × (said {A = A} (force_in at.play.exchange) at.play.named line ≡ None) × (own ≡ [])
  StopsAt at number line Memory own = (own ≡ []) ⊎ TellsInPart at line own
  StopsAt at number line Journal own = TellsInPart at line own
  StopsAt at number line Write own = TellsInPart at line own
  StopsAt at number line (Lay found tables) own =
      (found ≡ number) × AsksFor at.play line tables × HasNoPlaces at.play.exchange at.play.named tables × (own ≡ [])
  StopsAt at number line (Reload found tables fault) own =
      (found ≡ number) × AsksFor at.play line tables × IsRefusedText at.play.exchange at.play.named tables fault × (own ≡ [])
  StopsAt at number line Read own = ⊥

  -- All lines of the script are played and told.
  pub record TellsAll (first : TellState A) (script text : List ℕ) : Type 0 where
    -- the latest first
    pub lines : List (List ℕ)
    pub all : lines_of script ≡ onto lines []
    pub after : TellState A
    pub played : PlaysAll first.play lines after.play
    pub told : IsTold first.play.exchange first.teller after.play.exchange after.teller text

  -- The lines before one of them are played and told whole. It stops at that line.
  pub record TellsUntil (first : TellState A) (script : List ℕ) (fault : ReplayFault) (text : List ℕ) : Type 0 where
    pub lines : List (List ℕ)
    pub line : List ℕ
    pub more : List (List ℕ)
    pub all : lines_of script ≡ onto lines (line ∷ more)
    pub at : TellState A
    pub played : PlaysAll first.play lines at.play
    pub earlier : List ℕ
    pub told : IsTold first.play.exchange first.teller at.play.exchange at.teller earlier
    pub own : List ℕ
    pub text_is : text ≡ earlier ++ own
    pub why : StopsAt at (length lines + 1) line fault own

  abbrev pub TellsScript : TellState A → List ℕ → Result (Unit {0}) ReplayFault → List ℕ → Type 0
  TellsScript first script (Ok done) text = TellsAll first script text
  TellsScript first script (Err fault) text = TellsUntil first script fault text

  -- nothing was played yet
  abbrev pub first_state : Form → Tables → List NamedText → TellState A
  first_state form tables named = record { play = start (opened tables) named; teller = first_teller form (line_count tables) }

-- nothing of the script is told: it cannot be read, no memory was left, or the writer fails at what stands in front
abbrev pub IsUntold : Form → ReplayFault → List ℕ → Type 0
IsUntold form Read text = text ≡ []
IsUntold form Memory text = text ≡ []
IsUntold form Write text = (count : ℕ) × (text ≡ take count (front_of form))
IsUntold form (Script number) text = ⊥
IsUntold form Journal text = ⊥
IsUntold form (Lay number tables) text = ⊥
IsUntold form (Reload number tables fault) text = ⊥

module _ {A : Type 0} where
  -- The script is told behind what stands in front. At the end the writer may fail to hand on what it took.
  pub record IsTranscript (form : Form) (first : TellState A) (script : List ℕ) (result : Result (Unit {0}) ReplayFault) (text : List ℕ) : Type 0 where
    pub ended : Result (Unit {0}) ReplayFault
    pub own : List ℕ
    pub text_is : text ≡ front_of form ++ own
    pub tells : TellsScript first script ended own
    pub flushed : (result ≡ ended) ⊎ ((ended ≡ Ok tt) × (result ≡ Err Write))

  -- what telling a script from this state answers, and what it writes
  abbrev pub TranscribesFrom : Form → TellState A → List ℕ → Result (Unit {0}) ReplayFault → List ℕ → Type 0
  TranscribesFrom form first script (Ok done) text = IsTranscript form first script (Ok done) text
  TranscribesFrom form first script (Err fault) text = IsUntold form fault text ⊎ IsTranscript form first script (Err fault) text

-- what `tell` answers for a script that may name these texts, and what it writes
abbrev pub Transcribes : (A : Type 0) → Form → Tables → List NamedText → List ℕ → Result (Unit {0}) ReplayFault → List ℕ → Type 0
Transcribes A form tables named script result text =
    TranscribesFrom form (first_state {A = A} form tables named) script result text
