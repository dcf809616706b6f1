-- The events of octets that come in on a line: one for each frame, and that the line goes down at a bad header.
use Rattle.std.specs.Prelude.{◌≡◌, ◌<◌, ℕ, Bool, true, false, List, [], ◌∷◌, ◌++◌}
use Rattle.xp_packets.specs.Examination.{IsMalformed}
use Rattle.xp_packets.specs.Spelling.{Spells}
use Rattle.xp_packets.specs.declared.modulus.Modulus.{Modulus}
use Rattle.xp_frames.specs.declared.fault.FrameFault.{FrameFault}
use Rattle.xp_frames.specs.Frame.{Stream, BadHeader, HasNoBadHeader}
use Rattle.xp_subs.specs.Tables.{Tables, line_count}
use Rattle.xp_step.specs.Exchange.{IsReadable}
use Rattle.xp_step.specs.declared.event.Event.{Event}
use Rattle.xp_step.specs.declared.event.What.{What}
use Rattle.xp_step.specs.declared.event.What.TheVariants.{Up, Down, Frame, WrongFrame, Expire, Stall, Reload}

module _ {A : Type 0} where
  -- the event brings other tables
  abbrev pub brings_tables : What A → Bool
  brings_tables Reload = true
  brings_tables what = false

  -- what can happen on a line: a frame is one that can be read, and a reload is no line's
  abbrev pub CanCome : What A → Type 0
  CanCome what = IsReadable what × (brings_tables what ≡ false)

  -- an event that the exchange of these subscriptions takes
  abbrev pub Fits : Tables → Event A → Type 0
  Fits tables event = (event.line < line_count tables) × CanCome event.what

  -- what a frame with these octets is to the exchange, by the modulus of its line: a packet, or a frame that holds none
  abbrev pub IsReadAs : Modulus → List ℕ → What A → Type 0
  IsReadAs modulus packet (Frame identifier read) = Spells modulus packet identifier read
  IsReadAs modulus packet (WrongFrame wrong) = IsMalformed modulus packet wrong
  IsReadAs modulus packet Up = ⊥
  IsReadAs modulus packet Down = ⊥
  IsReadAs modulus packet Expire = ⊥
  IsReadAs modulus packet Stall = ⊥
  IsReadAs modulus packet Reload = ⊥

  -- one event of the line, at this moment, for the octets of each frame, in order
  abbrev pub AreRead : Modulus → ℕ → ℕ → List (List ℕ) → List (Event A) → Type 0
  AreRead modulus line moment [] [] = Unit {0}
  AreRead modulus line moment (packet ∷ packets) (event ∷ events) =
      (event.line ≡ line) × (event.moment ≡ moment) × IsReadAs modulus packet event.what
      × AreRead modulus line moment packets events
  AreRead modulus line moment [] (event ∷ events) = ⊥
  AreRead modulus line moment (packet ∷ packets) [] = ⊥

  -- Octets are left after the last whole frame. If they begin with a bad header, the line goes down and none is kept.
  -- If not, they begin the next frame and all are kept
  abbrev pub LeavesOff : ℕ → ℕ → List ℕ → List (Event A) → List ℕ → Type 0
  LeavesOff line moment left [] kept = HasNoBadHeader left × (kept ≡ left)
  LeavesOff line moment left (event ∷ []) kept =
      ((fault : FrameFault) × BadHeader left fault) × (event ≡ record { line = line; moment = moment; what = Down })
      × (kept ≡ [])
  LeavesOff line moment left (event ∷ other ∷ events) kept = ⊥

  -- Octets come in on a line of this modulus at this moment, after those of an unfinished frame: their events, and the
  -- octets that are kept.
  pub record ReadsEvents (modulus : Modulus) (line moment : ℕ) (unfinished octets : List ℕ) (events : List (Event A)) (kept : List ℕ) : Type 0 where
    pub packets : List (List ℕ)
    pub left : List ℕ
    pub stream : Stream (unfinished ++ octets) packets left
    pub frames : List (Event A)
    pub last : List (Event A)
    pub events_are : events ≡ frames ++ last
    pub each : AreRead modulus line moment packets frames
    pub ends : LeavesOff line moment left last kept
