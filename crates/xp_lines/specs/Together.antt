-- What all turns of a line on one link add up to.
use Rattle.std.specs.Prelude.{◌≡◌, ◌⊎◌, ℕ, ◌+◌, ◌≤◌, ◌==◌, Bool, true, false, cond, List, [], ◌∷◌, ◌++◌, filter, map, Option, None, Some}
use Rattle.std.specs.Io.KnownBytes.{Appends}
use Rattle.xp_frames.specs.Frame.{HasNoBadHeader}
use Rattle.xp_step.specs.declared.entry.Entry.{Entry}
use Rattle.xp_step.specs.declared.event.What.{What}
use Rattle.xp_step.specs.declared.event.What.TheVariants.{Up, Down, Frame, WrongFrame, Expire, Stall, Reload}
use Rattle.xp_packets.specs.declared.modulus.Modulus.{Modulus}
use Rattle.xp_packets.specs.declared.packet.Packet.{Packet}
use Rattle.xp_packets.specs.declared.packet.Packet.TheVariants as packets
use Rattle.xp_step.specs.declared.output.Outgoing.{Outgoing}
use Rattle.xp_step.specs.declared.output.Put.{Put}
use Rattle.xp_step.specs.declared.output.Put.TheVariants.{Send, Close}
use Rattle.xp_lock.specs.Passes.{Pass, own_entries}
use Rattle.xp_lines.specs.FrameEvents.{AreReadAs}
use Rattle.xp_lines.specs.Offers.{happened, on_line}
use Rattle.xp_lines.specs.Reads.{Completes}
use Rattle.xp_lines.specs.Turns.{IsTurn, Seen}
use Rattle.xp_lines.specs.Wire.{NoneCloses, wire}
use Rattle.xp_lines.specs.declared.turning.TurnOutcome.{TurnOutcome}
use Rattle.xp_lines.specs.declared.turning.TurnOutcome.TheVariants.{Linked, Dropped, DownOwed, Halted, Journal}

-- how a turn left its line
pub record Left (A : Type 0) : Type 0 where
  pub after : TurnOutcome
  pub pass : Pass A
  pub seen : Seen

abbrev pub is_linked : TurnOutcome → Bool
is_linked Linked = true
is_linked Dropped = false
is_linked DownOwed = false
is_linked Halted = false
is_linked Journal = false

-- how many incoming calls wait for the line's answer: none or one
abbrev pub waits : Option ℕ → ℕ
waits None = 0
waits (Some since) = 1

-- The link has just come: no octet was read, nothing waits, and no call waits for its answer.
pub record IsFresh (seen : Seen) : Type 0 where
  pub owed : seen.owed ≡ false
  pub waiting : seen.frames.waiting ≡ []
  pub rest : seen.frames.rest ≡ []
  pub unwritten : seen.unwritten ≡ []
  pub unanswered_since : seen.unanswered_since ≡ None

module _ {A : Type 0} where
  -- Turns may follow where the link stays, or where its Down waits to be offered. Else the turn was the last.
  abbrev pub MayFollow : TurnOutcome → List (Left A) → Type 0
  MayFollow Linked turns = Unit {0}
  MayFollow DownOwed turns = Unit {0}
  MayFollow Dropped turns = turns ≡ []
  MayFollow Halted turns = turns ≡ []
  MayFollow Journal turns = turns ≡ []

  -- each turn starts where the one before left the line
  abbrev pub AreTurns : Modulus → ℕ → Pass A → Seen → List (Left A) → Type 0
  AreTurns modulus connection pass seen [] = Unit {0}
  AreTurns modulus connection pass seen (left ∷ turns) =
      ((now : ℕ) × (wanting : Bool) × IsTurn modulus now connection pass seen left.after wanting left.pass left.seen) × MayFollow left.after turns × AreTurns modulus connection left.pass left.seen turns

  -- how the last turn left the line; without a turn, how the line was at first
  abbrev pub last_of : Left A → List (Left A) → Left A
  last_of came [] = came
  last_of came (left ∷ turns) = last_of left turns

  -- any event but the expiry of an incoming call, which no octets bring
  abbrev pub is_no_expiry : What A → Bool
  is_no_expiry Up = true
  is_no_expiry Down = true
  is_no_expiry (Frame identifier packet) = true
  is_no_expiry (WrongFrame wrong) = true
  is_no_expiry Expire = false
  is_no_expiry Stall = true
  is_no_expiry Reload = true

  -- the events without the expiries
  abbrev pub but_expiries : List (What A) → List (What A)
  but_expiries whats = filter is_no_expiry whats

  -- how many of the events are expiries
  abbrev pub expiries : List (What A) → ℕ
  expiries [] = 0
  expiries (what ∷ whats) = cond (is_no_expiry what) 0 1 + expiries whats

  abbrev pub calls_of : Packet A → ℕ
  calls_of (packets.Call d block) = 1
  calls_of packet = 0

  abbrev pub calls_by : Put A → ℕ
  calls_by (Send identifier packet) = calls_of packet
  calls_by Close = 0

  -- how many incoming calls of this connection are among the outputs
  abbrev pub calls : ℕ → List (Outgoing A) → ℕ
  calls connection [] = 0
  calls connection (item ∷ items) = cond (item.connection == connection) (calls_by item.put) 0 + calls connection items

  -- the link's Down, once, or not yet
  abbrev pub IsClosing : List (What A) → Type 0
  IsClosing closing = (closing ≡ []) ⊎ (closing ≡ Down ∷ [])

  -- Since its link came the line took these outputs, and their octets were pushed. These octets were pulled, which are the
  -- frames of packets. Each packet in order is an event that the line's own entries have. Between them stand expiries, no more
  -- than incoming calls, and last the Down. While the link stays nothing is lost: what is not yet pushed, read or offered waits.
  -- And then no output closed the connection, and no bad header came.
  pub record Together (modulus : Modulus) (connection : ℕ) (old : Pass A) (came : Seen) (linked : Bool) (new : Pass A) (now : Seen) : Type 0 where
    pub line : new.line ≡ old.line
    pub items : List (Outgoing A)
    pub taken : new.taken ≡ old.taken ++ items
    pub pushed : List ℕ
    pub pushes : Appends came.pushed now.pushed pushed
    pub unsent : List ℕ
    pub written : wire modulus connection items ≡ (pushed ++ now.unwritten) ++ unsent
    pub pulled : List ℕ
    pub pulls : Appends came.pulled now.pulled pulled
    pub fed : List ℕ
    pub lost : List ℕ
    pub pulled_are : pulled ≡ fed ++ lost
    pub packets : List (List ℕ)
    pub rest : List ℕ
    pub completes : Completes [] fed packets rest
    pub taken_up : List (List ℕ)
    pub unread : List (List ℕ)
    pub packets_are : packets ≡ taken_up ++ unread
    pub read : List (What A)
    pub read_as : AreReadAs modulus taken_up read
    pub whats : List (What A)
    pub unoffered : List (What A)
    pub in_order : read ≡ but_expiries whats ++ unoffered
    pub closing : List (What A)
    pub is_closing : IsClosing closing
    -- no more expiries than incoming calls, of which one may still wait
    pub expire_once : expiries whats ≤ calls connection items
    pub may_expire : linked ≡ true → expiries whats + waits now.unanswered_since ≤ calls connection items
    pub entries : List (Entry A)
    pub own_entries_are : own_entries new ≡ own_entries old ++ entries
    pub events : map happened entries ≡ map (on_line old.line) (whats ++ closing)
    pub none_closes : linked ≡ true → NoneCloses connection items
    pub sound : linked ≡ true → HasNoBadHeader now.frames.rest
    pub kept : linked ≡ true → (unsent ≡ []) × (lost ≡ []) × (rest ≡ now.frames.rest) × (unread ≡ now.frames.waiting) × (unoffered ≡ []) × (closing ≡ [])

  -- the turns up to this one add up
  abbrev pub IsLeftSo : Modulus → ℕ → Pass A → Seen → Left A → Type 0
  IsLeftSo modulus connection pass came last = Together modulus connection pass came (is_linked last.after) last.pass last.seen

-- The turns on a link add up, from when it came to how the last of them left it.
abbrev pub TurnsAddUp : Type 0 → Type 0
TurnsAddUp A =
    (modulus : Modulus) (connection : ℕ) (pass : Pass A) (came : Seen) (turns : List (Left A)) → IsFresh came → AreTurns modulus connection pass came turns
    → IsLeftSo modulus connection pass came (last_of (record { after = Linked; pass = pass; seen = came }) turns)
