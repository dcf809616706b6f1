-- What a line gains over all its links, one after the other (`AreSessions`). `of_link` is what is known of the octets of a link: all
-- that were pushed into it, and all that were pulled from it.
use Rattle.std.specs.Prelude.{◌≡◌, ◌⊎◌, ℕ, List, [], ◌∷◌, Option}
use Rattle.std.specs.List.{AllByRecursion}
use Rattle.xp_subs.specs.Tables.{Tables, modulus_of}
use Rattle.xp_step.specs.declared.event.What.TheVariants.{Up, Down}
use Rattle.xp_step.specs.declared.output.Outgoing.{Outgoing}
use Rattle.xp_lock.specs.declared.receipt.Receipt.{Receipt}
use Rattle.xp_lock.specs.Passes.{GainsEvent, Pass}
use Rattle.xp_lines.specs.Offers.{Gains}
use Rattle.xp_lines.specs.Together.{AreTurns, IsFresh, Left, last_of}
use Rattle.xp_lines.specs.Turns.{Seen}
use Rattle.xp_lines.specs.Wire.{Took, WritesRest}
use Rattle.xp_lines.specs.declared.turning.TurnOutcome.{TurnOutcome}
use Rattle.xp_lines.specs.declared.turning.TurnOutcome.TheVariants.{Linked, Dropped}

-- A link of a line that came and has gone.
pub record PastSession (A : Type 0) : Type 0 where
  -- the number of its connection
  pub connection : ℕ
  -- the pass and the link as the exchange had accepted that it came, and then after each turn
  pub came : Pass A
  pub seen : Seen
  pub turns : List (Left A)
  -- the pass at the end
  pub gone : Pass A

-- there is a link into which these octets were pushed, and from which these were pulled, where they are known
abbrev pub AreMoved : {L : Type 0} → (L → Option (List ℕ)) → (L → Option (List ℕ)) → Option (List ℕ) → Option (List ℕ) → Type 0
AreMoved {L = L} pushed_into pulled_from pushed pulled = (link : L) × (pushed ≡ pushed_into link) × (pulled ≡ pulled_from link)

-- any link, whatever octets it moved
abbrev pub IsAnyLink : Option (List ℕ) → Option (List ℕ) → Type 0
IsAnyLink pushed pulled = Unit {0}

module _ {A : Type 0} where
  -- outputs were taken and dropped, and nothing else of the pass changed
  abbrev pub Drops : Pass A → Pass A → Type 0
  Drops old new = (items : List (Outgoing A)) × Took old items new

  -- Outputs over an earlier link are dropped, and then the exchange accepts that a link came. The number of its connection is how
  -- often the line has come into service, after the history that the pass has seen then.
  pub record ComesUp (subs : Tables) (old : Pass A) (connection : ℕ) (came : Pass A) : Type 0 where
    pub before : Pass A
    pub drops : Drops old before
    pub moment : ℕ
    pub receipt : Receipt
    pub gains : GainsEvent subs before (record { line = before.line; moment = moment; what = Up }) receipt came
    pub connection_is : connection ≡ receipt.connection

  -- How the link goes after its last turn. In that turn the exchange accepted that it went, or the line has ended: then its Down is
  -- offered, and the exchange accepts it or not.
  abbrev pub Goes : TurnOutcome → Pass A → Pass A → Type 0
  Goes Dropped last gone = gone ≡ last
  Goes after last gone = Gains last (Down ∷ []) gone ⊎ (gone ≡ last)

  -- how the last turn left the link
  abbrev pub left_at_last : PastSession A → Left A
  left_at_last session = last_of (record { after = Linked; pass = session.came; seen = session.seen }) session.turns

  -- The link came, it had turns on which the octets of a link were moved, one after the other, and it went.
  pub record IsSession (subs : Tables) (of_link : Option (List ℕ) → Option (List ℕ) → Type 0) (old : Pass A) (session : PastSession A) : Type 0 where
    pub comes : ComesUp subs old session.connection session.came
    pub fresh : IsFresh session.seen
    pub turns : AreTurns (modulus_of subs old.line) session.connection session.came session.seen session.turns
    pub moved_at_first : of_link session.seen.pushed session.seen.pulled
    pub moved : AllByRecursion (λ left. of_link left.seen.pushed left.seen.pulled) session.turns
    pub goes : Goes (left_at_last session).after (left_at_last session).pass session.gone

  -- The links of a line from one pass of it to a later one. Each comes where the exchange has accepted that the one before went, and
  -- nothing is gained between them.
  abbrev pub AreSessions : Tables → (Option (List ℕ) → Option (List ℕ) → Type 0) → Pass A → List (PastSession A) → Pass A → Type 0
  AreSessions subs of_link old [] new = Drops old new
  AreSessions subs of_link old (session ∷ sessions) new =
      IsSession subs of_link old session × (((left_at_last session).after ≡ Dropped) ⊎ (sessions ≡ [])) × AreSessions subs of_link session.gone sessions new

  -- the exchange accepted that the link went
  abbrev pub IsGone : PastSession A → Type 0
  IsGone session = ((left_at_last session).after ≡ Dropped) ⊎ Gains (left_at_last session).pass (Down ∷ []) session.gone

  -- What a link got behind its Down. The octets that were unwritten then, and those of the outputs that the line still took, are
  -- the octets that were pushed, and then those that the link did not take.
  pub record WritesLast (subs : Tables) (of_link : Option (List ℕ) → Option (List ℕ) → Type 0) (session : PastSession A) (last : Pass A) : Type 0 where
    pub left : List ℕ
    pub lost : List ℕ
    pub pushed : Option (List ℕ)
    pub pulled : Option (List ℕ)
    pub moved : of_link pushed pulled
    pub writes : WritesRest (modulus_of subs session.gone.line) session.connection session.gone (left_at_last session).seen.unwritten (left_at_last session).seen.pushed last left pushed lost

  -- the last of these links got what was owed to it, if it was there until the line was stopped
  abbrev pub EndsWritten : Tables → (Option (List ℕ) → Option (List ℕ) → Type 0) → List (PastSession A) → Pass A → Type 0
  EndsWritten subs of_link [] last = Unit {0}
  EndsWritten subs of_link (session ∷ []) last = ((left_at_last session).after ≡ Dropped) ⊎ WritesLast subs of_link session last
  EndsWritten subs of_link (session ∷ next ∷ sessions) last = EndsWritten subs of_link (next ∷ sessions) last

  -- The line is down at the end: the exchange accepted of each of its links that it went, and the last one got what was owed to it.
  abbrev pub IsLineDown : Tables → (Option (List ℕ) → Option (List ℕ) → Type 0) → Pass A → Pass A → Type 0
  IsLineDown subs of_link first last =
      (sessions : List (PastSession A)) × AreSessions subs of_link first sessions last × AllByRecursion IsGone sessions × EndsWritten subs of_link sessions last

  -- the line's pass came back from its thread
  abbrev pub IsLineServed : Tables → (Option (List ℕ) → Option (List ℕ) → Type 0) → Pass A → Pass A → Type 0
  IsLineServed subs of_link first last = (last.line ≡ first.line) × (sessions : List (PastSession A)) × AreSessions subs of_link first sessions last
