-- For private steps. What a line has gained up to one of its turns, and how one turn goes on from there.
use Rattle.std.specs.Prelude.{◌≡◌, ◌⊎◌, ℕ, Bool, List, [], ◌∷◌, Option, Some, None, option_map}
use Rattle.std.specs.List.{AllByRecursion}
use Rattle.xp_subs.specs.Tables.{Tables, modulus_of}
use Rattle.xp_step.specs.declared.event.What.TheVariants.{Down}
use Rattle.xp_lock.specs.Passes.{Pass}
use Rattle.xp_lines.specs.Offers.{Gains}
use Rattle.xp_lines.specs.Sessions.{ComesUp, Drops, IsSession, PastSession, left_at_last}
use Rattle.xp_lines.specs.Together.{AreTurns, IsFresh, Left, last_of}
use Rattle.xp_lines.specs.Turns.{Here, IsTurn, Seen, seen_on}
use Rattle.xp_lines.specs.declared.line.EndReason.{EndReason}
use Rattle.xp_lines.specs.declared.line.EndReason.TheVariants.{Stopped}
use Rattle.xp_lines.specs.declared.session.Session.{Session}
use Rattle.xp_lines.specs.declared.turning.TurnOutcome.{TurnOutcome}
use Rattle.xp_lines.specs.declared.turning.TurnOutcome.TheVariants.{Linked, Dropped, DownOwed, Halted, Journal}

module _ {A L : Type 0} where
  -- what the line sees, if it has a link
  abbrev pub here : (L → Option (List ℕ)) → (L → Option (List ℕ)) → Option (Session L A) → Option Here
  here pushed pulled session = option_map (seen_on pushed pulled) session

-- the link is there
abbrev pub IsThere : TurnOutcome → Type 0
IsThere Linked = Unit {0}
IsThere Dropped = ⊥
IsThere DownOwed = Unit {0}
IsThere Halted = Unit {0}
IsThere Journal = Unit {0}

-- the link is there, and turns may follow
abbrev pub GoesOn : TurnOutcome → Type 0
GoesOn Linked = Unit {0}
GoesOn Dropped = ⊥
GoesOn DownOwed = Unit {0}
GoesOn Halted = ⊥
GoesOn Journal = ⊥

-- the link that is left by how a turn on it ended
abbrev pub Leaves : TurnOutcome → Here → Option Here → Option EndReason → Type 0
Leaves Linked now left end = left ≡ Some now
Leaves DownOwed now left end = left ≡ Some now
Leaves Dropped now left end = left ≡ None
Leaves Halted now left end = (left ≡ Some now) × ((end ≡ None) → ⊥)
Leaves Journal now left end = (left ≡ Some now) × ((end ≡ None) → ⊥)

module _ {A : Type 0} where
  -- How a link that is still there at the end goes: the exchange accepted its Down, as always where the line was stopped, or
  -- refused it. Then outputs were dropped.
  pub record GoesBy (why : EndReason) (old new : Pass A) : Type 0 where
    pub gone : Pass A
    pub goes : Gains old (Down ∷ []) gone ⊎ (gone ≡ old)
    pub stopped : why ≡ Stopped → Gains old (Down ∷ []) gone
    pub drops : Drops gone new

  -- the link that is still there at the end goes
  abbrev pub Closes : Option Here → EndReason → Pass A → Pass A → Type 0
  Closes None why old new = new ≡ old
  Closes (Some link) why old new = GoesBy why old new

module _ {A : Type 0} (subs : Tables) (of_link : Option (List ℕ) → Option (List ℕ) → Type 0) where
  -- the links that the exchange has accepted as gone
  abbrev pub AreOver : Pass A → List (PastSession A) → Pass A → Type 0
  AreOver old [] new = new ≡ old
  AreOver old (session ∷ sessions) new = IsSession subs of_link old session × ((left_at_last session).after ≡ Dropped) × AreOver session.gone sessions new

  -- the link that is there, and its turns so far
  pub record IsOpen (may : TurnOutcome → Type 0) (old : Pass A) (connection : ℕ) (pass : Pass A) (seen : Seen) : Type 0 where
    pub came : Pass A
    pub first : Seen
    pub turns : List (Left A)
    pub comes : ComesUp subs old connection came
    pub fresh : IsFresh first
    pub are_turns : AreTurns (modulus_of subs old.line) connection came first turns
    pub moved_at_first : of_link first.pushed first.pulled
    pub moved : AllByRecursion (λ left. of_link left.seen.pushed left.seen.pulled) turns
    pub after : TurnOutcome
    pub may_be : may after
    pub last : last_of (record { after = Linked; pass = came; seen = first }) turns ≡ record { after = after; pass = pass; seen = seen }
    pub line : pass.line ≡ old.line

  -- no link is there, and outputs were dropped, or this link
  abbrev pub IsHere : (TurnOutcome → Type 0) → Pass A → Option Here → Pass A → Type 0
  IsHere may old None pass = Drops old pass
  IsHere may old (Some (connection, seen)) pass = IsOpen may old connection pass seen

  -- what the line has gained so far
  pub record IsOn (may : TurnOutcome → Type 0) (first : Pass A) (link : Option Here) (pass : Pass A) : Type 0 where
    pub sessions : List (PastSession A)
    pub between : Pass A
    pub over : AreOver first sessions between
    pub rest : IsHere may between link pass

  -- what a turn without a link leaves
  abbrev pub Connects : Pass A → Option Here → Option EndReason → Pass A → Type 0
  Connects old None end new = Drops old new
  Connects old (Some (connection, seen)) end new =
      ComesUp subs old connection new × IsFresh seen × of_link seen.pushed seen.pulled × (new.line ≡ old.line) × (end ≡ None)

  -- a turn on a link
  pub record TurnsOn (connection : ℕ) (old : Pass A) (seen : Seen) (left : Option Here) (end : Option EndReason) (new : Pass A) : Type 0 where
    pub after : TurnOutcome
    pub now : ℕ
    pub wanting : Bool
    pub new_seen : Seen
    pub is_turn : IsTurn (modulus_of subs old.line) now connection old seen after wanting new new_seen
    pub moved : of_link new_seen.pushed new_seen.pulled
    pub line : new.line ≡ old.line
    pub leaves : Leaves after (connection, new_seen) left end

  -- a turn of a line, with a link or without one
  abbrev pub Steps : Pass A → Option Here → Option Here → Option EndReason → Pass A → Type 0
  Steps old None left end new = Connects old left end new
  Steps old (Some (connection, seen)) left end new = TurnsOn connection old seen left end new
