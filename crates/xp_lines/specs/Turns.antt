-- One turn of a line on its link.
use Rattle.std.specs.Prelude.{◌≡◌, ℕ, Bool, true, false, List, [], ◌∷◌, ◌++◌, Option, Some, None}
use Rattle.std.specs.Io.KnownBytes.{Appends}
use Rattle.xp_frames.specs.Deframer.{DeframerState}
use Rattle.xp_packets.specs.declared.modulus.Modulus.{Modulus}
use Rattle.xp_step.specs.declared.event.What.{What}
use Rattle.xp_step.specs.declared.event.What.TheVariants.{Down}
use Rattle.xp_lock.specs.Passes.{Pass}
use Rattle.xp_lines.specs.Offers.{Gains}
use Rattle.xp_lines.specs.Reads.{Reads, is_wanting, keeps, stays}
use Rattle.xp_lines.specs.AnswerTimer.{Expires, answered, has_any, since_after_all}
use Rattle.xp_lines.specs.Wire.{NoneCloses, Writes}
use Rattle.xp_lines.specs.declared.over.Over.{Over}
use Rattle.xp_lines.specs.declared.over.Over.TheVariants as overs
use Rattle.xp_lines.specs.declared.session.Session.{Session}
use Rattle.xp_lines.specs.declared.turning.TurnOutcome.{TurnOutcome}
use Rattle.xp_lines.specs.declared.turning.TurnOutcome.TheVariants.{Linked, Dropped, DownOwed, Halted, Journal}

-- the state of a line on its link between two turns
pub record Seen : Type 0 where
  -- the link went, and the exchange has not accepted that yet
  pub owed : Bool
  pub frames : DeframerState
  pub unwritten : List ℕ
  -- all octets that were pushed into the link and pulled from it so far, where they are known
  pub pushed : Option (List ℕ)
  pub pulled : Option (List ℕ)
  -- since when an incoming call waits for the line's answer, in seconds
  pub unanswered_since : Option ℕ

-- the number of a connection, and what the line sees on its link
abbrev pub Here : Type 0
Here = ℕ × Seen

module _ {A L : Type 0} where
  -- the same, by what is known of the octets of the link
  abbrev pub seen_on : (L → Option (List ℕ)) → (L → Option (List ℕ)) → Session L A → Here
  seen_on pushed pulled session = (
    session.connection,
    record {
      owed = session.owes_down;
      frames = session.frames;
      unwritten = session.unwritten.items;
      pushed = pushed session.link;
      pulled = pulled session.link;
      unanswered_since = session.unanswered_since;
    },
  )

module _ {A : Type 0} where
  -- Octets were pulled and their packets offered, and then the expiry of an incoming call that was not answered in time.
  pub record ReadsAndExpires (modulus : Modulus) (now : ℕ) (old : Pass A) (frames : DeframerState) (before : Option (List ℕ)) (since : Option ℕ) (over : Option Over) (new : Pass A) (left_frames : DeframerState) (after : Option (List ℕ)) (left_since : Option ℕ) : Type 0 where
    pub pulled : List ℕ
    pub pulls : Appends before after pulled
    pub whats : List (What A)
    pub expired : List (What A)
    pub gains : Gains old (whats ++ expired) new
    pub reads : Reads modulus frames pulled whats over left_frames
    pub lapses : Expires (stays over) now (answered (has_any whats) since) expired left_since

  -- Outputs were taken and written, and then octets were read. Octets of outputs are lost only where memory was wanting, or the
  -- exchange takes no more. While the link stays, no output that was taken closes the connection.
  pub record WritesAndReads (modulus : Modulus) (now connection : ℕ) (old_pass : Pass A) (old : Seen) (over : Option Over) (new_pass : Pass A) (new : Seen) : Type 0 where
    pub between : Pass A
    pub unsent : List ℕ
    pub writes : Writes modulus connection old_pass old.unwritten old.pushed between new.unwritten new.pushed unsent
    pub none_unsent : keeps over ≡ true → unsent ≡ []
    pub none_closes : stays over ≡ true → NoneCloses connection writes.items
    pub since : Option ℕ
    pub since_is : stays over ≡ true → since ≡ since_after_all now connection old.unanswered_since writes.items
    pub hears : ReadsAndExpires modulus now between old.frames old.pulled since over new_pass new.frames new.pulled new.unanswered_since

  -- The Down of a link was offered: the exchange accepted it, or it waits for memory, or the exchange accepts nothing any more.
  abbrev pub Downs : Pass A → TurnOutcome → Pass A → Bool → Type 0
  Downs old Linked new owed = ⊥
  Downs old Dropped new owed = Gains old (Down ∷ []) new
  Downs old DownOwed new owed = (new ≡ old) × (owed ≡ true)
  Downs old Halted new owed = new ≡ old
  Downs old Journal new owed = new ≡ old

  -- what a turn does after its reading: the link stays, its Down is offered, or it is the line's last turn
  abbrev pub Follows : Option Over → Pass A → Bool → TurnOutcome → Pass A → Bool → Type 0
  Follows None old owed after new left = (after ≡ Linked) × (new ≡ old) × (left ≡ owed)
  Follows (Some overs.Link) old owed after new left = Downs old after new left
  Follows (Some overs.Memory) old owed after new left = Downs old after new left
  Follows (Some overs.Halted) old owed after new left = (after ≡ Halted) × (new ≡ old) × (left ≡ owed)
  Follows (Some overs.Journal) old owed after new left = (after ≡ Journal) × (new ≡ old) × (left ≡ owed)

  -- The line wrote and read, and then its link stays or goes. The turn says so where memory was wanting.
  pub record Worked (modulus : Modulus) (now connection : ℕ) (old_pass : Pass A) (old : Seen) (after : TurnOutcome) (wanting : Bool) (new_pass : Pass A) (new : Seen) : Type 0 where
    pub over : Option Over
    pub worked_pass : Pass A
    pub worked : Seen
    pub works : WritesAndReads modulus now connection old_pass old over worked_pass worked
    pub says : is_wanting over ≡ true → wanting ≡ true
    pub follows : Follows over worked_pass old.owed after new_pass new.owed
    pub rest : new ≡ record worked { owed = new.owed }

  -- Where a Down waits, the turn offers the Down alone. Else it writes and reads.
  abbrev pub IsTurnBy : Bool → Modulus → ℕ → ℕ → Pass A → Seen → TurnOutcome → Bool → Pass A → Seen → Type 0
  IsTurnBy true modulus now connection old_pass old after wanting new_pass new =
      Downs old_pass after new_pass new.owed × (new ≡ record old { owed = new.owed })
  IsTurnBy false modulus now connection old_pass old after wanting new_pass new = Worked modulus now connection old_pass old after wanting new_pass new

  -- one turn of a line of this modulus, at the time that the clock gave, in seconds, and whether it says that memory was wanting
  abbrev pub IsTurn : Modulus → ℕ → ℕ → Pass A → Seen → TurnOutcome → Bool → Pass A → Seen → Type 0
  IsTurn modulus now connection old_pass old after wanting new_pass new = IsTurnBy old.owed modulus now connection old_pass old after wanting new_pass new
