-- The events that a line offers, and the entries that its pass gains by them.
use Rattle.std.specs.Prelude.{◌≡◌, ℕ, Bool, true, List, [], ◌++◌, map}
use Rattle.xp_packets.specs.declared.modulus.Modulus.{Modulus}
use Rattle.xp_step.specs.declared.entry.Entry.{Entry}
use Rattle.xp_step.specs.declared.event.What.{What}
use Rattle.xp_lock.specs.Passes.{Pass, own_entries}
use Rattle.xp_lines.specs.FrameEvents.{AreReadAs}

module _ {A : Type 0} where
  -- an event of this line, at whatever moment
  abbrev pub on_line : ℕ → What A → ℕ × What A
  on_line line what = (line, what)

  -- the event of an entry without its moment
  abbrev pub happened : Entry A → ℕ × What A
  happened entry = on_line entry.event.line entry.event.what

  -- The exchange accepted these events of the line, in order, with one entry each, and no other event of the line.
  pub record Gains (old : Pass A) (whats : List (What A)) (new : Pass A) : Type 0 where
    pub line : new.line ≡ old.line
    pub taken : new.taken ≡ old.taken
    pub entries : List (Entry A)
    pub own_entries_are : own_entries new ≡ own_entries old ++ entries
    pub events : map happened entries ≡ map (on_line old.line) whats

  -- The packets that waited were offered in order. The offering may have stopped before the end. Where nothing was lost, the
  -- packets that were not offered still wait.
  pub record Offers (modulus : Modulus) (frames : List (List ℕ)) (whats : List (What A)) (on : Bool) (left : List (List ℕ)) : Type 0 where
    pub packets : List (List ℕ)
    pub unread : List (List ℕ)
    pub frames_are : frames ≡ packets ++ unread
    pub read : List (What A)
    pub read_as : AreReadAs modulus packets read
    pub unoffered : List (What A)
    pub in_order : read ≡ whats ++ unoffered
    pub kept : on ≡ true → (unread ≡ left) × (unoffered ≡ [])
