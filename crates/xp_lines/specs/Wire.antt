-- What a line writes to its link of the outputs that it takes from its outbox.
use Rattle.std.specs.Prelude.{◌≡◌, ◌⊎◌, ℕ, ◌≤◌, ◌==◌, Bool, true, false, cond, List, [], ◌++◌, length, Option, flat_map}
use Rattle.std.specs.List.{AllByRecursion}
use Rattle.std.specs.Io.KnownBytes.{Appends}
use Rattle.xp_frames.specs.Frame.{frame}
use Rattle.xp_packets.specs.Writing.{written}
use Rattle.xp_packets.specs.declared.modulus.Modulus.{Modulus}
use Rattle.xp_step.specs.declared.output.Outgoing.{Outgoing}
use Rattle.xp_step.specs.declared.output.Put.{Put}
use Rattle.xp_step.specs.declared.output.Put.TheVariants.{Send, Close}
use Rattle.xp_lock.specs.Passes.{Pass}

module _ {A : Type 0} where
  -- a packet is written by the modulus of the line, as its frame; a close writes no octets
  abbrev pub octets_of : Modulus → Put A → List ℕ
  octets_of modulus (Send identifier packet) = frame (written modulus identifier packet)
  octets_of modulus Close = []

  -- an output for another connection of the line is not written
  abbrev pub carried : Modulus → ℕ → Outgoing A → List ℕ
  carried modulus connection item = cond (item.connection == connection) (octets_of modulus item.put) []

  -- the octets of all outputs, in order
  abbrev pub wire : Modulus → ℕ → List (Outgoing A) → List ℕ
  wire modulus connection items = flat_map (carried modulus connection) items

  abbrev pub is_close : Put A → Bool
  is_close (Send identifier packet) = false
  is_close Close = true

  -- the output closes this connection
  abbrev pub closes : ℕ → Outgoing A → Bool
  closes connection item = cond (item.connection == connection) (is_close item.put) false

  abbrev pub NoneCloses : ℕ → List (Outgoing A) → Type 0
  NoneCloses connection items = AllByRecursion (λ item. closes connection item ≡ false) items

  -- The pass took these outputs too, and nothing else of it changed.
  pub record Took (old : Pass A) (items : List (Outgoing A)) (new : Pass A) : Type 0 where
    pub line : new.line ≡ old.line
    pub seen : new.seen ≡ old.seen
    pub taken : new.taken ≡ old.taken ++ items

  -- Outputs were taken and written. The octets that were unwritten, and then those of the outputs, are the octets that were
  -- pushed, then those that are still unwritten, and then those that were lost.
  pub record Writes (modulus : Modulus) (connection : ℕ) (old : Pass A) (unwritten : List ℕ) (before : Option (List ℕ)) (new : Pass A) (left : List ℕ) (after : Option (List ℕ)) (lost : List ℕ) : Type 0 where
    pub items : List (Outgoing A)
    pub took : Took old items new
    -- as many as an outbox has places
    pub few : length items ≤ 64
    pub pushed : List ℕ
    pub grows : Appends before after pushed
    pub whole : unwritten ++ wire modulus connection items ≡ (pushed ++ left) ++ lost
    -- nothing is taken before all octets that were unwritten are pushed
    pub in_turn : (items ≡ []) ⊎ ((sent : List ℕ) × (pushed ≡ unwritten ++ sent))

  -- Outputs were taken and written, in one go or in several. The octets that were unwritten, and then those of the outputs, are
  -- the octets that were pushed, then those that are still unwritten, and then those that were lost.
  pub record WritesRest (modulus : Modulus) (connection : ℕ) (old : Pass A) (unwritten : List ℕ) (before : Option (List ℕ)) (new : Pass A) (left : List ℕ) (after : Option (List ℕ)) (lost : List ℕ) : Type 0 where
    pub items : List (Outgoing A)
    pub took : Took old items new
    pub pushed : List ℕ
    pub grows : Appends before after pushed
    pub whole : unwritten ++ wire modulus connection items ≡ (pushed ++ left) ++ lost
