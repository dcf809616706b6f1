-- How outputs that a line takes from its outbox are appended to its unwritten octets.
use Rattle.std.specs.Prelude.{◌≡◌, ℕ, ◌≤◌, true, List, [], ◌++◌, length, Option}
use Rattle.xp_packets.specs.declared.modulus.Modulus.{Modulus}
use Rattle.xp_step.specs.declared.output.Outgoing.{Outgoing}
use Rattle.xp_lock.specs.Passes.{Pass}
use Rattle.xp_lines.specs.AnswerTimer.{since_after_all}
use Rattle.xp_lines.specs.Reads.{keeps, stays}
use Rattle.xp_lines.specs.Wire.{NoneCloses, Took, Writes, wire}
use Rattle.xp_lines.specs.declared.over.Over.{Over}

module _ {A : Type 0} where
  -- Outputs were taken. The octets that were unwritten, and then those of the outputs, are now the unwritten octets, and then
  -- those that were lost.
  pub record Fills (modulus : Modulus) (connection : ℕ) (old : Pass A) (unwritten : List ℕ) (new : Pass A) (left lost : List ℕ) : Type 0 where
    pub items : List (Outgoing A)
    pub took : Took old items new
    pub few : length items ≤ 64
    pub whole : unwritten ++ wire modulus connection items ≡ left ++ lost

  -- What the taking of outputs came to. Unless one was lost, an incoming call waits for its answer by those that were taken. While the
  -- link stays, none of them closes its connection.
  abbrev pub TakenOut : Modulus → ℕ → ℕ → Pass A → List ℕ → Option ℕ → Option Over → Pass A → List ℕ → Option ℕ → Type 0
  TakenOut modulus now connection old unwritten since over new left left_since =
      (lost : List ℕ) × (fills : Fills modulus connection old unwritten new left lost)
      × (keeps over ≡ true → (lost ≡ []) × (left_since ≡ since_after_all now connection since fills.items))
      × (stays over ≡ true → NoneCloses connection fills.items)

  -- what the writing of a turn came to
  abbrev pub WrittenOut : Modulus → ℕ → ℕ → Pass A → List ℕ → Option (List ℕ) → Option ℕ → Option Over → Pass A → List ℕ → Option (List ℕ) → Option ℕ → Type 0
  WrittenOut modulus now connection old unwritten before since over new left after left_since =
      (lost : List ℕ) × (writes : Writes modulus connection old unwritten before new left after lost)
      × (keeps over ≡ true → (lost ≡ []) × (left_since ≡ since_after_all now connection since writes.items))
      × (stays over ≡ true → NoneCloses connection writes.items)
