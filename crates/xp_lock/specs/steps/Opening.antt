-- For private steps. The outboxes of a new exchange.
use Rattle.std.specs.Prelude.{◌≡◌, ℕ, List, [], All, length, map}
use Rattle.xp_outbox.specs.Ends.{Putting, Taking}
use Rattle.xp_step.specs.declared.output.Outgoing.{Outgoing}
use Rattle.xp_lock.specs.Outboxes.{CAPACITY}

-- nothing was put into an outbox, and nothing taken
abbrev pub IsUnused : {A : Type 0} → Taking (Outgoing A) → Type 0
IsUnused end = (end.taken ≡ []) × (end.owed ≡ [])

module _ {A : Type 0} where
  -- so many outboxes of 64 places, all empty: the ends into which items are put, and those from which they are taken
  pub record AreNew (lines : ℕ) (outboxes : List (Putting (Outgoing A))) (ends : List (Taking (Outgoing A))) : Type 0 where
    pub box_count : length outboxes ≡ lines
    pub end_count : length ends ≡ lines
    pub queues : map (λ end. end.queue) ends ≡ map (λ box. box.queue) outboxes
    pub capacities : All (λ box. box.capacity ≡ CAPACITY) outboxes
    pub put : All (λ box. box.put ≡ []) outboxes
    pub unused : All IsUnused ends
