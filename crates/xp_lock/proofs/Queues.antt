-- What happens under the lock leaves each outbox the one that it was.
use Rattle.std.proofs.Common.{◌≡◌, ℕ, suc, List, [], ◌∷◌, length, map, refl, ap, ◌∙◌, arith}
use Rattle.atomic_table.specs.Seated.{TableId}
use Rattle.xp_outbox.specs.Ends.{Putting}
use Rattle.xp_step.specs.declared.output.Outgoing.{Outgoing}
use Rattle.xp_lock.specs.Outboxes.{outbox_at}
use Rattle.xp_lock.specs.Histories.{Forcing}
use Rattle.xp_lock.specs.Reloading.{AreFilled}

module _ {A : Type 0} where
  abbrev pub queues : List (Putting (Outgoing A)) → List TableId
  queues outboxes = map (λ box. box.queue) outboxes

  pub same_queues : (outboxes after : List (Putting (Outgoing A))) → length after ≡ length outboxes
      → ((line : ℕ) → (outbox_at after line).queue ≡ (outbox_at outboxes line).queue) → queues after ≡ queues outboxes
  same_queues [] [] count same = refl
  same_queues [] (x ∷ after) count same = absurd (omega (arith, count))
  same_queues (x ∷ outboxes) [] count same = absurd (omega (arith, count))
  same_queues (x ∷ outboxes) (y ∷ after) count same =
      λ i. same 0 i ∷ same_queues outboxes after (omega (arith, count)) (λ line. same (suc line)) i

  pub filled_queues : (forcings : List (Forcing A)) (outboxes after : List (Putting (Outgoing A))) → AreFilled forcings outboxes after → queues after ≡ queues outboxes
  filled_queues [] outboxes after same = ap queues same
  filled_queues (forcing ∷ forcings) outboxes after filled =
      filled_queues forcings filled.0 after filled.2 ∙ same_queues outboxes filled.0 filled.1.count (λ line. (filled.1.each line).queue)
