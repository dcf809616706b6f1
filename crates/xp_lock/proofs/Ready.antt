-- A look at the free places of a line.
use Rattle.std.proofs.Common.{ℕ, Bool, true, false, List, refl, arith}
use Rattle.std.proofs.lemmas.Bool.{cases_eq}
use Rattle.xp_outbox.specs.Ends.{Putting}
use Rattle.xp_subs.specs.Tables.{Tables}
use Rattle.xp_step.specs.declared.entry.Entry.{Entry}
use Rattle.xp_step.specs.declared.output.Outgoing.{Outgoing}
use Rattle.xp_lock.specs.Outboxes.{LooksIf}
use Rattle.xp_lock.specs.steps.Outboxes.{AreAlike, IsAlike, OutboxesMatch}

module _ {A : Type 0} where
  pub alike_same : (box : Putting (Outgoing A)) → IsAlike box box
  alike_same box = record { queue = refl; capacity = refl; put = refl; free = omega arith }

  pub are_alike : (looks : Bool) (line : ℕ) (outboxes after : List (Putting (Outgoing A))) → LooksIf looks line outboxes after → AreAlike outboxes after
  are_alike true line outboxes after looked = grind (arith, alike_same, cases_eq)
  are_alike false line outboxes after same = grind (arith, alike_same)

  pub kept_ready : (subs : Tables) (history : List (Entry A)) (outboxes after : List (Putting (Outgoing A))) → AreAlike outboxes after → OutboxesMatch subs history outboxes → OutboxesMatch subs history after
  kept_ready subs history outboxes after alike kept = grind arith
