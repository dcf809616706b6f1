-- For private steps. Stalls: a line that takes its packets too slowly is given up.
use Rattle.std.specs.Prelude.{ℕ}
use Rattle.xp_step.specs.declared.event.Event.{Event}
use Rattle.xp_step.specs.declared.event.What.TheVariants.{Stall}

module _ {A : Type 0} where
  abbrev pub stall_of : ℕ → ℕ → Event A
  stall_of line moment = record { line = line; moment = moment; what = Stall }
