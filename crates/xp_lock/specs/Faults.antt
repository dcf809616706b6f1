-- The event that a refusal gives back.
use Rattle.xp_step.specs.declared.event.Event.{Event}
use Rattle.xp_lock.specs.declared.fault.OfferFault.{OfferFault}
use Rattle.xp_lock.specs.declared.fault.OfferFault.TheVariants.{Halted, JournalFull, NoRoom, Memory}

module _ {A : Type 0} where
  -- the event in a fault
  abbrev pub event_in : OfferFault A → Event A
  event_in (Halted event) = event
  event_in (JournalFull event) = event
  event_in (NoRoom event) = event
  event_in (Memory event) = event
