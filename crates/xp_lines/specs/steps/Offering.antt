-- How one event is offered, and then several in order.
use Rattle.std.specs.Prelude.{◌≡◌, ◌⊎◌, ℕ, false, List, [], ◌∷◌, ◌++◌, Option, Some, None, Result, Ok, Err}
use Rattle.xp_step.specs.declared.event.Event.{Event}
use Rattle.xp_step.specs.declared.event.What.{What}
use Rattle.xp_lock.specs.declared.receipt.Receipt.{Receipt}
use Rattle.xp_lock.specs.Passes.{Pass}
use Rattle.xp_lines.specs.Offers.{Gains}
use Rattle.xp_lines.specs.Reads.{keeps}
use Rattle.xp_lines.specs.declared.over.Over.{Over}

module _ {A : Type 0} where
  -- an event of this line at this moment
  abbrev pub event_on : ℕ → ℕ → What A → Event A
  event_on line moment what = record { line = line; moment = moment; what = what }

  -- The exchange accepted the event, or refused it, which changes nothing: memory is wanting, or it takes no more.
  abbrev pub Tells : Pass A → What A → Result Receipt Over → Pass A → Type 0
  Tells old what (Ok done) new = Gains old (what ∷ []) new
  Tells old what (Err over) new = (keeps (Some over) ≡ false) × (new ≡ old)

  -- These events were offered in order. The exchange accepted all of them up to the first that it refused.
  pub record TakesFront (old : Pass A) (ready : List (What A)) (over : Option Over) (new : Pass A) : Type 0 where
    pub whats : List (What A)
    pub left : List (What A)
    pub in_order : ready ≡ whats ++ left
    pub gains : Gains old whats new
    pub all : over ≡ None → left ≡ []
    pub refused : (over ≡ None) ⊎ (keeps over ≡ false)
