-- How the private functions read the values of the keys from the tables of a TOML document.
use Rattle.std.specs.Prelude.{◌≡◌, Result, Ok, Err}
use Rattle.xp_file.specs.declared.fault.SubscriptionFault.{SubscriptionFault}

infixl 10 ◌>>=◌
-- if reading succeeded, continues with `next`; otherwise keeps the fault
abbrev pub ◌>>=◌ : {A B : Type 0} → Result A SubscriptionFault → (A → Result B SubscriptionFault) → Result B SubscriptionFault
Ok x >>= next = next x
Err fault >>= next = Err fault

-- Whenever the function returns an answer for a table or a value, `read` gives the same answer for what `shown` makes
-- of that table or value.
abbrev pub Reads : {X Y B : Type 0} → (X → Y) → (X → B → Type 0) → (Y → B) → Type 0
Reads {X} {Y} {B} shown Returns read = (x : X) (answer : B) → Returns x answer → read (shown x) ≡ answer
