-- For private steps. Every packet that came in can be read.
use Rattle.std.specs.Prelude.{List, All}
use Rattle.xp_step.specs.declared.entry.Entry.{Entry}
use Rattle.xp_step.specs.Exchange.{IsReadable}

module _ {A : Type 0} where
  -- the packet of each entry's event can be read
  abbrev pub AreReadable : List (Entry A) → Type 0
  AreReadable history = All (λ entry. IsReadable entry.event.what) history
