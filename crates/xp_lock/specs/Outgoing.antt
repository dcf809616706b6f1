-- What entries put out to a line (`put_out_to`).
use Rattle.std.specs.Prelude.{ℕ, List, flat_map}
pub use Rattle.xp_core.specs.OutputsPerLine.{to_line}
use Rattle.xp_step.specs.declared.entry.Entry.{Entry}
use Rattle.xp_step.specs.declared.output.Outgoing.{Outgoing}

module _ {A : Type 0} where
  -- all that these entries put out to a line, in order
  abbrev pub put_out_to : ℕ → List (Entry A) → List (Outgoing A)
  put_out_to line entries = flat_map (λ entry. to_line line entry.outputs) entries
