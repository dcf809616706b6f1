-- The lines that an entry names.
use Rattle.std.specs.Prelude.{ℕ, ◌<◌, All}
use Rattle.xp_step.specs.declared.entry.Entry.{Entry}
use Rattle.xp_charge.specs.Lines.{HasLines as NamesLines}

-- the lines that something is put out to, and those of the records, are all below this number
pub record HasLines {A : Type 0} (count : ℕ) (entry : Entry A) : Type 0 where
  pub outputs : All (λ output. output.line < count) entry.outputs
  pub records : All (NamesLines count) entry.records.items
