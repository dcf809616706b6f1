-- For private steps. How a list of lines grows by those of some outputs.
use Rattle.std.specs.Prelude.{ℕ, if◌then◌else◌, List, [], ◌∷◌, ◌++◌}
use Rattle.xp_step.specs.declared.output.Output.{Output}
use Rattle.xp_lock.specs.Given.{is_among}

-- with this line, which is added where it is not there
abbrev pub with_line : List ℕ → ℕ → List ℕ
with_line lines line = if is_among line lines then lines else lines ++ line ∷ []

module _ {A : Type 0} where
  -- with the lines of these outputs
  abbrev pub with_lines : List ℕ → List (Output A) → List ℕ
  with_lines lines [] = lines
  with_lines lines (output ∷ outputs) = with_lines (with_line lines output.line) outputs
