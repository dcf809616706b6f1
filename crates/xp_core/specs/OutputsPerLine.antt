-- How much one entry puts out to a line.
use Rattle.std.specs.Prelude.{ℕ, ◌==◌, ◌≤◌, List, filter, length, map}
use Rattle.xp_step.specs.declared.output.Outgoing.{Outgoing}
use Rattle.xp_step.specs.declared.output.Output.{Output}

module _ {A : Type 0} where
  -- the outputs to a line, in order
  abbrev pub to_line : ℕ → List (Output A) → List (Outgoing A)
  to_line line outputs = map (λ output. output.outgoing) (filter (λ output. output.line == line) outputs)

  -- each line gets at most 17: a window may have 15 packets, and an RNR and an interrupt may come before them
  abbrev pub AreFew : List (Output A) → Type 0
  AreFew outputs = (line : ℕ) → length (to_line line outputs) ≤ 17
