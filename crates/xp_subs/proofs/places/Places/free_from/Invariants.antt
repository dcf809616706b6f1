use Rattle.std.proofs.Common.{◌≡◌, ℕ, ◌<◌, ◌≤◌, false, length}
use Rattle.xp_subs.specs.steps.Places.{is_free}
use Rattle.xp_subs.proofs.places.Places.free_from.Given as goal

abbrev pub invariant-loop-at : goal.invariant-loop-at
invariant-loop-at l =
    (k : ℕ) → l.from ≤ k → k < l.at → is_free l.old l.self.holders.items (length l.self.of_lines.items) l.modulus k ≡ false
