-- No more lines come than there are places.
use Rattle.std.proofs.Common.{ℕ, zero, suc, ◌+◌, ◌≤◌, Bool, true, false, arith, if◌then◌else◌}
use Rattle.xp_subs.specs.Tables.{Tables}
use Rattle.xp_transcript.specs.Changed.{comes, coming}

one_more : (one : Bool) (count lines : ℕ) → count ≤ lines → count + (if one then 1 else 0) ≤ suc lines
one_more true count lines few = omega (arith, few)
one_more false count lines few = omega (arith, few)

pub coming_within : (old next : Tables) (lines : ℕ) → coming old next lines ≤ lines
coming_within old next zero = omega arith
coming_within old next (suc lines) = one_more (comes old next lines) (coming old next lines) lines (coming_within old next lines)
