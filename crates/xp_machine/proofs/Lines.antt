-- Lines, after one or two of them came to another state.
use Rattle.std.proofs.Common.{◌≡◌, ◌≢◌, ℕ, ◌<◌, List, length, get_or, set, arith, get_or-set_other, length-set}
use Rattle.std.proofs.lemmas.Bool.{cases_eq, cases_lt}
use Rattle.std.proofs.lemmas.Bool.Decides.{eqb_tells}
use Rattle.std.proofs.lemmas.Grind.{get_or-set_at}
use Rattle.std.proofs.lemmas.List.{get_or_past, get_or-replicate, length-replicate, set_past}
use Rattle.xp_machine.specs.World.{Line, line_at, off_line, opening}

-- what a line is after one line was set
pub data Once (lines : List Line) (at : ℕ) (becomes : Line) (line : ℕ) : Type 0 where
  it : line ≡ at → get_or (set lines at becomes) line off_line ≡ becomes → Once lines at becomes line
  another : line ≢ at → get_or (set lines at becomes) line off_line ≡ get_or lines line off_line → Once lines at becomes line

pub once : (lines : List Line) (at : ℕ) (becomes : Line) (line : ℕ) → at < length lines → Once lines at becomes line
once lines at becomes line within = grind (arith, cases_eq, get_or-set_at, get_or-set_other)

-- what a line is after one line was set, and then another
pub data Twice (lines : List Line) (first : ℕ) (x : Line) (second : ℕ) (y : Line) (line : ℕ) : Type 0 where
  late : line ≡ second → get_or (set (set lines first x) second y) line off_line ≡ y → Twice lines first x second y line
  early : line ≡ first → get_or (set (set lines first x) second y) line off_line ≡ x → Twice lines first x second y line
  never : line ≢ first → line ≢ second → get_or (set (set lines first x) second y) line off_line ≡ get_or lines line off_line → Twice lines first x second y line

pub twice : (lines : List Line) (first : ℕ) (x : Line) (second : ℕ) (y : Line) (line : ℕ)
    → first < length lines → second < length lines → Twice lines first x second y line
twice lines first x second y line within far_within = grind (arith, length-set, once)

-- a fact of all lines holds after one is set, if it holds of the new one
pub get_or-set : {X : Type 0} (P : X → Type 0) (items : List X) (at : ℕ) (item : X) (q : ℕ) (d : X) → P item → P (get_or items q d) → P (get_or (set items at item) q d)
get_or-set P items at item q d new old = grind (arith, cases_lt, eqb_tells, get_or-set_at, get_or-set_other, set_past)

pub line_at-opening : (count line : ℕ) → line_at (opening count) line ≡ off_line
line_at-opening count line = grind (arith, cases_lt, get_or-replicate, get_or_past, length-replicate)
