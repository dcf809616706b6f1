-- The stations that a caller reaches, looked through one by one.
use Rattle.std.proofs.Common.{◌≡◌, ℕ, ◌+◌, ◌<◌, Bool, true, false, refl, arith, below_more}
use Rattle.xp_subs.specs.Tables.{Tables, station_count}
use Rattle.xp_summary.proofs.Reaching.{reach_determined}
use Rattle.xp_summary.specs.Reach.{IsReach}
use Rattle.xp_summary.specs.Warnings.{NeedsSelection}
use Rattle.xp_summary.specs.declared.reach.Reach.{Reach}
use Rattle.xp_summary.specs.declared.reach.Reach.TheVariants.{Plain, Selecting, Never}

-- of the stations before this one, none is reached without a selection, and whether some is reached with one is known
pub record SoFar (tables : Tables) (caller past : ℕ) (selects : Bool) : Type 0 where
  pub never_plain : (called : ℕ) → called < past → IsReach tables caller called Plain → ⊥
  pub some : selects ≡ true → (called : ℕ) × (called < past) × IsReach tables caller called Selecting
  pub none : selects ≡ false → (called : ℕ) → called < past → IsReach tables caller called Selecting → ⊥

pub nothing_yet : (tables : Tables) (caller : ℕ) → SoFar tables caller 0 false
nothing_yet tables caller = record {
  never_plain = λ called below plain. absurd (omega (arith, below));
  some = λ e. cc;
  none = λ e called below selecting. absurd (omega (arith, below));
}

module _ (tables : Tables) (caller past : ℕ) (selects : Bool) (so_far : SoFar tables caller past selects) where
  other_than_plain : (reach : Reach) → IsReach tables caller past reach → (Plain ≡ reach → ⊥) → (called : ℕ) → called < past + 1
      → IsReach tables caller called Plain → ⊥
  other_than_plain reach is other =
      below_more (λ (called : ℕ). IsReach tables caller called Plain → ⊥) past so_far.never_plain
      (λ plain. other (reach_determined tables caller past Plain reach plain is))

  pub one_selecting : IsReach tables caller past Selecting → SoFar tables caller (past + 1) true
  one_selecting is = record {
    never_plain = other_than_plain Selecting is (λ e. cc);
    some = λ e. (past, omega arith, is);
    none = λ e. cc;
  }

  pub one_never : IsReach tables caller past Never → SoFar tables caller (past + 1) selects
  one_never is = record {
    never_plain = other_than_plain Never is (λ e. cc);
    some = λ e. let s = so_far.some e in (s.0, omega (arith, s.1), s.2);
    none = λ e.
        below_more (λ (called : ℕ). IsReach tables caller called Selecting → ⊥) past (so_far.none e)
        (λ selecting. let same = reach_determined tables caller past Selecting Never selecting is in cc);
  }

-- all of them
pub needs : (tables : Tables) (caller : ℕ) (selects : Bool) → SoFar tables caller (station_count tables) selects → selects ≡ true → NeedsSelection tables caller
needs tables caller selects so_far e =
    let s = so_far.some e in
    record { called = s.0; known = s.1; selecting = s.2; never_plain = so_far.never_plain }

pub needed : (tables : Tables) (caller : ℕ) (selects : Bool) → SoFar tables caller (station_count tables) selects → NeedsSelection tables caller → selects ≡ true
needed tables caller true so_far needs_one = refl
needed tables caller false so_far needs_one = absurd (so_far.none refl needs_one.called needs_one.known needs_one.selecting)
