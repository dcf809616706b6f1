-- The lines that must go, found one after another.
use Rattle.std.proofs.Common.{ℕ, ◌+◌, ◌<◌, All, Contains, List, [], ◌∷◌, ◌++◌, refl, sym, subst, inl, inr, arith}
use Rattle.std.proofs.lemmas.Bool.{cases_eq}
use Rattle.std.proofs.lemmas.List.Elements.{All-push, Contains-append_left, Contains-append_right}
use Rattle.std.proofs.lemmas.List.Kept.{AllPairs-from_increasing}
use Rattle.std.proofs.lemmas.List.Quantifiers.{all_pairs_push}
use Rattle.std.specs.List.Sorted.{IsStrictlyIncreasing}
use Rattle.xp_subs.specs.Tables.{Tables, line_count}
use Rattle.xp_machine.specs.World.{World}
use Rattle.xp_reload.specs.Frame.{IsSameFrame}
use Rattle.xp_subs.specs.Sound.{IsSound}
use Rattle.xp_core.specs.Reload.{AreGoing, MayReplace, MustGo}
use Rattle.xp_core.specs.steps.Reload.{AreGoingBelow, IsIdle}

none_contained : (line : ℕ) → Contains [] line → ⊥
none_contained line has = let past = has.1 in omega (arith, past)

last_contained : (lines : List ℕ) (line : ℕ) → Contains (lines ++ line ∷ []) line
last_contained lines line = Contains-append_right lines (line ∷ []) line (0, omega arith, refl)

rising_push : (lines : List ℕ) (line : ℕ) → IsStrictlyIncreasing lines → All (λ l. l < line) lines → IsStrictlyIncreasing (lines ++ line ∷ [])
rising_push lines line rising below k within =
    all_pairs_push (λ x y. x < y) lines line (AllPairs-from_increasing lines rising) below k (k + 1) 0 (omega arith) within

module _ (force : Tables) (world : World) (next : Tables) where
  pub none_below : AreGoingBelow force world next 0 []
  none_below = grind arith

  -- the next line stays, or is out of service
  pub stays_below : (number : ℕ) (lines : List ℕ) → AreGoingBelow force world next number lines → (MustGo force world next number → ⊥) → AreGoingBelow force world next (number + 1) lines
  stays_below number lines going stays = grind (arith, cases_eq)

  -- the next line must go
  pub goes_below : (number : ℕ) (lines : List ℕ) → AreGoingBelow force world next number lines → MustGo force world next number
      → AreGoingBelow force world next (number + 1) (lines ++ number ∷ [])
  goes_below number lines going must = record {
    each = All-push (MustGo force world next) lines number going.each must;
    all = λ line within goes. elim (cases_eq line number) [
      | inl is ↦ subst (Contains (lines ++ number ∷ [])) (sym is) (last_contained lines number)
      | inr other ↦ Contains-append_left lines (number ∷ []) line (going.all line (omega (arith, within, other)) goes)
    ];
    below = All-push (λ l. l < number + 1) lines number (λ k d within. let before = going.below k d within in omega (arith, before)) (omega arith);
    rising = rising_push lines number going.rising going.below;
  }

  pub all_going : (lines : List ℕ) → AreGoingBelow force world next (line_count force) lines → AreGoing force world next lines
  all_going lines going = record { each = going.each; all = λ line must. going.all line must.known must; rising = going.rising }

  pub may_replace : IsSound next → IsSameFrame force next → IsIdle force world next (line_count force) → MayReplace force world next
  may_replace sound frame idle = grind arith
