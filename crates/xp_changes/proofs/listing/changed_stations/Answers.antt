use Rattle.std.proofs.Common.{◌≡◌, ◌+◌, ℕ, [], ◌∷◌, ◌++◌, subst, sym}
use Rattle.xp_changes.specs.Stations.{AreChanged, IsUnchanged}
use Rattle.xp_changes.proofs.Listed.{none_more, none_yet, one_more}
use Rattle.xp_changes.proofs.listing.changed_stations.Goals.{then-not-is_unchanged+in_ok-push, else-not-is_unchanged}
use Rattle.xp_changes.proofs.listing.changed_stations.Goals as goal

pub loop-number-init : goal.loop-number-init
loop-number-init c =
    let old = c.args.old.now in
    let new = c.args.new.now in
    let items : c.new-stations.result.items ≡ [] = cc in
    subst (AreChanged old new 0) (sym items) (none_yet (λ station. IsUnchanged old new station → ⊥))

pub loop-number-preserved : goal.loop-number-preserved
loop-number-preserved c =
    let old = c.args.old.now in
    let new = c.args.new.now in
    let number = c.loop-number.number in
    let stations = c.loop-number.stations.items in
    let changes : ℕ → Type 0 = λ station. IsUnchanged old new station → ⊥ in
    elim c.if-not-is_unchanged.branch [
      | then-not-is_unchanged+in_ok-push w ↦
          let items : c.if-not-is_unchanged.stations.items ≡ stations ++ number ∷ [] = cc w.in_ok-push.ensures.items in
          let changed : IsUnchanged old new number → ⊥ = λ same. let is = c.is_unchanged.ensures.1 same in absurd (cc) in
          subst (AreChanged old new (number + 1)) (sym items) (one_more changes number stations c.loop-number.invariant changed)
      | else-not-is_unchanged w ↦
          let items : c.if-not-is_unchanged.stations.items ≡ stations = cc in
          let same : IsUnchanged old new number = c.is_unchanged.ensures.0 (cc) in
          subst (AreChanged old new (number + 1)) (sym items) (none_more changes number stations c.loop-number.invariant (λ not. not same))
    ]
