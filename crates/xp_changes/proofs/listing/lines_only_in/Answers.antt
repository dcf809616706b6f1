use Rattle.std.proofs.Common.{◌≡◌, ◌+◌, ℕ, [], ◌∷◌, ◌++◌, subst, sym}
use Rattle.xp_changes.specs.Lines.{IsOnlyIn}
use Rattle.xp_changes.specs.Numbers.{AreAllOf}
use Rattle.xp_changes.proofs.Listed.{none_more, none_yet, one_more}
use Rattle.xp_changes.proofs.listing.lines_only_in.Goals.{then-is_only_in+in_ok-push, else-is_only_in}
use Rattle.xp_changes.proofs.listing.lines_only_in.Goals as goal

pub loop-number-init : goal.loop-number-init
loop-number-init c =
    let only : ℕ → Type 0 = IsOnlyIn c.args.subs.now c.args.others.now in
    let items : c.new-lines.result.items ≡ [] = cc in
    subst (AreAllOf only 0) (sym items) (none_yet only)

pub loop-number-preserved : goal.loop-number-preserved
loop-number-preserved c =
    let number = c.loop-number.number in
    let lines = c.loop-number.lines.items in
    let only : ℕ → Type 0 = IsOnlyIn c.args.subs.now c.args.others.now in
    elim c.if-is_only_in.branch [
      | then-is_only_in+in_ok-push w ↦
          let items : c.if-is_only_in.lines.items ≡ lines ++ number ∷ [] = cc w.in_ok-push.ensures.items in
          let held : only number = c.is_only_in.ensures.0 (cc) in
          subst (AreAllOf only (number + 1)) (sym items) (one_more only number lines c.loop-number.invariant held)
      | else-is_only_in w ↦
          let items : c.if-is_only_in.lines.items ≡ lines = cc in
          let not : only number → ⊥ = λ held. let is = c.is_only_in.ensures.1 held in absurd (cc) in
          subst (AreAllOf only (number + 1)) (sym items) (none_more only number lines c.loop-number.invariant not)
    ]
