use Rattle.std.specs.List.{AllWithin}
use Rattle.xp_summary.specs.steps.Ways.{LetsThroughIn}
use Rattle.xp_summary.proofs.reach.lets_through_in_some.Given as goal

-- none of the groups before lets a call through
abbrev pub invariant-loop-held : goal.invariant-loop-held
invariant-loop-held l = AllWithin (λ held. LetsThroughIn l.caller l.called held → ⊥) l.caller.memberships.items 0 l.held-index
