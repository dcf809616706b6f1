use Rattle.std.proofs.Common.{rules}
use Rattle.xp_groups.proofs.Answered.{entered, let_in, kept_out}
use Rattle.xp_groups.proofs.admission.admit.Goals as goal
use Rattle.xp_groups.proofs.admission.admit.Goals.{in_default-via-in-Some+else-not-held, in_default-via-in_default}

pub returns-in-Some : goal.returns-in-Some
returns-in-Some c =
    entered _ _ _ c.comes_from_outside-from_outside.ensures.no_groups c.comes_from_outside-from_outside.ensures.groups
    c.in-Some.held _ (cc) (search rules) c.indicated_selection.ensures.with_outside_access c.indicated_selection.ensures.closed

pub returns-in_default : goal.returns-in_default
returns-in_default c =
    let_in _ _ _ c.comes_from_outside-from_outside.ensures.no_groups c.comes_from_outside-from_outside.ensures.groups
    (λ held is. elim c.in_default.branch [
      | in_default-via-in-Some+else-not-held w ↦ search rules
      | in_default-via-in_default w ↦ search rules
    ])
    c.if-from_outside.true

pub returns-in_default-2 : goal.returns-in_default-2
returns-in_default-2 c =
    kept_out _ _ _ c.comes_from_outside-from_outside.ensures.no_groups c.comes_from_outside-from_outside.ensures.groups
    (λ held is. elim c.in_default.branch [
      | in_default-via-in-Some+else-not-held w ↦ search rules
      | in_default-via-in_default w ↦ search rules
    ])
    c.if-from_outside.false
