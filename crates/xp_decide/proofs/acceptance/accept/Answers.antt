use Rattle.std.proofs.Common.{rules, refl}
use Rattle.xp_decide.specs.Accepts.{reverse_charging, fast_select}
use Rattle.xp_decide.proofs.acceptance.accept.Goals as goal
use Rattle.xp_decide.proofs.acceptance.accept.Goals.{else-wanted-via-then-wanted+else-not-station, else-wanted-via-else-wanted}

pub returns-then-not-station : goal.returns-then-not-station
returns-then-not-station c =
    reverse_charging c.in_ok-admission.admission c.if-station.false c.in_ok-admission.ensures c.if-wanted.true c.if-not-station.true refl

pub returns-then-not-station-2 : goal.returns-then-not-station-2
returns-then-not-station-2 c =
    fast_select c.in_ok-admission.admission c.if-station.false c.in_ok-admission.ensures
    (λ h. elim c.else-wanted.branch [
      | else-wanted-via-then-wanted+else-not-station w ↦ search rules
      | else-wanted-via-else-wanted w ↦ cc (w.if-wanted.false, h)
    ])
    c.if-wanted-2.true c.if-not-station-2.true refl
