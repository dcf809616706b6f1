use Rattle.std.proofs.Common.{arith}
use Rattle.xp_facilities.proofs.Reading.{first_item-fixed, first_item-counted, first_item-short}
use Rattle.xp_facilities.proofs.item.Item.first.Goals as goal
use Rattle.xp_facilities.proofs.item.Item.first.Goals.{in_default-via-then-octets-lt1, in_default-via-in-len1-up+else-code-lt-FIRST_COUNTED+then-octets-lt2}
use borrow.Author.Tests.{ltb-true}

pub returns-in-len1-up : goal.returns-in-len1-up
returns-in-len1-up c =
    rw (first_item-fixed c.args.octets.now c.in-len1-up.len_at_least c.if-code-lt-FIRST_COUNTED.true) (rw c.from.ensures at c.cut.ensures)

pub returns-in-len2-up : goal.returns-in-len2-up
returns-in-len2-up c =
    rw (first_item-counted c.args.octets.now c.in-len2-up.len_at_least c.if-code-lt-FIRST_COUNTED.false)
    (rw c.from-in-len2-up.ensures at c.cut-in-len2-up.ensures)

pub returns-in_default : goal.returns-in_default
returns-in_default c =
    elim c.in_default.branch [
      | in_default-via-then-octets-lt1 w ↦
          first_item-short c.args.octets.now (omega (arith, ltb-true)) (λ h. omega (arith, ltb-true))
      | in_default-via-in-len1-up+else-code-lt-FIRST_COUNTED+then-octets-lt2 w ↦
          first_item-short c.args.octets.now (omega (arith, ltb-true)) (λ h. omega (arith, ltb-true))
    ]
