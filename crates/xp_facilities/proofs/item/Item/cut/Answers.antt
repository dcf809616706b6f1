use Rattle.xp_facilities.proofs.Reading.{cut-short, cut-long, octets_of-cut}
use Rattle.xp_facilities.proofs.item.Item.cut.Goals as goal

pub returns-then-behind-count : goal.returns-then-behind-count
returns-then-behind-count c = cut-short _ _ _ c.if-behind-count.true

pub invariant_of-item : goal.invariant_of-item
invariant_of-item c =
    rw (c.split_at.ensures.front, c.split_at.ensures.back)
    (octets_of-cut c.args.octets.now c.args.behind.now c.args.code c.args.count c.requires c.if-behind-count.false)

pub returns : goal.returns
returns c = rw (c.split_at.ensures.front, c.split_at.ensures.back) (cut-long _ _ _ c.if-behind-count.false)
