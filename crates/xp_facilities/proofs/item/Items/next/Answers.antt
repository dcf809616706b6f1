use Rattle.std.proofs.Common.{◌≡◌, sym, ◌∙◌, []}
use Rattle.xp_facilities.proofs.Reading.{items_of-more, items_of-none}
use Rattle.xp_facilities.proofs.item.Items.next.Goals as goal

pub returns-in_err-item : goal.returns-in_err-item
returns-in_err-item c =
    let none : c.args.self.now ≡ [] = sym c.self.view_is ∙ items_of-none c.self.inside.octets.now c.in_err-item.ensures c.self.invariant in
    rw c.from_residual.ensures (none, none)

pub invariant_of-self : goal.invariant_of-self
invariant_of-self c =
    (items_of-more c.self.inside.octets.now c.in_ok-item.item c.in_ok-item.behind.now c.in_ok-item.ensures c.self.invariant).0

pub returns : goal.returns
returns c =
    sym c.self.view_is
    ∙ (items_of-more c.self.inside.octets.now c.in_ok-item.item c.in_ok-item.behind.now c.in_ok-item.ensures c.self.invariant).1
