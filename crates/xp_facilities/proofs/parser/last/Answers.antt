use Rattle.std.proofs.Common.{◌≡◌, true, false, sym, ◌∙◌, ap}
use Rattle.std.specs.Prelude.{option_copied}
use Rattle.xp_facilities.specs.Requested.{has_code, before_marker}
use Rattle.xp_facilities.proofs.Asking.{last-found, last-other, last-none, before_marker-marker}
use Rattle.xp_facilities.proofs.parser.last.Goals as goal

pub loop-item-preserved-then-contains : goal.loop-item-preserved-then-contains
loop-item-preserved-then-contains c =
    let has : has_code c.args.wanted.now c.in-Some.item ≡ true = sym (rw c.code-in-Some.ensures at c.contains.ensures.value) ∙ c.if-contains.true in
    rw c.parameters.ensures
    (last-found c.args.wanted.now c.args.items.now c.loop-item.left c.next.new.self c.in-Some.item (option_copied c.loop-item.found)
    c.in-Some.ensures (λ h. c.if-code-eq-MARKER.false (c.code.ensures ∙ h)) has c.loop-item.invariant)

pub loop-item-preserved : goal.loop-item-preserved
loop-item-preserved c =
    let has : has_code c.args.wanted.now c.in-Some.item ≡ false = sym (rw c.code-in-Some.ensures at c.contains.ensures.value) ∙ c.if-contains.false in
    last-other c.args.wanted.now c.args.items.now c.loop-item.left c.next.new.self c.in-Some.item (option_copied c.loop-item.found)
    c.in-Some.ensures (λ h. c.if-code-eq-MARKER.false (c.code.ensures ∙ h)) has c.loop-item.invariant

pub returns-then-code-eq-MARKER : goal.returns-then-code-eq-MARKER
returns-then-code-eq-MARKER c =
    last-none c.args.wanted.now c.args.items.now c.loop-item.left (option_copied c.loop-item.found)
    (ap before_marker c.in-Some.ensures ∙ before_marker-marker c.in-Some.item c.next.new.self (sym c.code.ensures ∙ c.if-code-eq-MARKER.true)) c.loop-item.invariant

pub returns-in_default : goal.returns-in_default
returns-in_default c =
    last-none c.args.wanted.now c.args.items.now c.loop-item.left (option_copied c.loop-item.found)
    (ap before_marker c.in_default.ensures.0) c.loop-item.invariant
