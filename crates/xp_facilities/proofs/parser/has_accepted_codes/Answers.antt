use Rattle.std.proofs.Common.{◌≡◌, true, false, sym, ◌∙◌, ap}
use Rattle.xp_facilities.specs.Requested.{has_code, accepted_codes, has_accepted_codes}
use Rattle.xp_facilities.proofs.Asking.{accepted-marker, accepted-other, accepted-wrong, accepted-none}
use Rattle.std.proofs.lemmas.Bool.{ne_eqb}
use Rattle.xp_facilities.proofs.parser.has_accepted_codes.Goals as goal

pub loop-item-preserved : goal.loop-item-preserved
loop-item-preserved c =
    let has : has_code accepted_codes c.in-Some.item ≡ true = sym (rw c.code-in-Some.ensures at c.contains.ensures.value) ∙ c.if-not-contains.false in
    sym (ap has_accepted_codes c.in-Some.ensures
    ∙ accepted-other c.in-Some.item c.next.new.self (ne_eqb c.in-Some.item.code 0 (λ h. c.if-code-eq-MARKER.false (c.code.ensures ∙ h))) has)
    ∙ c.loop-item.invariant

pub returns-then-not-contains : goal.returns-then-not-contains
returns-then-not-contains c =
    let has : has_code accepted_codes c.in-Some.item ≡ false = sym (rw c.code-in-Some.ensures at c.contains.ensures.value) ∙ c.if-not-contains.true in
    sym (accepted-wrong c.in-Some.item c.next.new.self (ne_eqb c.in-Some.item.code 0 (λ h. c.if-code-eq-MARKER.false (c.code.ensures ∙ h))) has)
    ∙ ap has_accepted_codes (sym c.in-Some.ensures)
    ∙ c.loop-item.invariant

pub returns-then-code-eq-MARKER : goal.returns-then-code-eq-MARKER
returns-then-code-eq-MARKER c =
    sym (accepted-marker c.in-Some.item c.next.new.self (sym c.code.ensures ∙ c.if-code-eq-MARKER.true))
    ∙ ap has_accepted_codes (sym c.in-Some.ensures)
    ∙ c.loop-item.invariant

pub returns-in_default : goal.returns-in_default
returns-in_default c = sym accepted-none ∙ ap has_accepted_codes (sym c.in_default.ensures.0) ∙ c.loop-item.invariant
