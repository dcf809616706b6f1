use Rattle.std.proofs.Common.{sym, ◌∙◌}
use Rattle.xp_subs.proofs.FillLemmas.{goes_nowhere, line_filled, line_gone, line_refused, line_skipped}
use Rattle.xp_subs.proofs.subs.Subs.fill_line.Goals as goal

pub returns-then-not-wants_place-clause-fills : goal.returns-then-not-wants_place-clause-fills
returns-then-not-wants_place-clause-fills c =
    line_skipped c.args.self.now c.args.next.now c.args.modulus c.args.line c.args.from c.args.places.now.of_lines.items c.args.places.now.holders.items
    c.requires.fills c.requires.within c.next.view_is c.index-entry.ensures c.index.ensures (sym c.wants_place.ensures ∙ c.if-not-wants_place.true)

pub returns-then-not-wants_place-clause-goes : goal.returns-then-not-wants_place-clause-goes
returns-then-not-wants_place-clause-goes c = goes_nowhere _ _ _ _ _

pub returns-in_default-clause-refused : goal.returns-in_default-clause-refused
returns-in_default-clause-refused c =
    line_refused c.args.self.now c.args.next.now c.args.modulus c.args.line c.args.from c.args.places.now.of_lines.items c.args.places.now.holders.items
    c.requires.fills c.requires.within c.next.view_is c.index-entry.ensures c.index.ensures c.self.view_is c.self.invariant.sound c.next.invariant.sound c.deref.ensures.value
    (sym c.wants_place.ensures ∙ c.if-not-wants_place.false) c.in_default.ensures.none c.copy.result c.copy.ensures

pub returns-clause-fills : goal.returns-clause-fills
returns-clause-fills c =
    rw (c.put.ensures.of_lines, c.put.ensures.holders)
    (line_filled c.args.self.now c.args.next.now c.args.modulus c.args.line c.args.from c.args.places.now.of_lines.items c.args.places.now.holders.items
    c.requires.fills c.requires.within c.next.view_is c.index-entry.ensures c.index.ensures c.self.view_is c.self.invariant.sound c.next.invariant.sound c.deref.ensures.value
    (sym c.wants_place.ensures ∙ c.if-not-wants_place.false) c.in-Some.at c.in-Some.ensures.found.1 c.in-Some.ensures.found.0 c.in-Some.ensures.found.2 c.in-Some.ensures.first)

pub returns-clause-goes : goal.returns-clause-goes
returns-clause-goes c =
    rw (c.put.ensures.of_lines, c.put.ensures.holders)
    (line_gone c.args.self.now c.args.next.now c.args.modulus c.args.line c.args.from c.args.places.now.of_lines.items c.args.places.now.holders.items
    c.requires.fills c.requires.within c.next.view_is c.index-entry.ensures c.index.ensures c.self.view_is c.self.invariant.sound c.next.invariant.sound c.deref.ensures.value
    (sym c.wants_place.ensures ∙ c.if-not-wants_place.false) c.in-Some.at c.in-Some.ensures.found.1 c.in-Some.ensures.found.0 c.in-Some.ensures.found.2 c.in-Some.ensures.first)
