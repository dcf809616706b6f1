use Rattle.xp_packets.specs.declared.modulus.Modulus.TheVariants.{Eight, Long}
use Rattle.xp_subs.proofs.FillLemmas.{first_begins, second_begins}
use Rattle.xp_subs.proofs.LaidLemmas.{laid_as}
use Rattle.xp_subs.proofs.subs.Subs.laid_lines.Goals as goal

pub fill-requires : goal.fill-requires
fill-requires c =
    first_begins _ _ c.args.self.now c.args.next.now c.self.view_is c.next.view_is c.self.invariant.sound c.next.invariant.sound
    c.in_ok-of_lines.ensures c.deref.ensures.value c.in_ok-holders.ensures c.deref-2.ensures.value c.in_ok-check_moduli.ensures.fit Eight

pub fill-requires-2 : goal.fill-requires-2
fill-requires-2 c =
    second_begins c.args.self.now c.args.next.now _ _ c.fill.new.places.of_lines.items c.fill.new.places.holders.items
    (first_begins _ _ c.args.self.now c.args.next.now c.self.view_is c.next.view_is c.self.invariant.sound c.next.invariant.sound
    c.in_ok-of_lines.ensures c.deref.ensures.value c.in_ok-holders.ensures c.deref-2.ensures.value c.in_ok-check_moduli.ensures.fit Long)
    c.in_ok-fill.ensures.goes c.in_ok-fill.ensures.filled

pub returns-clause-laid : goal.returns-clause-laid
returns-clause-laid c =
    laid_as _ _ c.args.self.now c.args.next.now c.self.view_is c.next.view_is c.self.invariant.sound c.fill-2.new.places.of_lines.items
    c.fill-2.new.places.holders.items c.in_ok-lines.lines.items c.fill.new.places.of_lines.items c.fill.new.places.holders.items
    c.in_ok-fill.ensures.filled c.in_ok-fill-2.ensures.goes c.in_ok-fill-2.ensures.filled c.deref-3.ensures.value c.deref-4.ensures.value c.in_ok-lines.ensures
