use Rattle.std.proofs.Common.{length, refl, sym, ◌∙◌}
use Rattle.std.proofs.lemmas.Bool.{eqb-true}
use Rattle.std.proofs.lemmas.Option.{slice_get_read}
use Rattle.xp_lock.proofs.InPlace.{stands_there}
use Rattle.xp_lock.proofs.missing.is_in_its_place.Goals as goal

pub returns-in-Some : goal.returns-in-Some
returns-in-Some g c same =
    let pass = c.in-Some.pass.now in
    let passes = c.args.passes.now in
    let there = slice_get_read passes (length passes) c.from.result pass refl c.in-Some.ensures.lookup.3.0 c.in-Some.ensures.lookup.1 in
    stands_there passes c.from.result c.args.line pass there (sym c.line.ensures.line ∙ eqb-true c.line.result c.args.line same)
