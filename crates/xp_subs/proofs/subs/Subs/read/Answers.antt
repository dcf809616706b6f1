use Rattle.std.proofs.Common.{None, refl, sym}
use Rattle.std.proofs.lemmas.Result.{err_from_is_err_and}
use Rattle.xp_subs.proofs.FitLemmas.{file_fits, places_fit}
use Rattle.xp_subs.proofs.GroupLemmas.{groups_counted}
use Rattle.xp_subs.proofs.ReadLemmas.{set_up}
use Rattle.xp_subs.proofs.subs.Subs.read.Goals as goal

pub put_together-requires-clause-fit : goal.put_together-requires-clause-fit
put_together-requires-clause-fit c =
    file_fits c.in_ok-file.file c.in_ok-file.file.stations None (sym c.in_ok-parts.ensures.checked.within) refl refl c.in_ok-file.ensures.each

pub put_together-requires-clause-places : goal.put_together-requires-clause-places
put_together-requires-clause-places c = places_fit c.in_ok-file.file c.in_ok-parts.ensures.checked.within

pub returns-clause-groups : goal.returns-clause-groups
returns-clause-groups c = rw (c.in_ok-file.ensures.ok, c.put_together.ensures) (groups_counted c.in_ok-file.file)

pub returns-in_err-parts-clause-refused : goal.returns-in_err-parts-clause-refused
returns-in_err-parts-clause-refused c =
    let p = err_from_is_err_and c.from_residual-in_err-parts.result c.from_residual-in_err-parts.ensures.1 in
    rw (p.1, p.2) (λ apart. c.in_err-parts.ensures.refused apart c.args.text.now c.in_ok-file.ensures.ok)

pub returns-clause-ok : goal.returns-clause-ok
returns-clause-ok c =
    let checked = c.in_ok-parts.ensures.checked in
    let stations = c.in_ok-file.file.stations in
    set_up c.args.text.now c.in_ok-file.file c.in_ok-file.ensures.ok stations stations stations refl refl refl None (sym checked.within) refl
    c.parts_of.new.uses checked.once checked.callers checked.own _ c.put_together.ensures
