use Rattle.std.proofs.Common.{None, ap, refl, sym, ◌∙◌}
use Rattle.xp_file.specs.SubscriptionFile.{FileData}
use Rattle.xp_subs.proofs.FitLemmas.{file_fits}
use Rattle.xp_subs.proofs.GroupLemmas.{known_as}
use Rattle.xp_subs.proofs.read.parts_of.Goals as goal

pub group_names-requires : goal.group_names-requires
group_names-requires c =
    let shown = ap (λ (file : FileData). file.stations) c.file.view_is in
    file_fits c.args.file.now c.deref.result.now None (sym c.in_ok-check.ensures.checked.within) refl (c.deref.ensures.value ∙ shown) c.requires.each

pub stations-requires-clause-fit : goal.stations-requires-clause-fit
stations-requires-clause-fit c =
    let shown = ap (λ (file : FileData). file.stations) c.file.view_is in
    file_fits c.args.file.now c.deref-2.result.now None (sym c.in_ok-check.ensures.checked.within) refl (c.deref-2.ensures.value ∙ shown) c.requires.each

pub stations-requires-clause-mentioned : goal.stations-requires-clause-mentioned
stations-requires-clause-mentioned c =
    known_as _ _ _ _ c.in_ok-known.ensures.names c.deref.ensures.value c.deref-2.ensures.value

pub places-requires : goal.places-requires
places-requires c =
    file_fits c.args.file.now c.args.file.now.stations None (sym c.in_ok-check.ensures.checked.within) refl refl c.requires.each
