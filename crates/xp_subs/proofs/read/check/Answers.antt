use Rattle.std.proofs.Common.{ap, refl, sym, ◌∙◌}
use Rattle.std.proofs.lemmas.Result.{err_from_is_err_and}
use Rattle.std.specs.List.{list_all}
use Rattle.xp_file.specs.SubscriptionFile.{FileData}
use Rattle.xp_subs.specs.Passes.{all_differ, has_own_indexes}
use Rattle.xp_subs.specs.steps.DefaultCallers.{are_rivals}
use Rattle.xp_subs.specs.steps.Passes.{nothing_used, with_stations}
use Rattle.xp_subs.proofs.FitLemmas.{file_fits}
use Rattle.xp_subs.proofs.ReadLemmas.{refused_twice, refused_callers, refused_index}
use Rattle.xp_subs.proofs.read.check.Goals as goal

pub enter_stations-requires : goal.enter_stations-requires
enter_stations-requires c =
    let shown = ap (λ (file : FileData). file.stations) c.file.view_is in
    file_fits c.args.file.now c.deref.result.now c.file_over.result c.file_over.ensures c.in_default.is (c.deref.ensures.value ∙ shown) c.requires.each

pub returns-in_err-enter_stations-clause-refused : goal.returns-in_err-enter_stations-clause-refused
returns-in_err-enter_stations-clause-refused c =
    let shown = ap (λ (file : FileData). file.stations) c.file.view_is in
    let p = err_from_is_err_and c.from_residual.result c.from_residual.ensures.1 in
    rw (p.1, p.2) (λ apart text read. refused_twice text c.args.file.now read c.deref.result.now c.args.file.now.stations
    c.args.file.now.stations (c.deref.ensures.value ∙ shown) refl refl c.file_over.result c.file_over.ensures c.in_default.is _
    (ap (with_stations 0 0 c.deref.result.now) (sym c.requires.begun) ∙ c.in_err-enter_stations.ensures.refused apart))

pub returns-then-not-default_callers_differ-clause-refused : goal.returns-then-not-default_callers_differ-clause-refused
returns-then-not-default_callers_differ-clause-refused c =
    let shown = ap (λ (file : FileData). file.stations) c.file.view_is in
    λ apart text read. refused_callers text c.args.file.now read c.deref.result.now c.deref-2.result.now
    c.args.file.now.stations (c.deref.ensures.value ∙ shown) (c.deref-2.ensures.value ∙ shown) refl
    c.file_over.result c.file_over.ensures c.in_default.is _
    (ap (with_stations 0 0 c.deref.result.now) (sym c.requires.begun) ∙ c.in_ok-enter_stations.ensures.ok)
    (sym c.default_callers_differ.ensures ∙ c.if-not-default_callers_differ.true)

pub returns-then-not-all_have_own_indexes-clause-refused : goal.returns-then-not-all_have_own_indexes-clause-refused
returns-then-not-all_have_own_indexes-clause-refused c =
    let shown = ap (λ (file : FileData). file.stations) c.file.view_is in
    λ apart text read. refused_index text c.args.file.now read c.deref.result.now c.deref-2.result.now c.deref-3.result.now
    (c.deref.ensures.value ∙ shown) (c.deref-2.ensures.value ∙ shown) (c.deref-3.ensures.value ∙ shown)
    c.file_over.result c.file_over.ensures c.in_default.is _
    (ap (with_stations 0 0 c.deref.result.now) (sym c.requires.begun) ∙ c.in_ok-enter_stations.ensures.ok)
    (sym c.default_callers_differ.ensures ∙ c.if-not-default_callers_differ.false)
    (sym c.all_have_own_indexes.ensures ∙ c.if-not-all_have_own_indexes.true)

pub returns-clause-checked : goal.returns-clause-checked
returns-clause-checked c =
    let shown = ap (λ (file : FileData). file.stations) c.file.view_is in
    record {
      within = sym c.file_over.ensures ∙ c.in_default.is;
      once =
          ap (λ stations. with_stations 0 0 stations nothing_used) (sym (c.deref.ensures.value ∙ shown))
          ∙ ap (with_stations 0 0 c.deref.result.now) (sym c.requires.begun) ∙ c.in_ok-enter_stations.ensures.ok;
      callers =
          ap (all_differ are_rivals) (sym (c.deref-2.ensures.value ∙ shown)) ∙ sym c.default_callers_differ.ensures
          ∙ c.if-not-default_callers_differ.false;
      own =
          ap (list_all has_own_indexes) (sym (c.deref-3.ensures.value ∙ shown)) ∙ sym c.all_have_own_indexes.ensures
          ∙ c.if-not-all_have_own_indexes.false;
    }
