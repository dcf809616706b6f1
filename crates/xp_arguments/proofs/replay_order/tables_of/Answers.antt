use Rattle.std.proofs.Common.{codes, subst, sym}
use Rattle.clap.specs.Words.{found_of, rows_of}
use Rattle.clap.proofs.WalkLemmas.{raw_values-rows}
use Rattle.xp_arguments.specs.Commands.{HasTables}
use Rattle.xp_arguments.proofs.NamedLemmas.{has_no_tables, has_tables, no_tables, texts_found}
use Rattle.xp_arguments.proofs.replay_order.tables_of.Goals as goal

pub returns-in-Some-clause-found : goal.returns-in-Some-clause-found
returns-in-Some-clause-found c =
    let matches = found_of c.args.matches.now in
    has_tables (rows_of matches) _ (texts_found (rows_of matches) _ _ c.in-Some.ensures (raw_values-rows matches (codes "tables"))) c.named_paths.result
    (λ tables. tables.items) c.named_paths.ensures.found

pub returns-in-Some-clause-none : goal.returns-in-Some-clause-none
returns-in-Some-clause-none c =
    let matches = found_of c.args.matches.now in
    has_no_tables (rows_of matches) _ (texts_found (rows_of matches) _ _ c.in-Some.ensures (raw_values-rows matches (codes "tables"))) c.named_paths.result
    c.named_paths.ensures.none

pub returns-in-None-clause-found : goal.returns-in-None-clause-found
returns-in-None-clause-found c =
    let matches = found_of c.args.matches.now in
    subst (HasTables (rows_of matches)) (sym c.new.ensures.items) (no_tables (rows_of matches) _ c.in-None.ensures (raw_values-rows matches (codes "tables")))
