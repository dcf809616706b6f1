use Rattle.std.proofs.Common.{◌∙◌, codes}
use Rattle.clap.specs.Words.{found_of, rows_of}
use Rattle.clap.proofs.WalkLemmas.{first_value-rows}
use Rattle.xp_arguments.proofs.Errands.{has_details, has_no_details}
use Rattle.xp_arguments.proofs.details_order.details_of.Goals as goal

pub returns-clause-found : goal.returns-clause-found
returns-clause-found c =
    let matches = found_of c.args.matches.now in
    has_details (rows_of matches) _ _ (c.get_str-file.ensures ∙ first_value-rows matches (codes "cdr"))
    (c.get_str-directory.ensures ∙ first_value-rows matches (codes "cdr-dir")) _ c.details_into.ensures.found

pub returns-clause-none : goal.returns-clause-none
returns-clause-none c =
    let matches = found_of c.args.matches.now in
    has_no_details (rows_of matches) _ _ (c.get_str-file.ensures ∙ first_value-rows matches (codes "cdr"))
    (c.get_str-directory.ensures ∙ first_value-rows matches (codes "cdr-dir")) _ c.details_into.ensures.none
