use Rattle.std.proofs.Common.{◌∙◌, codes, option_map}
use Rattle.clap.specs.Words.{found_of, rows_of}
use Rattle.clap.proofs.WalkLemmas.{first_value-rows}
use Rattle.xp_arguments.proofs.Errands.{either_is, has_live, has_no_live}
use Rattle.xp_arguments.proofs.serve_order.live_of.Goals as goal

pub returns-clause-found : goal.returns-clause-found
returns-clause-found c =
    let matches = found_of c.args.matches.now in
    let file = c.get_str-file.ensures ∙ first_value-rows matches (codes "cdr") in
    let directory = c.get_str-directory.ensures ∙ first_value-rows matches (codes "cdr-dir") in
    has_live (rows_of matches) _ _ _ (c.get_str-path.ensures ∙ first_value-rows matches (codes "live"))
    (either_is _ _ _ _ _ c.either_of-details.ensures file directory) c.is_true-is_off.ensures _ (option_map (λ path. path.now)) c.live_at.ensures.found

pub returns-clause-none : goal.returns-clause-none
returns-clause-none c =
    let matches = found_of c.args.matches.now in
    let file = c.get_str-file.ensures ∙ first_value-rows matches (codes "cdr") in
    let directory = c.get_str-directory.ensures ∙ first_value-rows matches (codes "cdr-dir") in
    has_no_live (rows_of matches) _ _ _ (c.get_str-path.ensures ∙ first_value-rows matches (codes "live"))
    (either_is _ _ _ _ _ c.either_of-details.ensures file directory) c.is_true-is_off.ensures _ c.live_at.ensures.none
