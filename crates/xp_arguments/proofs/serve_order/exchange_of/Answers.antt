use Rattle.std.proofs.Common.{◌∙◌, codes, option_map}
use Rattle.clap.specs.Words.{found_of, rows_of}
use Rattle.clap.proofs.WalkLemmas.{first_value-rows}
use Rattle.xp_arguments.proofs.Errands.{has_name, has_no_name}
use Rattle.xp_arguments.proofs.serve_order.exchange_of.Goals as goal

pub returns-clause-found : goal.returns-clause-found
returns-clause-found c =
    let matches = found_of c.args.matches.now in
    has_name (rows_of matches) _ (c.get_str-name.ensures ∙ first_value-rows matches (codes "name")) _ (option_map (λ name. name.now)) c.named_so.ensures.found

pub returns-clause-none : goal.returns-clause-none
returns-clause-none c =
    let matches = found_of c.args.matches.now in
    has_no_name (rows_of matches) _ (c.get_str-name.ensures ∙ first_value-rows matches (codes "name")) _ c.named_so.ensures.none
