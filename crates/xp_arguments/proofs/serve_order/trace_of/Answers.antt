use Rattle.std.proofs.Common.{◌∙◌, codes}
use Rattle.clap.specs.Words.{found_of, rows_of}
use Rattle.clap.proofs.WalkLemmas.{first_value-rows}
use Rattle.xp_arguments.proofs.Errands.{has_no_trace, has_trace}
use Rattle.xp_arguments.proofs.serve_order.trace_of.Goals as goal

pub returns-clause-found : goal.returns-clause-found
returns-clause-found c =
    let matches = found_of c.args.matches.now in
    has_trace (rows_of matches) _ _ (c.get_str-path.ensures ∙ first_value-rows matches (codes "trace"))
    (c.get_str-lines.ensures ∙ first_value-rows matches (codes "trace-lines")) _ c.trace_into.ensures.found

pub returns-clause-none : goal.returns-clause-none
returns-clause-none c =
    let matches = found_of c.args.matches.now in
    has_no_trace (rows_of matches) _ _ (c.get_str-path.ensures ∙ first_value-rows matches (codes "trace"))
    (c.get_str-lines.ensures ∙ first_value-rows matches (codes "trace-lines")) _ c.trace_into.ensures.none
