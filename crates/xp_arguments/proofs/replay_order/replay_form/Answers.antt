use Rattle.std.proofs.Common.{◌∙◌, codes}
use Rattle.clap.specs.Words.{found_of, rows_of}
use Rattle.clap.proofs.WalkLemmas.{first_value-rows}
use Rattle.xp_arguments.proofs.Errands.{has_form, has_no_form}
use Rattle.xp_arguments.proofs.replay_order.replay_form.Goals as goal

pub returns-clause-found : goal.returns-clause-found
returns-clause-found c =
    let matches = found_of c.args.matches.now in
    has_form (rows_of matches) _ _ _ c.is_true-words.ensures c.is_true-ladder.ensures (c.get_str-capture.ensures ∙ first_value-rows matches (codes "pcap")) _
    c.one_form.ensures.found

pub returns-clause-none : goal.returns-clause-none
returns-clause-none c =
    let matches = found_of c.args.matches.now in
    has_no_form (rows_of matches) _ _ _ c.is_true-words.ensures c.is_true-ladder.ensures (c.get_str-capture.ensures ∙ first_value-rows matches (codes "pcap")) _
    c.one_form.ensures.none
