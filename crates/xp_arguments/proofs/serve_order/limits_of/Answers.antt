use Rattle.std.proofs.Common.{codes, option_map, ◌∙◌}
use Rattle.clap.specs.Words.{found_of, rows_of}
use Rattle.clap.proofs.WalkLemmas.{first_value-rows}
use Rattle.xp_arguments.specs.Commands.{HasLimits}
use Rattle.xp_limits.specs.Limits.{AreLimits}
use Rattle.xp_limits.specs.declared.limits.Limits.{Limits}
use Rattle.xp_arguments.proofs.Errands.{are_limits, has_limits, if_none_then, if_some_then}
use Rattle.xp_arguments.proofs.serve_order.limits_of.Goals as goal

pub returns-clause-found : goal.returns-clause-found
returns-clause-found c =
    let matches = found_of c.args.matches.now in
    let records = c.get_str-records.ensures ∙ first_value-rows matches (codes "records") in
    let turns = c.get_str-turns.ensures ∙ first_value-rows matches (codes "turns") in
    let threads = c.get_str-threads.ensures ∙ first_value-rows matches (codes "threads") in
    if_some_then _ _ _ (has_limits (rows_of matches) _ _ _ records turns threads) c.read.ensures.right

pub returns-clause-none : goal.returns-clause-none
returns-clause-none c =
    let matches = found_of c.args.matches.now in
    let records = c.get_str-records.ensures ∙ first_value-rows matches (codes "records") in
    let turns = c.get_str-turns.ensures ∙ first_value-rows matches (codes "turns") in
    let threads = c.get_str-threads.ensures ∙ first_value-rows matches (codes "threads") in
    let are = are_limits (rows_of matches) _ _ _ records turns threads in
    let text_of = option_map (λ text. text.now) in
    let AreNone : Type 0 = (limits : Limits) → AreLimits (text_of c.get_str-records.result) (text_of c.get_str-turns.result) (text_of c.get_str-threads.result) limits → ⊥ in
    let wrong : AreNone → (limits : Limits) → HasLimits (rows_of matches) limits → ⊥ = λ none limits has. none limits (are limits has) in
    if_none_then _ _ _ wrong c.read.ensures.wrong
