use Rattle.std.proofs.Common.{◌≡◌, ◌∙◌, None, Some, ap, option_map, rules, sym}
use Rattle.clap.specs.Words.{first_of, first_value, found_of, rows_of, subcommand_rows_of}
use Rattle.clap.proofs.WalkLemmas.{first_value-rows}
use Rattle.xp_arguments.proofs.Errands.{asks_nothing, asks_without, asks_wrongly, pair_is}
use Rattle.xp_arguments.specs.Commands.{operand_of, word_of}
use Rattle.xp_arguments.proofs.arguments.Arguments.named.Goals as goal

pub returns-in_default-named-clause-none : goal.returns-in_default-named-clause-none
returns-in_default-named-clause-none c =
    let rows = rows_of (found_of c.in-Some.matches.now) in
    let word : option_map (λ pair. pair.0) (subcommand_rows_of c.args.matches.now) ≡ Some c.in-Some.word.now = search rules in
    let rows_are : option_map (λ pair. pair.1) (subcommand_rows_of c.args.matches.now) ≡ Some rows = search rules in
    asks_nothing _ _ _ (pair_is _ _ _ word rows_are) (rw c.in_default-named.is at c.named.ensures.none)

pub returns-in_default-get_str-clause-none : goal.returns-in_default-get_str-clause-none
returns-in_default-get_str-clause-none c =
    let matches = found_of c.in-Some.matches.now in
    let own = c.in-Some-named.verb in
    let read : first_value matches (operand_of own) ≡ None = search rules in
    let word : option_map (λ pair. pair.0) (subcommand_rows_of c.args.matches.now) ≡ Some c.in-Some.word.now = search rules in
    let rows_are : option_map (λ pair. pair.1) (subcommand_rows_of c.args.matches.now) ≡ Some (rows_of matches) = search rules in
    asks_without _ _ _ (pair_is _ _ _ word rows_are) own c.in-Some-named.ensures.found (sym (first_value-rows matches (operand_of own)) ∙ read)

pub returns-in-Some-2-clause-found : goal.returns-in-Some-2-clause-found
returns-in-Some-2-clause-found c =
    let matches = found_of c.in-Some.matches.now in
    let own = c.in-Some-named.verb in
    let read : first_value matches (operand_of own) ≡ Some c.in-Some-get_str.operand.now = search rules in
    let word : option_map (λ pair. pair.0) (subcommand_rows_of c.args.matches.now) ≡ Some c.in-Some.word.now = search rules in
    let rows_are : option_map (λ pair. pair.1) (subcommand_rows_of c.args.matches.now) ≡ Some (rows_of matches) = search rules in
    let is = rw c.in-Some-2.is at c.in_ok-subcommand.ensures.found in
    record {
      word = c.in-Some.word.now;
      rows = rows_of matches;
      found_is = pair_is _ _ _ word rows_are;
      subcommand_is = (c.in-Some-named.ensures.found ∙ ap word_of (sym is.0), is.1);
      named = ap (λ verb. first_of (operand_of verb) (rows_of matches)) is.0 ∙ sym (first_value-rows matches (operand_of own)) ∙ read;
    }
