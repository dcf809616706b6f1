use Rattle.std.proofs.Common.{◌≡◌, ◌∙◌, None, Some, codes, rules, sym}
use Rattle.clap.specs.Words.{first_value, found_of, rows_of}
use Rattle.clap.proofs.WalkLemmas.{first_value-rows}
use Rattle.xp_arguments.proofs.Errands.{if_none, no_caller, no_dialled}
use Rattle.xp_arguments.proofs.subcommand.question_of.Goals as goal

pub returns-in_err-caller-clause-none : goal.returns-in_err-caller-clause-none
returns-in_err-caller-clause-none c =
    let matches = found_of c.args.matches.now in
    let read : first_value matches (codes "CALLER") ≡ None = search rules in
    if_none _ _ (no_caller (rows_of matches) (sym (first_value-rows matches (codes "CALLER")) ∙ read))

pub returns-in_err-dialled-clause-none : goal.returns-in_err-dialled-clause-none
returns-in_err-dialled-clause-none c =
    let matches = found_of c.args.matches.now in
    let read : first_value matches (codes "DIALLED") ≡ None = search rules in
    if_none _ _ (no_dialled (rows_of matches) (sym (first_value-rows matches (codes "DIALLED")) ∙ read))

pub returns-clause-found : goal.returns-clause-found
returns-clause-found c =
    let matches = found_of c.args.matches.now in
    let caller : first_value matches (codes "CALLER") ≡ Some c.in_ok-caller.caller.now = search rules in
    let dialled : first_value matches (codes "DIALLED") ≡ Some c.in_ok-dialled.dialled.now = search rules in
    record {
      caller = sym caller ∙ first_value-rows matches (codes "CALLER");
      dialled = sym dialled ∙ first_value-rows matches (codes "DIALLED");
      facilities = c.get_str-facilities.ensures ∙ first_value-rows matches (codes "facilities");
      user = c.get_str-user.ensures ∙ first_value-rows matches (codes "user");
      up = c.get_str-up.ensures ∙ first_value-rows matches (codes "up");
      busy = c.get_str-busy.ensures ∙ first_value-rows matches (codes "busy");
      status = c.is_true-status.ensures;
    }
