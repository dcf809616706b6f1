use Rattle.std.proofs.Common.{◌∙◌, codes}
use Rattle.clap.specs.Words.{found_of}
use Rattle.clap.proofs.WalkLemmas.{first_value-rows}
use Rattle.xp_arguments.proofs.subcommand.check_of.Goals as goal

pub returns : goal.returns
returns c = record {
  form = c.check_form-form.ensures;
  depth = c.check_depth-depth.ensures;
  after = c.get_str-after.ensures ∙ first_value-rows (found_of c.args.matches.now) (codes "after");
}
