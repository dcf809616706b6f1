use Rattle.std.proofs.Common.{◌≡◌, drop, false}
use Rattle.clap.specs.Words.{app_of}
use Rattle.clap.specs.declared.builder.command.Command.TheViews.{out-Command as fields_of}
use Rattle.xp_arguments.specs.steps.Rows.{command_with, with_rules}
use Rattle.xp_arguments.proofs.arguments.subcommand.Given as goal

abbrev pub invariant-loop-row : goal.invariant-loop-row
invariant-loop-row l = record {
  shape : with_rules (app_of l.command) (drop l.row-index l.row-items) ≡ command_with l.fn.verb;
  local : (fields_of l.command).has_globals ≡ false;
}
