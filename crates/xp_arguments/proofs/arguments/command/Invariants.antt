use Rattle.std.proofs.Common.{◌≡◌, drop, false}
use Rattle.clap.specs.Words.{app_of}
use Rattle.clap.specs.declared.builder.command.Command.TheViews.{out-Command as fields_of}
use Rattle.xp_arguments.specs.Commands.{program}
use Rattle.xp_arguments.specs.steps.Rows.{with_verbs}
use Rattle.xp_arguments.proofs.arguments.command.Given as goal

abbrev pub invariant-loop-verb : goal.invariant-loop-verb
invariant-loop-verb l = record {
  shape : with_verbs (app_of l.command) (drop l.verb-index l.verb-items) ≡ program;
  local : (fields_of l.command).has_globals ≡ false;
}
