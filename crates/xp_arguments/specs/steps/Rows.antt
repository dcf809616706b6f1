-- The rows of arguments, as `clap` is given them.
use Rattle.std.specs.Prelude.{ℕ, List, [], ◌∷◌, Option, codes}
use Rattle.clap.specs.Words.{App, Row, Rule, new_app, with_rule, with_subcommand}
use Rattle.xp_arguments.specs.Commands.{AsksFor, asked, check, command_of, explain, flag, positional, repeated, replay, serve, valued}
use Rattle.xp_arguments.specs.declared.rows.ArgumentForm.TheVariants.{Placed, Valued, Repeated, Flag}
use Rattle.xp_arguments.specs.declared.rows.ArgumentForm.{ArgumentForm}
use Rattle.xp_arguments.specs.declared.rows.ArgumentRow.{ArgumentRow}
use Rattle.xp_arguments.specs.declared.subcommand.Subcommand.{Subcommand}
use Rattle.xp_arguments.specs.declared.subcommand.Verb.{Verb}
use Rattle.xp_arguments.specs.declared.subcommand.Verb.TheVariants.{Check, Replay, Explain, Serve, Status, Stop, Reload}
use Rattle.clap.specs.Words.{Text}

-- the rule of an argument of this form
abbrev pub rule_by : ArgumentForm → Text → Rule
rule_by Placed name = positional name
rule_by (Valued value) name = valued name
rule_by (Repeated value) name = repeated name
rule_by Flag name = flag name

abbrev pub rule_in : ArgumentRow → Rule
rule_in row = rule_by row.form row.name.now

-- a command with the arguments of these rows, one after another
abbrev pub with_rules : App → List ArgumentRow → App
with_rules app [] = app
with_rules app (row ∷ rows) = with_rules (with_rule app (rule_in row)) rows

-- the command of a verb, with all its arguments
abbrev pub command_with : Verb → App
command_with Check = check
command_with Replay = replay
command_with Explain = explain
command_with Serve = serve
command_with Status = command_of Status
command_with Stop = command_of Stop
command_with Reload = command_of Reload

-- the program without its subcommands
abbrev pub bare : App
bare = asked (new_app (codes "xp"))

-- a program with the subcommands of these verbs, one after another
abbrev pub with_verbs : App → List Verb → App
with_verbs app [] = app
with_verbs app (verb ∷ verbs) = with_verbs (with_subcommand app (command_with verb).top) verbs

-- a command, with its arguments as they were found, asks for something
abbrev pub AskForOne : Option (Text × List Row) → Type 0
AskForOne found = (subcommand : Subcommand) × (name : List ℕ) × AsksFor found subcommand name
