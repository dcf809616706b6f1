-- Commands that get one argument after another, and one subcommand after another.
use Rattle.std.proofs.Common.{◌≡◌, ◌∙◌, ◌+◌, ◌<◌, ℕ, List, [], ◌∷◌, ap, drop, false, get_or, length, refl, sym}
use Rattle.std.proofs.lemmas.List.{drop_more}
use Rattle.clap.specs.Words.{AddsArg, AddsSubcommand, App, app_of, rule_of, with_rule, with_subcommand}
use Rattle.clap.specs.declared.builder.arg.Arg.{Arg}
use Rattle.clap.specs.declared.builder.command.Command.{Command}
use Rattle.clap.specs.declared.builder.command.Command.TheViews.{out-Command as fields_of}
use Rattle.xp_arguments.specs.steps.Rows.{command_with, rule_in, with_rules, with_verbs}
use Rattle.xp_arguments.specs.declared.rows.ArgumentRow.{ArgumentRow}
use Rattle.xp_arguments.specs.declared.subcommand.Verb.{Verb}
use Rattle.xp_arguments.specs.declared.subcommand.Verb.TheVariants.{Check, Replay, Explain, Serve, Status, Stop, Reload}

-- one more argument
module _ (before after : Command) (arg : Arg) (adds : AddsArg before arg after) (local : arg.global ≡ false) where
  pub one_more : (rows : List ArgumentRow) (i : ℕ) (d : ArgumentRow) (app : App) → i < length rows → with_rules (app_of before) (drop i rows) ≡ app
      → rule_of arg ≡ rule_in (get_or rows i d) → with_rules (app_of after) (drop (i + 1) rows) ≡ app
  one_more rows i d app within shape rule =
      ap (λ app. with_rules app (drop (i + 1) rows)) (adds.shape local ∙ ap (with_rule (app_of before)) rule)
      ∙ sym (ap (with_rules (app_of before)) (drop_more rows i d within)) ∙ shape

  pub local_still : (fields_of before).has_globals ≡ false → (fields_of after).has_globals ≡ false
  local_still before_is = adds.globals ∙ rw (before_is, local) refl

-- one more subcommand
pub added : (before subcommand after : Command) (app : App) → app_of subcommand ≡ app → (fields_of subcommand).has_globals ≡ false
    → (fields_of before).has_globals ≡ false → AddsSubcommand before subcommand after
    → (app_of after ≡ with_subcommand (app_of before) app.top) × ((fields_of after).has_globals ≡ false)
added before subcommand after app shape local before_is adds =
    (adds.shape local ∙ ap (λ app. with_subcommand (app_of before) app.top) shape, adds.globals ∙ rw (before_is, local) refl)

-- the verbs, in their order
abbrev pub all_verbs : List Verb
all_verbs = Check ∷ Replay ∷ Explain ∷ Serve ∷ Status ∷ Stop ∷ Reload ∷ []

-- the subcommand of one more verb
pub one_verb : (before after : Command) (verbs : List Verb) (i : ℕ) (d : Verb) (app : App) → i < length verbs → with_verbs (app_of before) (drop i verbs) ≡ app
    → app_of after ≡ with_subcommand (app_of before) (command_with (get_or verbs i d)).top → with_verbs (app_of after) (drop (i + 1) verbs) ≡ app
one_verb before after verbs i d app within shape adds =
    ap (λ app. with_verbs app (drop (i + 1) verbs)) adds ∙ sym (ap (with_verbs (app_of before)) (drop_more verbs i d within)) ∙ shape
