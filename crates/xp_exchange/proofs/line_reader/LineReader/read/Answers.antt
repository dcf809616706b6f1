use Rattle.std.proofs.Common.{◌≡◌, ◌∙◌, List, ℕ, ap, length, refl, subst, sym, Some}
use Rattle.xp_script.specs.Command.{said}
use Rattle.xp_exchange.specs.Play.{PlayState, force_in}
use Rattle.xp_exchange.proofs.TablesLines.{is_reload, known_tables}
use Rattle.xp_exchange.proofs.line_reader.LineReader.read.Goals as goal

pub returns-in-Some-clause-read : goal.returns-in-Some-clause-read
returns-in-Some-clause-read g c =
    let command = c.in_ok-command.command in
    let state : List (List ℕ) → ℕ → PlayState _ = λ streams moment. record { exchange = c.args.core.now; unfinished = streams; moment = moment; named = c.args.named.now } in
    let says : said (force_in c.args.core.now) c.args.named.now c.args.line.text.now ≡ Some command =
    subst (λ subs. said subs c.args.named.now c.args.line.text.now ≡ Some command) c.in_force.ensures.force c.in_ok-command.ensures.said in (
      says ∙ ap (λ one. Some one) (is_reload command c.in-Some.tables (sym c.in-Some.ensures)),
      known_tables (length c.args.named.now) command c.in-Some.tables c.in_ok-command.ensures.tables (sym c.in-Some.ensures),
      refl,
      ap (λ streams. state streams c.read_command.new.self.moment) c.in_ok-command.ensures.streams ∙ ap (state c.args.self.now.streams) c.in_ok-command.ensures.moment,
    )
