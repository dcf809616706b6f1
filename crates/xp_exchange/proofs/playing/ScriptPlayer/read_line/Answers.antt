use Rattle.std.proofs.Common.{◌∙◌, ap, refl, subst, sym, Err, IfErr, None, Some}
use Rattle.std.proofs.lemmas.Result.{err_from_is_err_and}
use Rattle.xp_exchange.specs.Play.{LineRead, PlayState, RefusesLine}
use Rattle.xp_exchange.specs.steps.Playing.{IsRead}
use Rattle.xp_exchange.proofs.Prepared.{line_read, unprepared}
use Rattle.xp_exchange.proofs.playing.ScriptPlayer.read_line.Goals as goal

pub returns-in_err-asked-clause-refused : goal.returns-in_err-asked-clause-refused
returns-in_err-asked-clause-refused g c =
    let p = err_from_is_err_and c.from_residual.result c.from_residual.ensures.1 in
    subst (λ result. IfErr result (RefusesLine c.args.self.now c.args.number c.args.line.now)) (sym (p.1 ∙ ap Err p.2))
    (subst (λ (first : PlayState _). RefusesLine first c.args.number c.args.line.now c.in_err-asked.field-0.0) c.self.view_is c.in_err-asked.ensures.refused)

pub returns-in_err-next-clause-refused : goal.returns-in_err-next-clause-refused
returns-in_err-next-clause-refused g c =
    let p = err_from_is_err_and c.from_residual-in_err-next.result c.from_residual-in_err-next.ensures.1 in
    let old : PlayState _ = record { exchange = c.self.inside.core; unfinished = c.self.inside.reader.streams; moment = c.self.inside.reader.moment; named = c.self.inside.named.now } in
    let read : PlayState _ = record { exchange = c.self.inside.core; unfinished = c.read.new.self.streams; moment = c.read.new.self.moment; named = c.self.inside.named.now } in
    let asks = subst (λ asked. IsRead old c.args.number c.args.line.now c.read.new.events.items read asked) c.in-Some.is c.in_ok-asked.ensures.read in
    let fault = c.in_err-next.field-0.0 in
    subst (λ result. IfErr result (RefusesLine c.args.self.now c.args.number c.args.line.now)) (sym (p.1 ∙ ap Err p.2))
    (subst (λ (first : PlayState _). RefusesLine first c.args.number c.args.line.now fault) c.self.view_is
    (unprepared (Some c.in-Some.asked) fault old read c.args.number c.args.line.now c.read.new.events.items asks c.in_err-next.ensures.refused))

pub returns-in_default-clause-read : goal.returns-in_default-clause-read
returns-in_default-clause-read g c =
    let old : PlayState _ = record { exchange = c.self.inside.core; unfinished = c.self.inside.reader.streams; moment = c.self.inside.reader.moment; named = c.self.inside.named.now } in
    let read : PlayState _ = record { exchange = c.self.inside.core; unfinished = c.read.new.self.streams; moment = c.read.new.self.moment; named = c.self.inside.named.now } in
    let events = c.read.new.events.items in
    subst (λ (first : PlayState _). LineRead first c.args.line.now events read None) c.self.view_is
    (subst (λ asked. IsRead old c.args.number c.args.line.now events read asked) c.in_default.is c.in_ok-asked.ensures.read)

pub returns-clause-read : goal.returns-clause-read
returns-clause-read g c =
    let old : PlayState _ = record { exchange = c.self.inside.core; unfinished = c.self.inside.reader.streams; moment = c.self.inside.reader.moment; named = c.self.inside.named.now } in
    let read : PlayState _ = record { exchange = c.self.inside.core; unfinished = c.read.new.self.streams; moment = c.read.new.self.moment; named = c.self.inside.named.now } in
    let next = c.in_ok-next.next in
    let before = c.read.new.events.items in
    let events = c.read_next.new.events.items in
    let asks = subst (λ asked. IsRead old c.args.number c.args.line.now before read asked) c.in-Some.is c.in_ok-asked.ensures.read in
    subst (λ (first : PlayState _). LineRead first c.args.line.now events read (Some next)) c.self.view_is
    (line_read (Some c.in-Some.asked) old read c.args.number c.args.line.now before events (Some next) asks (next, refl, c.in_ok-next.ensures.ok, c.in_ok-next.ensures.fit))
