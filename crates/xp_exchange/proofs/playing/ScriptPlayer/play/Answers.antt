use Rattle.std.proofs.Common.{◌∙◌, ap, subst, sym, refl, List, [], ℕ, None, Some, Ok, Err}
use Rattle.std.proofs.lemmas.Result.{err_from_is_err_and}
use Rattle.std.specs.Io.KnownBytes.{Appends}
use Rattle.xp_exchange.specs.Play.{LineRead, PlayState}
use Rattle.xp_exchange.specs.steps.Acting.{IsPrepared}
use Rattle.xp_exchange.specs.steps.Playing.{IsRead, Played}
use Rattle.xp_writing.proofs.Bytes.{appends_nothing}
use Rattle.xp_exchange.proofs.Played.{not_read}
use Rattle.xp_exchange.proofs.Prepared.{given_of, line_read, unprepared}
use Rattle.xp_exchange.proofs.TablesLines.{read_broken, read_brought, read_fits, read_played}
use Rattle.xp_exchange.proofs.playing.ScriptPlayer.play.Goals as goal

pub returns-in_err-asked : goal.returns-in_err-asked
returns-in_err-asked g c =
    let p = err_from_is_err_and c.from_residual.result c.from_residual.ensures.1 in
    let known = g.W.Write.contents c.args.writer.now in
    let fault = c.in_err-asked.field-0.0 in
    let old : PlayState _ = record { exchange = c.self.inside.core; unfinished = c.self.inside.reader.streams; moment = c.self.inside.reader.moment; named = c.self.inside.named.now } in
    let new : PlayState _ = record { exchange = c.self.inside.core; unfinished = c.read.new.self.streams; moment = c.read.new.self.moment; named = c.self.inside.named.now } in
    subst (λ result. (text : List ℕ) × Appends known known text × Played c.args.self.now c.args.number c.args.line.now result new text)
    (sym (p.1 ∙ ap Err p.2))
    (subst (λ (first : PlayState _). (text : List ℕ) × Appends known known text × Played first c.args.number c.args.line.now (Err fault) new text) c.self.view_is
    ([], appends_nothing known, not_read fault old new c.args.number c.args.line.now c.in_err-asked.ensures.refused refl))

pub returns-in_err-prepare : goal.returns-in_err-prepare
returns-in_err-prepare g c =
    let p = err_from_is_err_and c.from_residual-in_err-prepare.result c.from_residual-in_err-prepare.ensures.1 in
    let known = g.W.Write.contents c.args.writer.now in
    let fault = c.in_err-prepare.field-0.0 in
    let old : PlayState _ = record { exchange = c.self.inside.core; unfinished = c.self.inside.reader.streams; moment = c.self.inside.reader.moment; named = c.self.inside.named.now } in
    let new : PlayState _ = record { exchange = c.self.inside.core; unfinished = c.read.new.self.streams; moment = c.read.new.self.moment; named = c.self.inside.named.now } in
    subst (λ result. (text : List ℕ) × Appends known known text × Played c.args.self.now c.args.number c.args.line.now result new text)
    (sym (p.1 ∙ ap Err p.2))
    (subst (λ (first : PlayState _). (text : List ℕ) × Appends known known text × Played first c.args.number c.args.line.now (Err fault) new text) c.self.view_is (
      [],
      appends_nothing known,
      not_read fault old new c.args.number c.args.line.now
          (unprepared c.in_ok-asked.asked fault old new c.args.number c.args.line.now c.read.new.events.items c.in_ok-asked.ensures.read c.in_err-prepare.ensures.refused) refl,
    ))

pub act_on_all-requires : goal.act_on_all-requires
act_on_all-requires g c =
    let old : PlayState _ = record { exchange = c.self.inside.core; unfinished = c.self.inside.reader.streams; moment = c.self.inside.reader.moment; named = c.self.inside.named.now } in
    let read : PlayState _ = record { exchange = c.self.inside.core; unfinished = c.read.new.self.streams; moment = c.read.new.self.moment; named = c.self.inside.named.now } in
    let asked = c.in_ok-asked.asked in
    let next = c.prepare.new.next in
    let events = c.prepare.new.events.items in
    read_fits (given_of asked next) old read c.args.line.now events
    (line_read asked old read c.args.number c.args.line.now c.read.new.events.items events next c.in_ok-asked.ensures.read c.in_ok-prepare.ensures.ok)

pub returns-in_err-act_on_all : goal.returns-in_err-act_on_all
returns-in_err-act_on_all g c =
    let p = err_from_is_err_and c.from_residual-in_err-act_on_all.result c.from_residual-in_err-act_on_all.ensures.1 in
    let before = g.W.Write.contents c.args.writer.now in
    let after = g.W.Write.contents c.act_on_all.new.writer in
    let fault = c.in_err-act_on_all.field-0.0 in
    let acted = c.in_err-act_on_all.ensures.acted in
    let old : PlayState _ = record { exchange = c.self.inside.core; unfinished = c.self.inside.reader.streams; moment = c.self.inside.reader.moment; named = c.self.inside.named.now } in
    let read : PlayState _ = record { exchange = c.self.inside.core; unfinished = c.read.new.self.streams; moment = c.read.new.self.moment; named = c.self.inside.named.now } in
    let new : PlayState _ = record { exchange = c.act_on_all.new.core; unfinished = c.read.new.self.streams; moment = c.read.new.self.moment; named = c.self.inside.named.now } in
    let asked = c.in_ok-asked.asked in
    let next = c.prepare.new.next in
    let events = c.prepare.new.events.items in
    let reads = line_read asked old read c.args.number c.args.line.now c.read.new.events.items events next c.in_ok-asked.ensures.read c.in_ok-prepare.ensures.ok in
    subst (λ result. (text : List ℕ) × Appends before after text × Played c.args.self.now c.args.number c.args.line.now result new text)
    (sym (p.1 ∙ ap Err p.2))
    (subst (λ (first : PlayState _). (text : List ℕ) × Appends before after text × Played first c.args.number c.args.line.now (Err fault) new text) c.self.view_is
    (acted.0, acted.1, read_broken (given_of asked next) fault old read new c.args.number c.args.line.now events acted.0 reads refl acted.2))

pub returns-in_default : goal.returns-in_default
returns-in_default g c =
    let before = g.W.Write.contents c.args.writer.now in
    let after = g.W.Write.contents c.act_on_all.new.writer in
    let acted = c.in_ok-act_on_all.ensures.acted in
    let old : PlayState _ = record { exchange = c.self.inside.core; unfinished = c.self.inside.reader.streams; moment = c.self.inside.reader.moment; named = c.self.inside.named.now } in
    let read : PlayState _ = record { exchange = c.self.inside.core; unfinished = c.read.new.self.streams; moment = c.read.new.self.moment; named = c.self.inside.named.now } in
    let new : PlayState _ = record { exchange = c.act_on_all.new.core; unfinished = c.read.new.self.streams; moment = c.read.new.self.moment; named = c.self.inside.named.now } in
    let asked = c.in_ok-asked.asked in
    let next = c.prepare.new.next in
    let events = c.prepare.new.events.items in
    let reads = line_read asked old read c.args.number c.args.line.now c.read.new.events.items events next c.in_ok-asked.ensures.read c.in_ok-prepare.ensures.ok in
    subst (λ (first : PlayState _). (text : List ℕ) × Appends before after text × Played first c.args.number c.args.line.now (Ok tt) new text) c.self.view_is (
      acted.0,
      acted.1,
      read_played old read new c.args.number c.args.line.now events acted.0
          (subst (λ what. LineRead old c.args.line.now events read (given_of what next)) c.in_default.is reads) refl acted.2,
    )

pub bring_next-requires : goal.bring_next-requires
bring_next-requires g c =
    let acted = c.in_ok-act_on_all.ensures.acted in
    let prepared = subst (λ what. IsPrepared c.self.inside.core c.self.inside.named.now what c.read.new.self.moment c.read.new.events.items c.prepare.new.events.items c.prepare.new.next) c.in-Some.is
    c.in_ok-prepare.ensures.ok in
    (prepared.0, prepared.1, prepared.2.comes c.act_on_all.new.core acted.2.0)

pub returns : goal.returns
returns g c =
    let before = g.W.Write.contents c.args.writer.now in
    let after = g.W.Write.contents c.act_on_all.new.writer in
    let acted = c.in_ok-act_on_all.ensures.acted in
    let old : PlayState _ = record { exchange = c.self.inside.core; unfinished = c.self.inside.reader.streams; moment = c.self.inside.reader.moment; named = c.self.inside.named.now } in
    let read : PlayState _ = record { exchange = c.self.inside.core; unfinished = c.read.new.self.streams; moment = c.read.new.self.moment; named = c.self.inside.named.now } in
    let new : PlayState _ = record { exchange = c.bring_next.new.core; unfinished = c.read.new.self.streams; moment = c.read.new.self.moment; named = c.self.inside.named.now } in
    let asked = c.in_ok-asked.asked in
    let next = c.prepare.new.next in
    let events = c.prepare.new.events.items in
    let prepared = subst (λ what. IsPrepared c.self.inside.core c.self.inside.named.now what c.read.new.self.moment c.read.new.events.items events next) c.in-Some.is c.in_ok-prepare.ensures.ok in
    let reads = line_read asked old read c.args.number c.args.line.now c.read.new.events.items events next c.in_ok-asked.ensures.read c.in_ok-prepare.ensures.ok in
    let one = subst (λ given. LineRead old c.args.line.now events read given) prepared.1 (subst (λ what. LineRead old c.args.line.now events read (given_of what next)) c.in-Some.is reads) in
    subst (λ (first : PlayState _). (text : List ℕ) × Appends before after text × Played first c.args.number c.args.line.now (Ok tt) new text) c.self.view_is (
      acted.0,
      acted.1,
      read_brought old read new c.args.number c.args.line.now events prepared.0 c.act_on_all.new.core acted.0 one acted.2 (c.bring_next.ensures.brought prepared.0 prepared.1) refl,
    )
