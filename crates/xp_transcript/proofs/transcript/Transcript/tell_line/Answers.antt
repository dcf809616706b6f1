use Rattle.std.proofs.Common.{◌∙◌, ◌<◌, ◌++◌, ℕ, List, Ok, Err, ap, length, refl, sym, subst}
use Rattle.std.proofs.lemmas.Result.{err_from_is_err_and}
use Rattle.std.specs.Io.KnownBytes.{Appends}
use Rattle.xp_exchange.specs.Play.{LineRead, MayCome}
use Rattle.xp_script.specs.NamedText.{name_at}
use Rattle.xp_transcript.specs.Telling.{TellState}
use Rattle.xp_transcript.specs.steps.Telling.{TellsLine, TellsNext}
use Rattle.xp_writing.proofs.Bytes.{appends_both}
use Rattle.xp_transcript.proofs.TellLines.{broken_line, line_brought, next_known, next_may, read_line, unread_line}
use Rattle.xp_transcript.proofs.transcript.Transcript.tell_line.Goals as goal

pub returns-in_err-next : goal.returns-in_err-next
returns-in_err-next g c =
    let p = err_from_is_err_and c.from_residual.result c.from_residual.ensures.1 in
    let known = g.W.Write.contents c.args.writer.now in
    let fault = c.in_err-next.field-0.0 in
    let old : TellState _ = record { play = c.self.inside.player; teller = c.self.inside.teller } in
    let new : TellState _ = record { play = c.read_line.new.self; teller = c.self.inside.teller } in
    subst (λ result. (text : List ℕ) × Appends known known text × TellsLine c.args.self.now c.args.number c.args.line.now result new text)
    (sym (p.1 ∙ ap Err p.2))
    (subst (λ first. (text : List ℕ) × Appends known known text × TellsLine first c.args.number c.args.line.now (Err fault) new text)
    c.self.view_is (unread_line fault old new c.args.number c.args.line.now known c.in_err-next.ensures.refused))

pub returns-in_err-tell_events : goal.returns-in_err-tell_events
returns-in_err-tell_events g c =
    let p = err_from_is_err_and c.from_residual-in_err-tell_events.result c.from_residual-in_err-tell_events.ensures.1 in
    let before = g.W.Write.contents c.args.writer.now in
    let after = g.W.Write.contents c.tell_events.new.writer in
    let fault = c.in_err-tell_events.field-0.0 in
    let told = c.in_err-tell_events.ensures in
    let old : TellState _ = record { play = c.self.inside.player; teller = c.self.inside.teller } in
    let read : TellState _ = record { play = c.read_line.new.self; teller = c.self.inside.teller } in
    subst (λ result. (text : List ℕ) × Appends before after text × TellsLine c.args.self.now c.args.number c.args.line.now result c.tell_events.new.self text)
    (sym (p.1 ∙ ap Err p.2))
    (subst (λ first. (text : List ℕ) × Appends before after text × TellsLine first c.args.number c.args.line.now (Err fault) c.tell_events.new.self text)
    c.self.view_is (
      told.0,
      told.1,
      broken_line c.in_ok-next.next fault old read c.tell_events.new.self c.args.number c.args.line.now c.read_line.new.events.items told.0 c.in_ok-next.ensures.read refl told.2,
    ))

pub tell_next-requires-clause-known : goal.tell_next-requires-clause-known
tell_next-requires-clause-known g c =
    let old : TellState _ = record { play = c.self.inside.player; teller = c.self.inside.teller } in
    let read : TellState _ = record { play = c.read_line.new.self; teller = c.self.inside.teller } in
    let reads = subst (λ done. LineRead old.play c.args.line.now c.read_line.new.events.items read.play done) c.in-Some.is c.in_ok-next.ensures.read in
    subst (λ (mid : TellState _). c.in-Some.next.number < length mid.play.named) (sym c.self-2.view_is)
    (next_known old read c.tell_events.new.self c.args.line.now c.read_line.new.events.items c.in-Some.next _ reads refl c.in_ok-tell_events.ensures.2)

pub tell_next-requires-clause-may : goal.tell_next-requires-clause-may
tell_next-requires-clause-may g c =
    let old : TellState _ = record { play = c.self.inside.player; teller = c.self.inside.teller } in
    let read : TellState _ = record { play = c.read_line.new.self; teller = c.self.inside.teller } in
    let reads = subst (λ done. LineRead old.play c.args.line.now c.read_line.new.events.items read.play done) c.in-Some.is c.in_ok-next.ensures.read in
    subst (λ (mid : TellState _). MayCome mid.play.exchange c.in-Some.next.subs) (sym c.self-2.view_is)
    (next_may old read c.tell_events.new.self c.args.line.now c.read_line.new.events.items c.in-Some.next _ reads refl c.in_ok-tell_events.ensures.2)

pub returns : goal.returns
returns g c =
    let before = g.W.Write.contents c.args.writer.now in
    let between = g.W.Write.contents c.tell_events.new.writer in
    let after = g.W.Write.contents c.tell_next.new.writer in
    let told = c.in_ok-tell_events.ensures in
    let then = c.tell_next.ensures in
    let next = c.in-Some.next in
    let name = name_at c.self-2.inside.player.named next.number in
    let old : TellState _ = record { play = c.self.inside.player; teller = c.self.inside.teller } in
    let read : TellState _ = record { play = c.read_line.new.self; teller = c.self.inside.teller } in
    let reads = subst (λ done. LineRead old.play c.args.line.now c.read_line.new.events.items read.play done) c.in-Some.is c.in_ok-next.ensures.read in
    subst (λ first. (text : List ℕ) × Appends before after text × TellsLine first c.args.number c.args.line.now c.tell_next.result c.tell_next.new.self text)
    c.self.view_is (
      told.0 ++ then.0,
      appends_both before between after told.0 then.0 told.1 then.1,
      line_brought c.tell_next.result old read c.tell_events.new.self c.tell_next.new.self c.args.number c.args.line.now c.read_line.new.events.items next name told.0 then.0
          reads refl told.2 (subst (λ mid. TellsNext mid next name c.tell_next.result c.tell_next.new.self then.0) c.self-2.view_is then.2),
    )

pub returns-in_default : goal.returns-in_default
returns-in_default g c =
    let before = g.W.Write.contents c.args.writer.now in
    let after = g.W.Write.contents c.tell_events.new.writer in
    let told = c.in_ok-tell_events.ensures in
    let old : TellState _ = record { play = c.self.inside.player; teller = c.self.inside.teller } in
    let read : TellState _ = record { play = c.read_line.new.self; teller = c.self.inside.teller } in
    subst (λ last. (text : List ℕ) × Appends before after text × TellsLine c.args.self.now c.args.number c.args.line.now (Ok tt) last text)
    (sym c.self-2.view_is)
    (subst (λ first. (text : List ℕ) × Appends before after text × TellsLine first c.args.number c.args.line.now (Ok tt) c.tell_events.new.self text)
    c.self.view_is (
      told.0,
      told.1,
      read_line (Ok tt) old read c.tell_events.new.self c.args.number c.args.line.now c.read_line.new.events.items told.0
          (subst (λ done. LineRead old.play c.args.line.now c.read_line.new.events.items read.play done) c.in_default.is c.in_ok-next.ensures.read).0 refl told.2,
    ))
