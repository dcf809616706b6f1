use Rattle.std.proofs.Common.{◌≡◌, ◌∙◌, ◌++◌, ℕ, List, [], Err, ap, refl, sym, subst}
use Rattle.std.proofs.lemmas.Result.{err_from_is_err_and}
use Rattle.std.specs.Io.KnownBytes.{Appends}
use Rattle.xp_exchange.specs.Acting.{Puts}
use Rattle.xp_exchange.specs.Play.{MayCome, force_in}
use Rattle.xp_exchange.specs.declared.fault.ReplayFault.TheVariants.{Memory}
use Rattle.xp_script.specs.NamedText.{name_at}
use Rattle.xp_subs.specs.Tables.{Tables, line_count}
use Rattle.xp_writing.proofs.Bytes.{appends_nothing}
use Rattle.xp_transcript.specs.Telling.{TellState}
use Rattle.xp_transcript.specs.Transcript.{entry_told, reload_told, teller_renewed}
use Rattle.xp_transcript.specs.steps.Telling.{IsFor, TellsNext}
use Rattle.xp_transcript.proofs.Told.{reload_is, renewed_is, told_next}
use Rattle.xp_transcript.proofs.transcript.Transcript.tell_next.Goals as goal

pub push_reload-requires : goal.push_reload-requires
push_reload-requires g c =
    let may = subst (λ (state : TellState _). MayCome state.play.exchange c.args.next.subs) (sym c.self.view_is) c.requires.may in
    may.0.frame.count ∙ sym (ap line_count c.in_force.ensures.force)

pub returns-in_err-push_reload : goal.returns-in_err-push_reload
returns-in_err-push_reload g c =
    let p = err_from_is_err_and c.from_residual.result c.from_residual.ensures.1 in
    let known = g.W.Write.contents c.args.writer.now in
    let name = name_at c.args.self.now.play.named c.args.next.number in
    let new : TellState _ = record { play = c.self.inside.player; teller = c.push_reload.new.self } in
    subst (λ result. (text : List ℕ) × Appends known known text × TellsNext c.args.self.now c.args.next name result new text)
    (sym (p.1 ∙ ap Err p.2)) ([], appends_nothing known, refl)

-- it knows as many connections as before
pub invariant_of-self : goal.invariant_of-self
invariant_of-self g c = c.push_reload.ensures.teller (line_count c.self.inside.player.exchange.subs) c.self.invariant

pub invariant_of-self-2 : goal.invariant_of-self-2
invariant_of-self-2 g c =
    subst (λ (tables : Tables). IsFor (line_count tables) c.push_reload.new.self) (sym c.bring.ensures.brought.enters.acts.subs)
    (c.push_reload.ensures.teller (line_count c.self.inside.player.exchange.subs) c.self.invariant)

pub bring-requires : goal.bring-requires
bring-requires g c = subst (λ (state : TellState _). MayCome state.play.exchange c.args.next.subs) (sym c.self.view_is) c.requires.may

pub returns : goal.returns
returns g c =
    let before = g.W.Write.contents c.args.writer.now in
    let after = g.W.Write.contents c.write_out.new.writer in
    let player = c.self.inside.player in
    let teller = c.self.inside.teller in
    let laid = c.args.next.subs in
    let force = force_in player.exchange in
    let name = name_at player.named c.args.next.number in
    let called = c.name_of_tables.result.now in
    let there = c.in_force.result.now in
    let comes = c.bring.ensures.brought in
    let old : TellState _ = record { play = player; teller = teller } in
    let new : TellState _ = record { play = c.bring.new.self; teller = c.push_reload.new.self } in
    let told : c.push_reload.new.text.items ≡ entry_told force teller name comes.entry =
    c.in_ok-push_reload.ensures.told ∙ ap (λ front. front ++ reload_told c.moment.result called there laid teller) c.clear.ensures.items
    ∙ ap (λ moment. reload_told moment called there laid teller) c.moment.ensures
    ∙ ap (λ word. reload_told player.moment word there laid teller) c.name_of_tables.ensures
    ∙ ap (λ tables. reload_told player.moment name tables laid teller) c.in_force.ensures.force
    ∙ reload_is player.exchange c.bring.new.self.exchange laid player.moment name force teller comes in
    subst (λ (first : TellState _). (text : List ℕ) × Appends before after text × TellsNext first c.args.next (name_at first.play.named c.args.next.number) c.write_out.result new text) c.self.view_is
    (told_next c.write_out.result old new c.args.next name before after c.push_reload.new.text.items comes told c.bring.ensures.kept
    (c.in_ok-push_reload.ensures.after ∙ ap (λ tables. teller_renewed tables laid teller) c.in_force.ensures.force
    ∙ renewed_is player.exchange c.bring.new.self.exchange laid player.moment force teller comes)
    (subst (λ text. Puts before after text c.write_out.result) c.deref.ensures.value c.write_out.ensures))
