use Rattle.std.proofs.Common.{◌≡◌, ◌∙◌, ◌++◌, ℕ, List, [], ◌∷◌, Err, ap, sym, subst}
use Rattle.std.proofs.lemmas.Result.{err_from_is_err_and}
use Rattle.std.specs.Io.KnownBytes.{Appends}
use Rattle.xp_exchange.specs.Acting.{Puts}
use Rattle.xp_exchange.specs.declared.fault.ReplayFault.TheVariants.{Memory}
use Rattle.xp_transcript.specs.Telling.{TellState}
use Rattle.xp_exchange.specs.Play.{force_in}
use Rattle.xp_transcript.specs.Transcript.{entry_told, plain_told, teller_on}
use Rattle.xp_transcript.specs.steps.Telling.{TellsEvents}
use Rattle.xp_transcript.proofs.Told.{force_entered, plain_is, refused_event, teller_is, told_event, untold_event}
use Rattle.xp_transcript.proofs.transcript.Transcript.tell_event.Goals as goal

pub returns-in_err-entry : goal.returns-in_err-entry
returns-in_err-entry g c =
    let p = err_from_is_err_and c.from_residual.result c.from_residual.ensures.1 in
    let known = g.W.Write.contents c.args.writer.now in
    let fault = c.in_err-entry.field-0.0 in
    let old : TellState _ = record { play = c.self.inside.player; teller = c.self.inside.teller } in
    let new : TellState _ = record { play = c.act_on.new.self; teller = c.self.inside.teller } in
    subst (λ result. (text : List ℕ) × Appends known known text × TellsEvents c.args.self.now (c.args.event ∷ []) result new text)
    (sym (p.1 ∙ ap Err p.2))
    (subst (λ first. (text : List ℕ) × Appends known known text × TellsEvents first (c.args.event ∷ []) (Err fault) new text)
    c.self.view_is (refused_event fault old new c.args.event known c.in_err-entry.ensures.refused))

pub returns-in_err-push_entry : goal.returns-in_err-push_entry
returns-in_err-push_entry g c =
    let p = err_from_is_err_and c.from_residual-in_err-push_entry.result c.from_residual-in_err-push_entry.ensures.1 in
    let known = g.W.Write.contents c.args.writer.now in
    let old : TellState _ = record { play = c.self.inside.player; teller = c.self.inside.teller } in
    let new : TellState _ = record { play = c.act_on.new.self; teller = c.push_entry.new.self } in
    subst (λ result. (text : List ℕ) × Appends known known text × TellsEvents c.args.self.now (c.args.event ∷ []) result new text)
    (sym (p.1 ∙ ap Err p.2))
    (subst (λ first. (text : List ℕ) × Appends known known text × TellsEvents first (c.args.event ∷ []) (Err Memory) new text)
    c.self.view_is (untold_event old new c.args.event known))

pub returns : goal.returns
returns g c =
    let before = g.W.Write.contents c.args.writer.now in
    let after = g.W.Write.contents c.write_out.new.writer in
    let entry = c.in_ok-entry.entry in
    let teller = c.self.inside.teller in
    let enters = c.in_ok-entry.ensures.ok in
    let plain = c.in_ok-entry.ensures.plain in
    let force = force_in c.self.inside.player.exchange in
    let same : c.in_force-subs.result.now ≡ force = c.in_force-subs.ensures.force ∙ force_entered c.self.inside.player.exchange c.act_on.new.self.exchange c.args.event entry enters plain in
    let old : TellState _ = record { play = c.self.inside.player; teller = teller } in
    let new : TellState _ = record { play = c.act_on.new.self; teller = c.push_entry.new.self } in
    let told : c.push_entry.new.text.items ≡ entry_told force teller [] entry =
    c.in_ok-push_entry.ensures.told ∙ ap (λ front. front ++ plain_told c.in_force-subs.result.now teller entry) c.clear.ensures.items
    ∙ ap (λ subs. plain_told subs teller entry) same ∙ plain_is force teller entry plain in
    subst (λ first. (text : List ℕ) × Appends before after text × TellsEvents first (c.args.event ∷ []) c.write_out.result new text) c.self.view_is
    (told_event c.write_out.result old new c.args.event entry before after c.push_entry.new.text.items enters told
    (c.in_ok-push_entry.ensures.after ∙ ap (λ subs. teller_on subs teller entry) same ∙ teller_is force teller entry plain) c.act_on.ensures.kept
    (subst (λ text. Puts before after text c.write_out.result) c.deref.ensures.value c.write_out.ensures))
