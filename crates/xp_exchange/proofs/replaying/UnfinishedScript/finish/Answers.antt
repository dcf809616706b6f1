use Rattle.std.proofs.Common.{◌≡◌, ◌⊎◌, inl, inr, subst, List, ℕ, Ok, Err}
use Rattle.std.specs.Io.KnownBytes.{Appends}
use Rattle.xp_exchange.specs.declared.fault.ReplayFault.TheVariants.{Write}
use Rattle.xp_exchange.specs.steps.Replaying.{Progress, Finished}
use Rattle.xp_exchange.specs.steps.Playing.{Played}
use Rattle.xp_exchange.proofs.Played.{flushed}
use Rattle.xp_exchange.proofs.replaying.UnfinishedScript.finish.Goals as goal
use Rattle.xp_exchange.proofs.replaying.UnfinishedScript.finish.Goals.{in-Ok, in-Err}

pub returns-clause-finished : goal.returns-clause-finished
returns-clause-finished g c =
    let told : (c.match-flush.result ≡ Ok tt) ⊎ (c.match-flush.result ≡ Err Write) = elim c.match-flush.branch [
      | in-Ok w ↦ inl w.result-is
      | in-Err w ↦ inr w.result-is
    ] in
    let new : Progress _ = record { state = c.play.new.self; line = c.self.inside.line.items; number = c.self.inside.number } in
    subst (λ old. (text : List ℕ) × Appends (g.W.Write.contents c.args.writer.now) (g.W.Write.contents c.flush.new.self) text × Finished old c.match-flush.result new text) c.self.view_is
    (flushed c.match-flush.result c.self.inside.playing c.play.new.self c.self.inside.number c.self.inside.line.items _ _ _ told
    (subst (λ line. (text : List ℕ) × Appends (g.W.Write.contents c.args.writer.now) (g.W.Write.contents c.play.new.writer) text × Played c.self.inside.playing c.self.inside.number line (Ok tt) c.play.new.self text) c.deref.ensures.value c.in_ok-play.ensures)
    c.flush.ensures.bytes)
