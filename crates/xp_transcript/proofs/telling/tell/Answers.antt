use Rattle.std.proofs.Common.{ℕ, List, Err, subst}
use Rattle.std.specs.Io.KnownBytes.{Appends}
use Rattle.std.specs.declared.alloc.Global.{Global as Alloc}
use Rattle.xp_transcript.specs.Telling.{Transcribes, first_state}
use Rattle.xp_transcript.proofs.Whole.{of_any, of_script, unread}
use Rattle.xp_transcript.proofs.telling.tell.Goals as goal

pub returns-in-Ok : goal.returns-in-Ok
returns-in-Ok g c =
    let script = c.in-Ok.script.items in
    of_script _ script
    (λ script. (text : List ℕ) × Appends (g.W.Write.contents c.args.writer.now) (g.W.Write.contents c.tell_script.new.writer) text × Transcribes Alloc c.args.form c.args.subs c.args.named.now script c.tell_script.result text)
    c.in-Ok.ensures.octets
    (subst (λ octets. (text : List ℕ) × Appends (g.W.Write.contents c.args.writer.now) (g.W.Write.contents c.tell_script.new.writer) text × Transcribes Alloc c.args.form c.args.subs c.args.named.now octets c.tell_script.result text)
    c.deref.ensures.value c.tell_script.ensures)

pub returns-in-Err : goal.returns-in-Err
returns-in-Err g c =
    let known = g.W.Write.contents c.args.writer.now in
    of_any _ (λ script. (text : List ℕ) × Appends known known text × Transcribes Alloc c.args.form c.args.subs c.args.named.now script (Err c.in-Err.fault) text)
    (unread c.args.form (first_state {A = Alloc} c.args.form c.args.subs c.args.named.now) c.in-Err.fault known c.in-Err.ensures.refused)
