use Rattle.std.proofs.Common.{ℕ, List, sym, subst}
use Rattle.std.specs.Io.KnownBytes.{Appends}
use Rattle.std.specs.declared.alloc.Global.{Global as Alloc}
use Rattle.xp_transcript.specs.Telling.{TranscribesFrom, first_state}
use Rattle.xp_transcript.specs.steps.Telling.{IsUnread}
use Rattle.xp_transcript.proofs.Whole.{unread}
use Rattle.xp_transcript.proofs.telling.tell_script.Goals as goal

pub returns-in-Ok : goal.returns-in-Ok
returns-in-Ok g c =
    subst (λ first. (text : List ℕ) × Appends (g.W.Write.contents c.args.writer.now) (g.W.Write.contents c.tell_from-ended.new.writer) text × TranscribesFrom c.args.form first c.args.script.now c.tell_from-ended.result text)
    c.in-Ok.ensures.opened c.tell_from-ended.ensures

pub returns-in-Err : goal.returns-in-Err
returns-in-Err g c =
    unread c.args.form (first_state {A = Alloc} c.args.form c.args.subs c.args.named.now) c.in-Err.fault _ (subst IsUnread (sym c.in-Err.ensures.refused) tt) c.args.script.now
