use Rattle.std.proofs.Common.{◌++◌, ap, sym, ◌∙◌}
use Rattle.xp_lines.proofs.Recorded.{seen_by}
use Rattle.xp_lines.proofs.recording.show.Goals as goal

pub see-requires : goal.see-requires
see-requires g c =
    let looked = c.in-Ok.ensures.receives in
    let given = c.give-received.ensures.received ∙ ap (λ records. records ++ c.in-Ok.look.records.items) c.requires.received ∙ sym looked.taken in
    record {
      seen = seen_by g.N.Name.subs _ c.look.new.recorder _ _ (c.give-received.ensures.tables ∙ c.requires.tables) given looked.each looked.legal c.in-Ok.ensures.shows;
    }
