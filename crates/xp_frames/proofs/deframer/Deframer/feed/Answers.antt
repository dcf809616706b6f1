use Rattle.std.proofs.Common.{◌≡◌, length, map, sym, ap, ◌∙◌}
use Rattle.std.specs.Result.{is_ok}
use Rattle.std.proofs.lemmas.List.{length-map}
use Rattle.xp_frames.proofs.Undone.{restored_waiting, restored_rest, same_held}
use Rattle.xp_frames.proofs.deframer.Deframer.feed.Goals as goal

pub returns-in-Err : goal.returns-in-Err
returns-in-Err g c =
    let packets : c.len-packets.result ≡ length c.self.inside.waiting.items = c.len-packets.ensures ∙ c.self.inside.waiting.ok.0 in
    let octets : c.len-octets.result ≡ length c.self.inside.rest.items = c.len-octets.ensures ∙ c.self.inside.rest.ok.0 in
    let waiting : map (λ p. p.items) c.truncate.new.self.items ≡ map (λ p. p.items) c.self.inside.waiting.items =
    restored_waiting (λ p. p.items) c.self.inside.waiting.items c.cut_frames.new.waiting.items c.truncate.new.self.items c.len-packets.result packets c.in-Err.ensures c.truncate.ensures.items (length-map c.self.inside.waiting.items (λ p. p.items)) in
    let rest : c.truncate-in-Err.new.self.items ≡ c.self.inside.rest.items =
    restored_rest c.self.inside.rest.items c.args.piece.now c.extend_from_slice.new.self.items c.truncate-in-Err.new.self.items (is_ok c.extend_from_slice.result) c.len-octets.result c.extend_from_slice.ensures.items octets c.truncate-in-Err.ensures.items in
    rw c.into.ensures (ap (λ h. h.failed) (sym c.self.view_is) ∙ c.if-self.false, same_held _ _ _ _ c.self.inside.failed waiting rest ∙ c.self.view_is)
