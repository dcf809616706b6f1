use Rattle.std.proofs.Common.{◌≡◌, ap, arith, sym, ◌∙◌}
use Rattle.xp_seats.proofs.Steps.{comes_at, returns}
use Rattle.xp_seats.proofs.seats_for_proofs.SeatsForProofs.take_back.Goals as goal

pub join_seat-requires : goal.join_seat-requires
join_seat-requires g c =
    let here = c.self.invariant in
    let words : c.self.inside.table.shared.table_id.words ≡ 1 = ap (λ t. t.words) here.0 ∙ here.1 in (
      sym here.0,
      ap (λ s. s.table) c.seat.view_is ∙ c.requires ∙ sym (ap (λ s. s.table) c.self.view_is) ∙ sym here.0,
      c.seat.invariant.1,
      omega (arith, words),
      comes_at _ _ _ _ (ap (λ v. v.holds) c.seat.invariant.0),
    )

pub load-requires : goal.load-requires
load-requires g c =
    let here = c.self.invariant in
    let words : c.self.inside.table.shared.table_id.words ≡ 1 = ap (λ t. t.words) here.0 ∙ here.1 in
    let joined = c.join_seat.ensures in (
      joined.0 ∙ sym here.0,
      omega (arith, words),
      returns _ _ _ (ap (λ m. m.0.keeps) joined.2 ∙ ap (λ v. v.keeps) here.2) (ap (λ m. m.0.holds) joined.2 ∙ ap (λ v. v.holds) c.seat.invariant.0),
    )
