use Rattle.std.proofs.Common.{◌≡◌, ap, arith, sym, ◌∙◌}
use Rattle.xp_seats.proofs.Steps.{comes_at, leaves_at, shows}
use Rattle.xp_seats.proofs.seats_for_proofs.SeatsForProofs.show.Goals as goal

pub split_seat-part-requires : goal.split_seat-part-requires
split_seat-part-requires g c =
    let here = c.self.invariant in
    let words : c.self.inside.table.shared.table_id.words ≡ 1 = ap (λ t. t.words) here.0 ∙ here.1 in (
      ap (λ s. s.table) c.seat.view_is ∙ c.requires ∙ sym (ap (λ s. s.table) c.self.view_is) ∙ sym here.0,
      omega (arith, words),
      leaves_at _ _ (ap (λ v. v.holds) c.seat.invariant.0),
    )

pub join_seat-requires : goal.join_seat-requires
join_seat-requires g c =
    let here = c.self.invariant in
    let words : c.self.inside.table.shared.table_id.words ≡ 1 = ap (λ t. t.words) here.0 ∙ here.1 in
    let part = c.split_seat-part.ensures in (
      sym here.0,
      part.3 ∙ ap (λ s. s.table) c.seat.view_is ∙ c.requires ∙ sym (ap (λ s. s.table) c.self.view_is) ∙ sym here.0,
      ap (λ m. m.1) part.4,
      omega (arith, words),
      comes_at _ _ _ _ (ap (λ m. m.0.holds) part.4),
    )

pub compare_exchange_with-requires : goal.compare_exchange_with-requires
compare_exchange_with-requires g c =
    let here = c.self.invariant in
    let words : c.self.inside.table.shared.table_id.words ≡ 1 = ap (λ t. t.words) here.0 ∙ here.1 in
    let joined = c.join_seat.ensures in (
      joined.0 ∙ sym here.0,
      omega (arith, words),
      shows _ _ _ c.args.core.now (ap (λ m. m.0.keeps) joined.2 ∙ ap (λ v. v.keeps) here.2) (ap (λ m. m.0.holds) joined.2 ∙ ap (λ m. m.0.holds) c.split_seat-part.ensures.4),
    )

pub split_seat-requires : goal.split_seat-requires
split_seat-requires g c =
    let here = c.self.invariant in
    let words : c.self.inside.table.shared.table_id.words ≡ 1 = ap (λ t. t.words) here.0 ∙ here.1 in
    let joined = c.join_seat.ensures in
    let shown = c.compare_exchange_with.ensures in (
      shown.0 ∙ joined.0 ∙ sym here.0,
      omega (arith, words),
      leaves_at _ _ (ap (λ v. v.holds) shown.2.0.shown ∙ ap (λ m. m.0.holds) joined.2 ∙ ap (λ m. m.0.holds) c.split_seat-part.ensures.4),
    )
