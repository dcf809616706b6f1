use Rattle.std.proofs.Common.{ap, rules}
use Rattle.xp_seats.proofs.Steps.{gives_at}
use Rattle.xp_seats.proofs.seats_for_proofs.SeatsForProofs.next.Goals as goal

pub split_seat-seat-requires : goal.split_seat-seat-requires
split_seat-seat-requires g c = (search rules, search rules, gives_at _ _ (ap (λ v. v.keeps) c.self.invariant.2))
