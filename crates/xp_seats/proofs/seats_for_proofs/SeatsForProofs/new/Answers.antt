use Rattle.xp_seats.proofs.Steps.{begins}
use Rattle.xp_seats.proofs.seats_for_proofs.SeatsForProofs.new.Goals as goal

pub of_words-requires : goal.of_words-requires
of_words-requires g c = begins
