use Rattle.xp_cdr.proofs.MomentLemmas.{what_clock_shows}
use Rattle.xp_cdr.proofs.laws.moment_is_what_a_clock_shows.Goals as goal

pub returns : goal.returns
returns c = what_clock_shows
