use Rattle.xp_arguments.proofs.arguments.Arguments.found_in.Goals as goal

pub returns-in_ok-unfit-in-None-clause-taken : goal.returns-in_ok-unfit-in-None-clause-taken
returns-in_ok-unfit-in-None-clause-taken c =
    λ ask. absurd ((rw c.in-None.is at c.in_ok-arguments.ensures.none) ask.0 ask.1 ask.2)
