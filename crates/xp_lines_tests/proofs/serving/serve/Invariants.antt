use Rattle.xp_lines_tests.proofs.serving.serve.Given as goal

abbrev pub ghosts-serves : goal.ghosts-serves
ghosts-serves g a = record { subs = a.prepared.subs; seats = a.prepared.seats; queues = a.prepared.queues }
