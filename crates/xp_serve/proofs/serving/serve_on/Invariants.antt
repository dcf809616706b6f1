use Rattle.xp_serve.proofs.serving.serve_on.Given as goal

abbrev pub ghosts-serve_named : goal.ghosts-serve_named
ghosts-serve_named g a = record { subs = a.prepared.subs; seats = a.prepared.seats; queues = a.prepared.queues }
