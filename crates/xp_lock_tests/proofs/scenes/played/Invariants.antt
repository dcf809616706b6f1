use Rattle.xp_lock_tests.proofs.scenes.played.Given as goal

abbrev pub ghosts-scene : goal.ghosts-scene
ghosts-scene g a = record { subs = a.prepared.subs; seats = a.prepared.seats; queues = a.prepared.queues }
