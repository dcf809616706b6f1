use Rattle.xp.proofs.attending.attend.Given as goal

abbrev pub ghosts-attend_named-B-ShownExchange : goal.ghosts-attend_named-B-ShownExchange
ghosts-attend_named-B-ShownExchange g a = record { tables = a.subs }
