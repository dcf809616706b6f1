use Rattle.std.proofs.Common.{take}
use Rattle.xp_listening.specs.Accesses.{AreSources}
use Rattle.xp_listening.proofs.listening.admission_of.Given as goal

abbrev pub invariant-loop-place : goal.invariant-loop-place
invariant-loop-place l = AreSources (take l.place l.sources) l.admission
