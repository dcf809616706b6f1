use Rattle.std.proofs.Common.{◌≡◌, drop, map}
use Rattle.xp_words.specs.Names.{name_in}
use Rattle.xp_words.proofs.names.name_in.Given as goal

-- the name is among the rows that are left
abbrev pub invariant-loop-known : goal.invariant-loop-known
invariant-loop-known l =
    name_in (map (λ row. (row.0, row.1.now)) l.table) l.code ≡ name_in (map (λ row. (row.0, row.1.now)) (drop l.known-index l.table)) l.code
