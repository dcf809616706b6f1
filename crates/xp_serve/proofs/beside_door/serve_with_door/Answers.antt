use Rattle.std.proofs.Common.{rules}
use Rattle.xp_serve.proofs.beside_door.serve_with_door.Goals as goal

pub scoped-requires : goal.scoped-requires
scoped-requires g c = record { at = λ s. (c.requires.lines, (c.requires.tables, (c.requires.received, (search rules, search rules, search rules, search rules, search rules, search rules, search rules, search rules)))) }
