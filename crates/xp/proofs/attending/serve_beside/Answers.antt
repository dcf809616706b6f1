use Rattle.std.proofs.Common.{rules}
use Rattle.xp.proofs.attending.serve_beside.Goals as goal

pub scoped-requires : goal.scoped-requires
scoped-requires g c = record { at = λ s. (c.requires.names, (c.requires.shown, (c.requires.new, search rules))) }
