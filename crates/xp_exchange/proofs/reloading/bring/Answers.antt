use Rattle.xp_exchange.proofs.TablesLines.{comes_into_force}
use Rattle.xp_exchange.proofs.reloading.bring.Goals as goal

pub returns-in-Ok : goal.returns-in-Ok
returns-in-Ok g c =
    comes_into_force _ _ _ _ c.in-Ok.entry c.in-Ok.ensures.ok c.in-Ok.ensures.brought c.in-Ok.ensures.quiet c.in-Ok.ensures.unrecorded c.requires.1
