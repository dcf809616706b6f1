use Rattle.std.proofs.Common.{◌≢◌, ℕ, List, Result, Ok, Err, IfErr, IfOk}
use Rattle.xp_script.specs.NamedText.{CannotLay, LaysOver}
use Rattle.xp_subs.specs.Built.{SetsUp}
use Rattle.xp_subs.specs.Laid.{CannotBeLaid, IsLaidOver}
use Rattle.xp_subs.specs.Tables.{Tables}
use Rattle.xp_subs.specs.declared.laid.LayFault.{LayFault}
use Rattle.xp_subs.specs.declared.laid.LayFault.TheVariants.{Memory}
use Rattle.xp_script.proofs.named_tables.NamedTables.laid_over.Goals as goal

-- what the text sets up is what is laid
lays : (text : List ℕ) (force next : Tables) (result : Result Tables LayFault) → SetsUp text (Ok next) → IfOk result (IsLaidOver force next) → IfOk result (LaysOver text force)
lays text force next (Ok tables) set_up over = record { next = next; set_up = set_up; over = over }
lays text force next (Err fault) set_up over = tt

-- and what cannot be laid
not_laid : (text : List ℕ) (force next : Tables) (result : Result Tables LayFault) → SetsUp text (Ok next)
    → IfErr result (λ fault. fault ≢ Memory → CannotBeLaid force next fault) → IfErr result (λ fault. fault ≢ Memory → CannotLay text force fault)
not_laid text force next (Ok tables) set_up cannot = tt
not_laid text force next (Err fault) set_up cannot = λ other. record { next = next; set_up = set_up; cannot = cannot other }

pub returns-clause-laid : goal.returns-clause-laid
returns-clause-laid c = lays c.args.self.now.text c.args.force.now c.in_ok-next.next c.laid_over.result c.in_ok-next.ensures c.laid_over.ensures.laid

pub returns-clause-refused : goal.returns-clause-refused
returns-clause-refused c = not_laid c.args.self.now.text c.args.force.now c.in_ok-next.next c.laid_over.result c.in_ok-next.ensures c.laid_over.ensures.refused
