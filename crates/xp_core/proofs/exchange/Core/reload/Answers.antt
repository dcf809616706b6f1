use Rattle.std.proofs.Common.{◌≡◌, ◌∷◌, [], ◌++◌, arith, sym, subst}
use Rattle.xp_step.specs.declared.entry.Entry.{Entry}
use Rattle.xp_subs.specs.Tables.{Tables}
use Rattle.xp_core.specs.steps.CoreInvariant.{CoreInvariant}
use Rattle.xp_core.proofs.Names.{if_ok}
use Rattle.xp_core.proofs.Reloads.{kept_on, reload_advances, reload_shows}
use Rattle.xp_core.proofs.Sounds.{right_here}
use Rattle.xp_core.proofs.exchange.Core.reload.Goals as goal

pub reload-requires-clause-some_line : goal.reload-requires-clause-some_line
reload-requires-clause-some_line g c =
    let inside = c.self.inside in
    let lines = (right_here inside.subs.opening inside.journal.history _ inside.machine c.self.invariant.core.run c.self.invariant.core.shown).lines in
    let some = c.self.invariant.core.sound.some_line in
    omega (arith, lines, some)

pub invariant_of-self : goal.invariant_of-self
invariant_of-self g c =
    let old = c.self.inside in
    let new = c.reload.new in
    let done = c.reload.ensures in
    let G : Entry _ → Type 0 = λ entry. new.journal.history ≡ old.journal.history ++ entry ∷ [] in
    let C : Tables → Type 0 = λ tables. CoreInvariant tables new.journal.history old.machine old.relays (new.journal.given ++ new.journal.waiting) in
    record {
      core = subst C (sym done.opening) (reload_shows old.subs new.subs old.journal.history new.journal.history old.machine old.relays old.journal.given new.journal.given
          old.journal.waiting new.journal.waiting c.args.moment c.reload.result c.self.invariant.core done.room (done.ok old.relays) done.history done.given done.waiting);
      force = kept_on old.subs new.subs old.journal.history new.journal.history c.args.subs c.reload.result c.self.invariant.force done.opening done.brought
          (if_ok G c.reload.result (done.ok old.relays) (λ entry enters. enters.grown)) done.in_force done.as_before done.history;
    }

pub returns-clause-ok : goal.returns-clause-ok
returns-clause-ok g c =
    let old = c.self.inside in
    let new = c.reload.new in
    let done = c.reload.ensures in
    reload_advances old.subs new.subs old.journal.history new.journal.history old.machine old.relays old.journal.given new.journal.given
    old.journal.waiting new.journal.waiting c.args.moment c.reload.result _ _ _ c.self.invariant.core done.room (done.ok old.relays) done.given done.opening c.self.view_is
