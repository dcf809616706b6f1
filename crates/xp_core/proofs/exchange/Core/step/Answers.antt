use Rattle.std.proofs.Common.{◌≡◌, [], ◌∷◌, ◌++◌, IfOk, length, arith, subst}
use Rattle.xp_step.specs.declared.entry.Entry.{Entry}
use Rattle.xp_core.proofs.Names.{if_ok}
use Rattle.xp_core.proofs.Reloads.{kept_frame, kept_sound, kept_still}
use Rattle.xp_step.specs.Exchange.{Exchange}
use Rattle.xp_core.specs.Lines.{HasLines}
use Rattle.xp_core.specs.Writable.{AreWritable}
use Rattle.xp_subs.specs.Tables.{Tables, line_count}
use Rattle.xp_step.specs.InForce.{brought_by, in_force}
use Rattle.xp_core.proofs.Few.{outcome_few}
use Rattle.xp_core.proofs.Showing.{kept_relays, kept_terms, outcome_advances, outcome_fits, outcome_keeps, outcome_named, outcome_shows}
use Rattle.xp_core.proofs.Sounds.{coupled_here, right_here}
use Rattle.xp_core.proofs.Stalls.{has_room}
use Rattle.xp_core.proofs.exchange.Core.step.Goals as goal

pub advance-requires-clause-sound : goal.advance-requires-clause-sound
advance-requires-clause-sound g c = right_here c.self.inside.subs.opening c.self.inside.journal.history _ c.self.inside.machine c.self.invariant.core.run c.self.invariant.core.shown

pub advance-requires-clause-terms : goal.advance-requires-clause-terms
advance-requires-clause-terms g c = kept_terms c.self.inside.subs.opening c.self.inside.journal.history c.self.inside.machine c.self.inside.relays _ c.self.invariant.core

pub advance-requires-clause-coupled : goal.advance-requires-clause-coupled
advance-requires-clause-coupled g c = coupled_here c.self.inside.subs.opening c.self.inside.journal.history _ c.self.inside.machine c.self.invariant.core.run c.self.invariant.core.shown

pub advance-requires-clause-carried : goal.advance-requires-clause-carried
advance-requires-clause-carried g c = kept_relays c.self.inside.subs.opening c.self.inside.journal.history c.self.inside.machine c.self.inside.relays _ c.self.invariant.core

pub advance-requires-clause-force : goal.advance-requires-clause-force
advance-requires-clause-force g c = c.self.invariant.force

pub advance-requires-clause-frame : goal.advance-requires-clause-frame
advance-requires-clause-frame g c = kept_frame c.self.inside.subs c.self.inside.journal.history c.self.inside.machine c.self.inside.relays _ c.self.invariant

pub advance-requires-clause-sound_now : goal.advance-requires-clause-sound_now
advance-requires-clause-sound_now g c = kept_sound c.self.inside.subs c.self.inside.journal.history c.self.inside.machine c.self.inside.relays _ c.self.invariant

pub invariant_of-self : goal.invariant_of-self
invariant_of-self g c =
    let room = has_room c.args.event.what (length c.self.inside.journal.history) c.self.inside.subs.opening.journal
    (omega (arith, c.if-count-places.false, c.count.ensures.count, c.places.ensures, c.journal.ensures)) in
    let G : Entry _ → Type 0 = λ entry. c.advance.new.journal.history ≡ c.self.inside.journal.history ++ entry ∷ [] in
    record {
      force = kept_still c.self.inside.subs c.self.inside.journal.history c.advance.new.journal.history c.args.event c.advance.result c.self.invariant.force c.advance.ensures.brought
          (if_ok G c.advance.result c.advance.ensures.ok (λ entry done. done.grown)) c.advance.ensures.history;
      core = outcome_shows c.self.inside.subs.opening c.self.inside.journal.history c.self.inside.machine c.self.inside.relays c.self.inside.journal.given c.self.inside.journal.waiting c.args.event _ _ _ _ _
          c.advance.result c.self.invariant.core c.requires.readable room
          c.advance.ensures.ok c.advance.ensures.machine c.advance.ensures.relays c.advance.ensures.history c.advance.ensures.given c.advance.ensures.waiting;
    }

pub returns-clause-ok : goal.returns-clause-ok
returns-clause-ok g c =
    let room = has_room c.args.event.what (length c.self.inside.journal.history) c.self.inside.subs.opening.journal
    (omega (arith, c.if-count-places.false, c.count.ensures.count, c.places.ensures, c.journal.ensures)) in
    outcome_advances c.self.inside.subs.opening c.self.inside.journal.history c.self.inside.machine c.self.inside.relays c.self.inside.journal.given c.self.inside.journal.waiting c.args.event _ _ _ _ _
    c.advance.result _ _ _ c.self.invariant.core c.requires.readable room c.advance.ensures.ok c.advance.ensures.given c.self.view_is

pub returns-clause-writable : goal.returns-clause-writable
returns-clause-writable g c =
    let room = has_room c.args.event.what (length c.self.inside.journal.history) c.self.inside.subs.opening.journal
    (omega (arith, c.if-count-places.false, c.count.ensures.count, c.places.ensures, c.journal.ensures)) in
    let P : Exchange _ → Type 0 = λ e. IfOk c.advance.result (λ entry. AreWritable e.subs entry.outputs) in
    subst P c.self.view_is (outcome_fits c.self.inside.subs.opening c.self.inside.journal.history c.self.inside.machine c.self.inside.relays c.self.inside.journal.given c.self.inside.journal.waiting c.args.event _ _ _ [] _
    c.advance.result c.self.invariant.core c.requires.readable room c.advance.ensures.ok)

pub returns-clause-lines : goal.returns-clause-lines
returns-clause-lines g c =
    let room = has_room c.args.event.what (length c.self.inside.journal.history) c.self.inside.subs.opening.journal
    (omega (arith, c.if-count-places.false, c.count.ensures.count, c.places.ensures, c.journal.ensures)) in
    let P : Exchange _ → Type 0 = λ e. IfOk c.advance.result (HasLines (line_count e.subs)) in
    subst P c.self.view_is (outcome_named c.self.inside.subs.opening c.self.inside.journal.history c.self.inside.machine c.self.inside.relays c.self.inside.journal.given c.self.inside.journal.waiting c.args.event _ _ _ [] _
    c.advance.result c.self.invariant.core c.requires.readable room c.advance.ensures.ok)

pub returns-clause-err : goal.returns-clause-err
returns-clause-err g c = outcome_keeps _ _ _ _ _ _ _ c.advance.result _ _ _ c.advance.ensures.history c.advance.ensures.given c.advance.ensures.waiting c.advance.ensures.as_many c.self.view_is

pub returns-clause-few : goal.returns-clause-few
returns-clause-few g c = outcome_few _ _ _ _ _ c.args.event _ _ _ _ c.advance.result
    (kept_terms c.self.inside.subs.opening c.self.inside.journal.history c.self.inside.machine c.self.inside.relays _ c.self.invariant.core) c.advance.ensures.ok

pub returns-clause-brought : goal.returns-clause-brought
returns-clause-brought g c =
    let what = c.args.event.what in
    let P : Exchange _ → Type 0 = λ e. IfOk c.advance.result (λ entry. entry.tables.items ≡ brought_by what (in_force e.subs e.history)) in
    let Q : Tables → Type 0 = λ tables. IfOk c.advance.result (λ entry. entry.tables.items ≡ brought_by what tables) in
    subst P c.self.view_is (subst Q c.self.invariant.force c.advance.ensures.brought)
