-- The tables in force along a history, and what is told by them.
use Rattle.std.proofs.Common.{◌≡◌, ℕ, ◌≤◌, true, false, List, [], ◌∷◌, ◌++◌, refl, sym, ap, ◌∙◌, append_assoc, subst, arith}
use Rattle.std.proofs.lemmas.List.Elements.{All-weaker}
use Rattle.xp_core.specs.Lines.{HasLines}
use Rattle.xp_core.specs.Writable.{AreWritable, IsWritable}
use Rattle.xp_reload.proofs.Same.{modulus_kept}
use Rattle.xp_reload.specs.Frame.{IsSameFrame}
use Rattle.xp_script.specs.Text.{entry_text, text_of}
use Rattle.xp_step.proofs.InForce.{in_force_still}
use Rattle.xp_step.specs.declared.entry.Entry.{Entry}
use Rattle.xp_step.specs.declared.event.Event.{Event}
use Rattle.xp_step.specs.declared.event.What.{What}
use Rattle.xp_step.specs.declared.event.What.TheVariants.{Up, Down, Frame, WrongFrame, Expire, Stall, Reload}
use Rattle.xp_step.specs.declared.output.Output.{Output}
use Rattle.xp_step.specs.Exchange.{Advances, Exchange}
use Rattle.xp_step.specs.InForce.{brought_by, in_force, last_of}
use Rattle.xp_step.specs.Stalls.{places_for}
use Rattle.xp_subs.specs.Tables.{Tables, line_count, modulus_of}
use Rattle.xp_exchange.specs.FrameEvents.{brings_tables}
use Rattle.xp_exchange.specs.Play.{force_in}

module _ {A : Type 0} where
  in_force-append : (tables : Tables) (xs ys : List (Entry A)) → in_force tables (xs ++ ys) ≡ in_force (in_force tables xs) ys
  in_force-append tables [] ys = refl
  in_force-append tables (x ∷ xs) ys = in_force-append (last_of tables x.tables.items) xs ys

  -- behind these entries
  pub force_on : (old between : Exchange A) (entries : List (Entry A)) → between.subs ≡ old.subs → between.history ≡ old.history ++ entries → force_in between ≡ in_force (force_in old) entries
  force_on old between entries same history =
      ap (λ subs. in_force subs between.history) same ∙ ap (in_force old.subs) history ∙ in_force-append old.subs old.history entries

  pub text_of-append : (force : Tables) (xs ys : List (Entry A)) → text_of force (xs ++ ys) ≡ text_of force xs ++ text_of (in_force force xs) ys
  text_of-append force [] ys = refl
  text_of-append force (x ∷ xs) ys =
      ap (λ rest. entry_text force x ++ rest) (text_of-append (last_of force x.tables.items) xs ys)
      ∙ sym (append_assoc (entry_text force x) (text_of (last_of force x.tables.items) xs) (text_of (in_force (last_of force x.tables.items) xs) ys))

  -- an entry that brings no tables
  pub force_still : (old new : Exchange A) (event : Event A) (entry : Entry A) → Advances old event new entry → entry.tables.items ≡ [] → force_in new ≡ force_in old
  force_still old new event entry advances none =
      ap (λ subs. in_force subs new.history) advances.subs ∙ ap (in_force old.subs) advances.history ∙ in_force_still old.subs old.history entry none

  pub brings_nothing : (what : What A) (force : Tables) → brings_tables what ≡ false → brought_by what force ≡ []
  brings_nothing Up force none = refl
  brings_nothing Down force none = refl
  brings_nothing (Frame identifier packet) force none = refl
  brings_nothing (WrongFrame wrong) force none = refl
  brings_nothing Expire force none = refl
  brings_nothing Stall force none = refl
  brings_nothing Reload force none = absurd (cc)

  -- four places of the history are enough for any event
  pub few_places : (what : What A) → places_for what ≤ 4
  few_places Up = omega arith
  few_places Down = omega arith
  few_places (Frame identifier packet) = omega arith
  few_places (WrongFrame wrong) = omega arith
  few_places Expire = omega arith
  few_places Stall = omega arith
  few_places Reload = omega arith

  -- the moduli stay, and so what can be written
  pub writable_kept : (old next : Tables) (outputs : List (Output A)) → IsSameFrame old next → AreWritable old outputs → AreWritable next outputs
  writable_kept old next outputs frame each =
      All-weaker (λ (output : Output A). IsWritable (modulus_of old output.line) output.outgoing.put) (λ (output : Output A). IsWritable (modulus_of next output.line) output.outgoing.put)
      (λ output writable. subst (λ modulus. IsWritable modulus output.outgoing.put) (sym (modulus_kept old next frame output.line)) writable) outputs each

  pub lines_kept : (old next : Tables) (entry : Entry A) → IsSameFrame old next → HasLines (line_count old) entry → HasLines (line_count next) entry
  lines_kept old next entry frame lines = subst (λ count. HasLines count entry) (sym frame.count) lines
