-- The tables in force along a run.
use Rattle.std.proofs.Common.{arith, ◌≡◌, List, [], ◌∷◌, ◌++◌, refl, ap, sym, subst, ◌∙◌}
use Rattle.xp_reload.proofs.Same.{frame_kept, frame_through}
use Rattle.xp_reload.specs.Frame.{IsSameFrame}
use Rattle.xp_subs.specs.Sound.{IsSound}
use Rattle.xp_subs.specs.Tables.{Tables, line_count}
use Rattle.xp_step.specs.declared.entry.Entry.{Entry}
use Rattle.xp_step.specs.declared.event.What.{What}
use Rattle.xp_step.specs.declared.event.What.TheVariants as events
use Rattle.xp_step.specs.InForce.{Brings, MayFollow, brought_by, in_force, last_of}
use Rattle.xp_step.specs.Run.{Run}
use Rattle.xp_step.specs.Step.{Step}
use Rattle.xp_machine.specs.World.{World, opening}
use Rattle.xp_step.proofs.RunLemmas.{run_keeps}

-- the tables in force may come into force again
pub follows_itself : (force : Tables) (world : World) → IsSound force → MayFollow force world force
follows_itself force world sound = record { sound = sound; frame = frame_kept force; out = λ line within goes. absurd (goes (record { name = refl; access = refl })); idle = λ line within stays differs. absurd (differs refl) }

module _ {A : Type 0} where
  -- one entry more
  pub in_force_on : (tables : Tables) (before : List (Entry A)) (entry : Entry A) → in_force tables (before ++ entry ∷ []) ≡ last_of (in_force tables before) entry.tables.items
  in_force_on tables [] entry = refl
  in_force_on tables (first ∷ before) entry = in_force_on (last_of tables first.tables.items) before entry

  -- what an event brings keeps the frame, and is sound
  brought_frame : (tables force : Tables) (world : World) (what : What A) (brought : List Tables) → Brings force world what brought
      → IsSameFrame tables force → IsSameFrame tables (last_of force brought)
  brought_frame tables force world events.Reload brought brings frame = grind (arith, frame_through)
  brought_frame tables force world events.Up brought none frame = subst (λ b. IsSameFrame tables (last_of force b)) (sym none) frame
  brought_frame tables force world events.Down brought none frame = subst (λ b. IsSameFrame tables (last_of force b)) (sym none) frame
  brought_frame tables force world (events.Frame identifier packet) brought none frame = subst (λ b. IsSameFrame tables (last_of force b)) (sym none) frame
  brought_frame tables force world (events.WrongFrame wrong) brought none frame = subst (λ b. IsSameFrame tables (last_of force b)) (sym none) frame
  brought_frame tables force world events.Expire brought none frame = subst (λ b. IsSameFrame tables (last_of force b)) (sym none) frame
  brought_frame tables force world events.Stall brought none frame = subst (λ b. IsSameFrame tables (last_of force b)) (sym none) frame

  brought_sound : (force : Tables) (world : World) (what : What A) (brought : List Tables) → Brings force world what brought → IsSound force → IsSound (last_of force brought)
  brought_sound force world events.Reload brought brings sound = subst (λ b. IsSound (last_of force b)) (sym brings.1) brings.2.sound
  brought_sound force world events.Up brought none sound = subst (λ b. IsSound (last_of force b)) (sym none) sound
  brought_sound force world events.Down brought none sound = subst (λ b. IsSound (last_of force b)) (sym none) sound
  brought_sound force world (events.Frame identifier packet) brought none sound = subst (λ b. IsSound (last_of force b)) (sym none) sound
  brought_sound force world (events.WrongFrame wrong) brought none sound = subst (λ b. IsSound (last_of force b)) (sym none) sound
  brought_sound force world events.Expire brought none sound = subst (λ b. IsSound (last_of force b)) (sym none) sound
  brought_sound force world events.Stall brought none sound = subst (λ b. IsSound (last_of force b)) (sym none) sound

  -- the same, along a run
  pub step_frame : (tables : Tables) (before : List (Entry A)) (world : World) (entry : Entry A) (next : World)
      → IsSameFrame tables (in_force tables before) → Step tables before world entry next → IsSameFrame tables (in_force tables (before ++ entry ∷ []))
  step_frame tables before world entry next frame step = grind (arith, brought_frame, in_force_on)

  pub step_sound : (tables : Tables) (before : List (Entry A)) (world : World) (entry : Entry A) (next : World)
      → IsSound (in_force tables before) → Step tables before world entry next → IsSound (in_force tables (before ++ entry ∷ []))
  step_sound tables before world entry next sound step = grind (arith, brought_sound, in_force_on)

  pub run_frame : (tables : Tables) (history : List (Entry A)) (world : World) → Run tables history world → IsSameFrame tables (in_force tables history)
  run_frame tables history world run =
      run_keeps (λ before w. IsSameFrame tables (in_force tables before)) tables (step_frame tables) [] (opening (line_count tables)) history world (frame_kept tables) run

  pub run_sound : (tables : Tables) (history : List (Entry A)) (world : World) → IsSound tables → Run tables history world → IsSound (in_force tables history)
  run_sound tables history world sound run =
      run_keeps (λ before w. IsSound (in_force tables before)) tables (step_sound tables) [] (opening (line_count tables)) history world sound run

  -- an entry that brings none leaves those in force
  pub in_force_still : (tables : Tables) (before : List (Entry A)) (entry : Entry A) → entry.tables.items ≡ [] → in_force tables (before ++ entry ∷ []) ≡ in_force tables before
  in_force_still tables before entry none = in_force_on tables before entry ∙ ap (last_of (in_force tables before)) none

  -- what an event may bring
  pub brings_next : (force next : Tables) (world : World) (what : What A) → MayFollow force world next → Brings force world what (brought_by what next)
  brings_next force next world events.Reload may = (next, refl, may)
  brings_next force next world events.Up may = refl
  brings_next force next world events.Down may = refl
  brings_next force next world (events.Frame identifier packet) may = refl
  brings_next force next world (events.WrongFrame wrong) may = refl
  brings_next force next world events.Expire may = refl
  brings_next force next world events.Stall may = refl

  -- those in force again
  pub brings_again : (force : Tables) (world : World) (what : What A) → IsSound force → Brings force world what (brought_by what force)
  brings_again force world what sound = brings_next force force world what (follows_itself force world sound)

  -- and then they are in force still
  pub last_again : (force : Tables) (what : What A) → last_of force (brought_by what force) ≡ force
  last_again force events.Reload = refl
  last_again force events.Up = refl
  last_again force events.Down = refl
  last_again force (events.Frame identifier packet) = refl
  last_again force (events.WrongFrame wrong) = refl
  last_again force events.Expire = refl
  last_again force events.Stall = refl
