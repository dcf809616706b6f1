-- For private steps. An exchange that is ready to be served (`AreReady`), and its lines as all have ended (`WereServed`).
use Rattle.std.specs.Prelude.{◌≡◌, ◌≤◌, List, [], map, vec_capacity}
use Rattle.std.specs.declared.alloc.Global.{Global as Alloc}
use Rattle.std.specs.List.{AllByRecursion}
use Rattle.xp_links.specs.Pairs.{AreEach}
use Rattle.xp_lines.specs.Sessions.{IsAnyLink, IsLineServed}
use Rattle.xp_lines.specs.declared.line.LineEnd.{LineEnd}
use Rattle.xp_lock.specs.Opening.{AreFirst}
use Rattle.xp_lock.specs.Passes.{Pass}
use Rattle.xp_subs.specs.Tables.{Tables, line_count}
use Rattle.xp_serve.specs.Served.{IsDownIfStopped}
use Rattle.xp_serve.specs.declared.serving.Ready.{Ready}

-- The threads are given the first passes of all lines, the recorder has taken nothing, and there is room for what comes back.
pub record AreReady {N : Type 0} (subs : Tables) (ready : Ready N) : Type 0 where
  pub passes : AreFirst (line_count subs) (map (λ line. line.pass) ready.threads.lines.lines.items)
  pub recorder : ready.recorder ≡ record { seen = []; received = [] }
  pub room : (ready.room.items ≡ []) × (line_count subs ≤ vec_capacity ready.room)
  pub room_of_reasons : (ready.room_of_reasons.items ≡ []) × (line_count subs ≤ vec_capacity ready.room_of_reasons)

-- these are the passes of all lines, each as serving left it from its first pass on
pub record WereServed (subs : Tables) (passes : List (Pass Alloc)) : Type 0 where
  pub firsts : List (Pass Alloc)
  pub are_first : AreFirst (line_count subs) firsts
  pub each : AreEach (IsLineServed subs IsAnyLink) firsts passes

-- the lines that tell that they were stopped are down
abbrev pub WereStopped : {N : Type 0} → Tables → List (LineEnd N Alloc) → Type 0
WereStopped subs ends = AllByRecursion (λ end. IsDownIfStopped subs end.why end.pass) ends
