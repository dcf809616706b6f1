-- For private steps. The threads that were started, or could not be, and what they return.
use Rattle.std.specs.Prelude.{List, [], ◌∷◌, ◌++◌, Result, Ok, Err}
use Rattle.std.specs.declared.alloc.Global.{Global as Alloc}
use Rattle.std.specs.declared.thread.PromisedHandle.{PromisedHandle}
use Rattle.std.specs.declared.vec.Vec.{Vec}
use Rattle.xp_lock.specs.Passes.{Pass}
use Rattle.xp_links.specs.Pairs.{AreEach}
use Rattle.xp_lines.specs.declared.threads.OfLines.{OfLines}

module _ {N P L C B : Type 0} where
  -- the lines of a thread that was started, or could not be
  abbrev pub lines_of : Result (PromisedHandle (Vec (Pass Alloc) Alloc) (OfLines N P C B L)) (Vec (Pass Alloc) Alloc) → List (Pass Alloc)
  lines_of (Ok handle) = handle.promise.first.value.items
  lines_of (Err lines) = lines.items

  -- the lines of all these threads, in order
  abbrev pub begun_lines : List (Result (PromisedHandle (Vec (Pass Alloc) Alloc) (OfLines N P C B L)) (Vec (Pass Alloc) Alloc)) → List (Pass Alloc)
  begun_lines [] = []
  begun_lines (begun ∷ more) = lines_of begun ++ begun_lines more

-- to what belongs together this was added, which belongs to these
abbrev pub Adds : {X Y : Type 0} → (X → Y → Type 0) → List Y → List X → List Y → Type 0
Adds {X = X} R old more new = (done : List X) → AreEach R done old → AreEach R (done ++ more) new
