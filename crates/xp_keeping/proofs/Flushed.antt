-- Texts behind which an output is flushed.
use Rattle.std.proofs.Common.{ℕ, List, [], ◌++◌, Option, Result, Ok, Err, subst}
use Rattle.std.proofs.lemmas.List.{append-nil}
use Rattle.std.specs.Io.KnownBytes.{Appends}
use Rattle.xp_writing.proofs.Bytes.{appends_both}
use Rattle.xp_keeping.proofs.Fronts.{front_after}
use Rattle.xp_keeping.specs.Printing.{IsFront, Prints}

pub flushed : {F : Type 0} (before between after : Option (List ℕ)) (text : List ℕ) (result : Result (Unit {0}) F)
    → Appends before between text → Prints between after [] result → Prints before after text result
flushed before between after text (Ok done) written more = subst (Appends before after) (append-nil text) (appends_both before between after text [] written more)
flushed before between after text (Err fault) written more =
    (text ++ more.0, appends_both before between after text more.0 written more.1, subst (IsFront (text ++ more.0)) (append-nil text) (front_after text more.0 [] more.2))
