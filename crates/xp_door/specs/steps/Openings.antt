-- What is made of the packets that a deframer has.
use Rattle.std.specs.Prelude.{◌≡◌, ◌⊎◌, ℕ, List, [], ◌∷◌}
use Rattle.std.specs.declared.alloc.Global.{Global as Alloc}
use Rattle.std.specs.declared.vec.Vec.{Vec}
use Rattle.xp_door.specs.declared.opening.Opening.{Opening}
use Rattle.xp_door.specs.declared.opening.Opening.TheVariants.{Packet}

-- the first of these packets, or where there is none this
abbrev pub OpensWith : List (List ℕ) → Opening → Opening → Type 0
OpensWith waiting otherwise result =
    ((waiting ≡ []) × (result ≡ otherwise))
    ⊎ ((first : Vec ℕ Alloc) × (others : List (List ℕ)) × (waiting ≡ first.items ∷ others) × (result ≡ Packet first))
