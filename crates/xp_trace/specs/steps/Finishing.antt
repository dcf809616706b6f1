-- Octets that complete the frame that is not whole yet.
use Rattle.std.specs.Prelude.{◌≡◌, ◌≢◌, ◌⊎◌, ℕ, Bool, false, true, List, [], ◌++◌, length, take}
use Rattle.xp_clearing.specs.Frames.{IsWhole}

-- So many of the octets pass behind those of an unfinished frame: none between two frames, else those by which it is whole, or all
-- where it is not whole by them.
abbrev pub FinishesFrame : List ℕ → List ℕ → ℕ → List ℕ → Type 0
FinishesFrame part octets count left =
    ((part ≡ []) × (count ≡ 0) × (left ≡ part))
    ⊎ ((part ≢ []) × (left ≡ []) × IsWhole (part ++ take count octets))
    ⊎ ((part ≢ []) × (count ≡ length octets) × (left ≡ part ++ octets))

-- So many of the octets that pass are left out: none, or behind others that were, those by which the frame is whole.
abbrev pub Skips : Bool → List ℕ → List ℕ → ℕ → List ℕ → Type 0
Skips false part octets count left = (count ≡ 0) × (left ≡ part)
Skips true part octets count left = FinishesFrame part octets count left
