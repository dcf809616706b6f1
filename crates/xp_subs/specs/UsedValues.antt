-- The values that a subscription file may use only once: addresses of stations and lines together, names of lines,
-- and ports.
use Rattle.std.specs.Prelude.{◌≡◌, ℕ, List, [], ◌∷◌, ◌++◌, Option, None, Some, Contains, map}
use Rattle.xp_file.specs.declared.entry.Access.{Access}
use Rattle.xp_file.specs.declared.entry.Access.TheVariants.{Port, Router, Spare}
use Rattle.xp_file.specs.declared.entry.LineEntry.{LineEntry}
use Rattle.xp_file.specs.declared.key.Key.{Key}
use Rattle.xp_file.specs.declared.key.Key.TheVariants as keys
use Rattle.xp_file.specs.Entries.{StationData}

-- one use of a value
pub data Use : Type 0 where
  address : List ℕ → Use
  name : List ℕ → Use
  port : ℕ → Use

-- the key under which it is written
abbrev pub key_of : Use → Key
key_of (address a) = keys.Address
key_of (name n) = keys.Name
key_of (port p) = keys.Port

-- the use of a line's own address, if it has one
abbrev pub own_use : Option (List ℕ) → List Use
own_use None = []
own_use (Some a) = address a ∷ []

abbrev pub own_uses : List LineEntry → List Use
own_uses [] = []
own_uses (line ∷ lines) = own_use line.address ++ own_uses lines

-- the use of a line's port, if it has one
abbrev pub port_use : Access → List Use
port_use (Port p) = port p ∷ []
port_use (Router router) = []
port_use Spare = []

abbrev pub port_uses : List LineEntry → List Use
port_uses [] = []
port_uses (line ∷ lines) = port_use line.access ++ port_uses lines

-- the uses of a station: its address, then the names of all its lines, then their ports, then their own addresses
abbrev pub uses_of_station : StationData → List Use
uses_of_station station =
    address station.address ∷ map (λ (line : LineEntry). name line.name) station.lines
    ++ (port_uses station.lines ++ own_uses station.lines)

-- all uses in a file, in the order of the file
abbrev pub uses_of : List StationData → List Use
uses_of [] = []
uses_of (station ∷ stations) = uses_of_station station ++ uses_of stations

-- the list does not contain any value twice
abbrev pub Once : {A : Type 0} → List A → Type 0
Once {A} xs = (before : List A) (x : A) (after : List A) → xs ≡ before ++ x ∷ after → Contains before x → ⊥

-- the first use, in the order of the file, of a value that was already used
pub record IsFirstRepeated (uses : List Use) (again_used : Use) : Type 0 where
  pub before : List Use
  pub after : List Use
  pub split : uses ≡ before ++ again_used ∷ after
  pub once : Once before
  pub again : Contains before again_used
