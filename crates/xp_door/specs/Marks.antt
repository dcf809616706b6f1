-- Sets of places as numbers.
use Rattle.std.specs.Prelude.{ℕ, zero, suc, ◌+◌, List, [], ◌∷◌, ◌++◌, ◌/◌, ◌%◌, nat_eq, if◌then◌else◌}

-- the places of the ones among the last so many binary digits of a number, whose last digit has the place `first`
unfoldable pub ones : ℕ → ℕ → ℕ → List ℕ
ones zero first number = []
ones (suc digits) first number =
    (if nat_eq (number % 2) 1 then first ∷ [] else []) ++ ones digits (first + 1) (number / 2)
