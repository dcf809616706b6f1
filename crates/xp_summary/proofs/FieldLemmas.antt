-- The fields of a row.
use Rattle.std.proofs.Common.{ℕ, suc, ◌+◌, List, [], ◌∷◌, ◌++◌, sym, subst, arith}
use Rattle.xp_subs.specs.Tables.{Tables}
use Rattle.xp_summary.specs.Matrix.{IsField, AreFields}

-- one field more
pub one_more : (tables : Tables) (caller first past : ℕ) (fields : List ℕ) (field : ℕ)
    → AreFields tables caller first past fields → IsField tables caller past field
    → AreFields tables caller first (past + 1) (fields ++ field ∷ [])
one_more tables caller first past [] field at is =
    let P : ℕ → Type 0 = λ called. IsField tables caller called field in
    (subst P (sym at) is, omega (arith, at))
one_more tables caller first past (other ∷ fields) field (is_other, are) is =
    (is_other, one_more tables caller (suc first) past fields field are is)
