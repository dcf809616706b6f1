-- Sets of places as numbers, digit by digit.
use Rattle.std.proofs.Common.{◌≡◌, ℕ, suc, ◌+◌, ◌-◌, ◌<◌, ◌≤◌, ◌%◌, ◌/◌, nat_eq, true, false, List, [], ◌∷◌, ◌++◌, sym, ap, ◌∙◌, arith, append_assoc, append-nil}
use Rattle.std.specs.Bool.{if◌then◌else◌}
use Rattle.xp_door.specs.Marks.{ones}

-- no digits are left
pub all_digits : (digit first rest : ℕ) (places : List ℕ) → 64 ≤ digit → places ++ ones (64 - digit) (first + digit) rest ≡ places
unfolding ones
all_digits digit first rest places past =
    let none : 64 - digit ≡ 0 = omega (arith, past) in
    ap (λ n. places ++ ones n (first + digit) rest) none ∙ append-nil places

-- the digits from this one on, of which the first is a one or none
next_digit : (digit first rest : ℕ) → digit < 64
    → ones (64 - digit) (first + digit) rest
    ≡ (if nat_eq (rest % 2) 1 then (first + digit) ∷ [] else []) ++ ones (64 - (digit + 1)) (first + (digit + 1)) (rest / 2)
unfolding ones
next_digit digit first rest within =
    let count : 64 - digit ≡ suc (64 - (digit + 1)) = omega (arith, within) in
    let place : first + digit + 1 ≡ first + (digit + 1) = omega arith in
    ap (λ n. ones n (first + digit) rest) count
    ∙ ap (λ p. (if nat_eq (rest % 2) 1 then (first + digit) ∷ [] else []) ++ ones (64 - (digit + 1)) p (rest / 2)) place

pub after_one : (digit first rest : ℕ) (places : List ℕ) → digit < 64 → nat_eq (rest % 2) 1 ≡ true
    → (places ++ (first + digit) ∷ []) ++ ones (64 - (digit + 1)) (first + (digit + 1)) (rest / 2) ≡ places ++ ones (64 - digit) (first + digit) rest
after_one digit first rest places within is =
    let more = ones (64 - (digit + 1)) (first + (digit + 1)) (rest / 2) in
    append_assoc places ((first + digit) ∷ []) more
    ∙ ap (λ b. places ++ ((if b then (first + digit) ∷ [] else []) ++ more)) (sym is)
    ∙ ap (λ xs. places ++ xs) (sym (next_digit digit first rest within))

pub after_none : (digit first rest : ℕ) (places : List ℕ) → digit < 64 → nat_eq (rest % 2) 1 ≡ false
    → places ++ ones (64 - (digit + 1)) (first + (digit + 1)) (rest / 2) ≡ places ++ ones (64 - digit) (first + digit) rest
after_none digit first rest places within is =
    let more = ones (64 - (digit + 1)) (first + (digit + 1)) (rest / 2) in
    ap (λ b. places ++ ((if b then (first + digit) ∷ [] else []) ++ more)) (sym is)
    ∙ ap (λ xs. places ++ xs) (sym (next_digit digit first rest within))
