-- A list whose elements a loop writes one by one.
use Rattle.std.proofs.Common.{◌≡◌, ℕ, ◌+◌, ◌<◌, ◌≤◌, List, [], ◌∷◌, ◌++◌, length, map, set, take, drop, get_or, sym, ap, ◌∙◌, arith}
use Rattle.std.proofs.lemmas.List.{append-nil, append_assoc, drop_all, drop_more, get_or_at, length-map, length-take-le, map-append, set_at, take_all, take_more}

pub written : {X : Type 0} (f : X → X) (xs now : List X) (i : ℕ) (d : X) → i < length xs → now ≡ map f (take i xs) ++ drop i xs
    → set now i (f (get_or now i d)) ≡ map f (take (i + 1) xs) ++ drop (i + 1) xs
written f xs now i d within is =
    let first = map f (take i xs) in
    let rest = drop (i + 1) xs in
    let long : length first ≡ i = length-map (take i xs) f ∙ length-take-le i xs (omega arith) in
    let parted : now ≡ first ++ get_or xs i d ∷ rest = is ∙ ap (λ l. first ++ l) (drop_more xs i d within) in
    let here : get_or now i d ≡ get_or xs i d = ap (λ l. get_or l i d) parted ∙ get_or_at first (get_or xs i d) rest d i long in
    ap (λ x. set now i (f x)) here
    ∙ ap (λ l. set l i (f (get_or xs i d))) parted
    ∙ set_at first (get_or xs i d) rest (f (get_or xs i d)) i long
    ∙ sym (append_assoc first (f (get_or xs i d) ∷ []) rest)
    ∙ ap (λ l. l ++ rest) (sym (map-append f (take i xs) (get_or xs i d ∷ [])))
    ∙ ap (λ l. map f l ++ rest) (sym (take_more xs i d within))

pub all_written : {X : Type 0} (f : X → X) (xs now : List X) (i : ℕ) → length xs ≤ i → now ≡ map f (take i xs) ++ drop i xs → now ≡ map f xs
all_written f xs now i past is =
    is ∙ ap (λ l. map f (take i xs) ++ l) (drop_all i xs past) ∙ append-nil (map f (take i xs)) ∙ ap (map f) (take_all i xs past)
