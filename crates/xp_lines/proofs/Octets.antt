-- What is known of the octets of a link, step by step.
use Rattle.std.proofs.Common.{◌≡◌, ℕ, ◌+◌, ◌-◌, List, [], ◌++◌, length, take, drop, sym, ap, ◌∙◌, append_assoc, append-nil, subst, Option, None, Some}
use Rattle.std.proofs.Math.Seq.{take-add}
use Rattle.std.proofs.lemmas.List.{take_rest}
use Rattle.std.specs.Io.KnownBytes.{Appends}

pub appends_nothing : (known : Option (List ℕ)) → Appends known known []
appends_nothing None = tt
appends_nothing (Some octets) = sym (append-nil octets)

pub appends_same : (known after : Option (List ℕ)) → after ≡ known → Appends known after []
appends_same known after same = subst (λ now. Appends known now []) (sym same) (appends_nothing known)

pub appends_both : (first second third : Option (List ℕ)) (one other : List ℕ) → Appends first second one → Appends second third other → Appends first third (one ++ other)
appends_both None second third one other a b = tt
appends_both (Some xs) None third one other a b = elim a [ ]
appends_both (Some xs) (Some ys) None one other a b = elim b [ ]
appends_both (Some xs) (Some ys) (Some zs) one other a b = b ∙ ap (λ front. front ++ other) a ∙ append_assoc xs one other

-- so many octets of a list, and then the first of those behind them
pub appends_next : (first second third : Option (List ℕ)) (octets rest : List ℕ) (count n : ℕ) → Appends first second (take count octets) → rest ≡ take (length octets - count) (drop count octets)
    → Appends second third (take n rest) → Appends first third (take (count + n) octets)
appends_next first second third octets rest count n before cut more =
    let here : take n rest ≡ take n (drop count octets) = ap (take n) (cut ∙ take_rest octets count) in
    subst (Appends first third) (ap (λ xs. take count octets ++ xs) here ∙ sym (take-add count n octets))
    (appends_both first second third (take count octets) (take n rest) before more)
