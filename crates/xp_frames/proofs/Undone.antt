-- What a refused call puts back.
use Rattle.std.specs.Prelude.{if◌then◌else◌}
use Rattle.std.proofs.Common.{◌≡◌, ℕ, Bool, true, false, List, ◌++◌, length, take, map, sym, ap, ◌∙◌, arith}
use Rattle.std.proofs.lemmas.List.{take-map, take_at, take_all}
use Rattle.xp_frames.specs.Deframer.{DeframerState}

pub restored_waiting : {X : Type 0} (f : X → List ℕ) (old new back : List X) (n : ℕ) → n ≡ length old → take (length (map f old)) (map f new) ≡ map f old → back ≡ take n new → length (map f old) ≡ length old → map f back ≡ map f old
restored_waiting f old new back n len kept cut same =
    ap (map f) cut ∙ (sym (take-map f n new) ∙ (ap (λ k. take k (map f new)) (len ∙ sym same) ∙ kept))

pub restored_rest : (old piece new back : List ℕ) (grown : Bool) (n : ℕ) → new ≡ (if grown then old ++ piece else old) → n ≡ length old → back ≡ take n new → back ≡ old
restored_rest old piece new back true n made len cut = cut ∙ (ap (take n) made ∙ take_at old piece n (sym len))
restored_rest old piece new back false n made len cut = cut ∙ (ap (take n) made ∙ take_all n old (omega arith))

pub same_held : (waiting others : List (List ℕ)) (rest left : List ℕ) (failed : Bool) → waiting ≡ others → rest ≡ left →
    (let one : DeframerState = record { waiting = waiting; rest = rest; failed = failed } in let other : DeframerState = record { waiting = others; rest = left; failed = failed } in one ≡ other)
same_held waiting others rest left failed e f = cc
