-- One text behind another.
use Rattle.std.proofs.Common.{◌≡◌, ℕ, List, [], ◌++◌, Result, Ok, Err, OnOk, ap, sym, ◌∙◌, append_assoc, append-nil, if◌then◌else◌, is_ok}

-- a text that was appended, and then another one
pub both_appended : (first second third one other : List ℕ) → second ≡ first ++ one → third ≡ second ++ other → third ≡ first ++ (one ++ other)
both_appended first second third one other h k = k ∙ ap (λ t. t ++ other) h ∙ append_assoc first one other

-- the same, where the second was appended if that succeeded
pub then_appended : {A E : Type 0} (r : Result A E) (first second third one other : List ℕ) → second ≡ first ++ one → OnOk r (third ≡ second ++ other) → OnOk r (third ≡ first ++ (one ++ other))
then_appended (Ok done) first second third one other h k = both_appended first second third one other h k
then_appended (Err fault) first second third one other h k = tt

-- six pieces, one behind another
six_pieces : (a b c d e f : List ℕ) → a ++ (b ++ (c ++ (d ++ (e ++ (f ++ []))))) ≡ a ++ b ++ c ++ d ++ e ++ f
six_pieces a b c d e f =
    sym (append_assoc a b _)
    ∙ sym (append_assoc (a ++ b) c _)
    ∙ sym (append_assoc (a ++ b ++ c) d _)
    ∙ sym (append_assoc (a ++ b ++ c ++ d) e _)
    ∙ sym (append_assoc (a ++ b ++ c ++ d ++ e) f [])
    ∙ append-nil (a ++ b ++ c ++ d ++ e ++ f)

-- six pieces that were appended, then a number, and then an end
pub six_then : {A E : Type 0} (r : Result A E) (old first second third a b c d e f number end : List ℕ) → first ≡ old ++ (a ++ (b ++ (c ++ (d ++ (e ++ (f ++ []))))))
    → second ≡ first ++ number → third ≡ (if is_ok r then second ++ end else second) → OnOk r (third ≡ old ++ (a ++ b ++ c ++ d ++ e ++ f ++ number ++ end))
six_then (Ok done) old first second third a b c d e f number end pieces counted ended =
    ended
    ∙ ap (λ t. t ++ end) (counted ∙ ap (λ t. t ++ number) (pieces ∙ ap (λ t. old ++ t) (six_pieces a b c d e f)) ∙ append_assoc old (a ++ b ++ c ++ d ++ e ++ f) number)
    ∙ append_assoc old (a ++ b ++ c ++ d ++ e ++ f ++ number) end
six_then (Err fault) old first second third a b c d e f number end pieces counted ended = tt

-- what was appended where that succeeded
pub appended : {A E : Type 0} (r : Result A E) (old new end : List ℕ) → new ≡ (if is_ok r then old ++ end else old) → OnOk r (new ≡ old ++ end)
appended (Ok done) old new end is = is
appended (Err fault) old new end is = tt

-- nine pieces that were appended, one behind another
pub nine_appended : {A E : Type 0} (r : Result A E) (old new a b c d e f g h i : List ℕ) → OnOk r (new ≡ old ++ (a ++ (b ++ (c ++ (d ++ (e ++ (f ++ (g ++ (h ++ (i ++ []))))))))))
    → OnOk r (new ≡ old ++ (a ++ b ++ c ++ d ++ e ++ f ++ g ++ h ++ i))
nine_appended (Ok done) old new a b c d e f g h i is = is ∙ ap (λ t. old ++ t) (simp (append_assoc, append-nil))
nine_appended (Err fault) old new a b c d e f g h i is = tt
