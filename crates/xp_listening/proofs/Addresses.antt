-- The addresses and networks of texts, one after the other.
use Rattle.std.proofs.Common.{◌≡◌, ℕ, zero, suc, ◌+◌, ◌<◌, List, [], ◌∷◌, ◌++◌, Some, ap, get_or, length, refl, slice_get, subst, sym, take, ◌∙◌}
use Rattle.std.proofs.lemmas.List.{take_more}
use Rattle.xp_listening.specs.Accesses.{AreSources}
use Rattle.xp_tcp.specs.Networks.{IsSourceText}
use Rattle.xp_tcp.specs.declared.source.Source.{Source}

-- as many sources as texts
pub are_count : (texts : List (List ℕ)) (sources : List Source) → AreSources texts sources → length sources ≡ length texts
are_count [] [] are = refl
are_count [] (source ∷ sources) are = absurd are
are_count (text ∷ texts) [] are = absurd are
are_count (text ∷ texts) (source ∷ sources) are = ap suc (are_count texts sources are.1)

-- one more text, and its source
pub are_more : (texts : List (List ℕ)) (sources : List Source) (text : List ℕ) (source : Source) → AreSources texts sources → IsSourceText text source
    → AreSources (texts ++ text ∷ []) (sources ++ source ∷ [])
are_more [] [] text source are is = (is, tt)
are_more [] (other ∷ sources) text source are is = absurd are
are_more (first ∷ texts) [] text source are is = absurd are
are_more (first ∷ texts) (other ∷ sources) text source are is = (are.0, are_more texts sources text source are.1 is)

some_text : (text other : List ℕ) → Some text ≡ Some other → text ≡ other
some_text text other same = cc

-- the text at a place
text_at : (texts : List (List ℕ)) (place : ℕ) (text : List ℕ) → Some text ≡ slice_get texts place → get_or texts place [] ≡ text
text_at [] place text is = absurd (cc)
text_at (first ∷ texts) zero text is = sym (some_text text first is)
text_at (first ∷ texts) (suc place) text is = text_at texts place text is

-- the source of the next text
pub are_next : (texts : List (List ℕ)) (sources : List Source) (place : ℕ) (text : List ℕ) (source : Source) → place < length texts
    → Some text ≡ slice_get texts place → AreSources (take place texts) sources → IsSourceText text source
    → AreSources (take (place + 1) texts) (sources ++ source ∷ [])
are_next texts sources place text source within is are named =
    subst (λ first. AreSources first (sources ++ source ∷ []))
    (sym (take_more texts place [] within ∙ ap (λ next. take place texts ++ next ∷ []) (text_at texts place text is)))
    (are_more (take place texts) sources text source are named)
