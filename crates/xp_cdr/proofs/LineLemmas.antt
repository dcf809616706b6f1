-- The last of several lines, which is found by its octets.
use Rattle.std.proofs.Common.{◌≡◌, ◌≢◌, ℕ, ◌+◌, ◌-◌, ◌<◌, List, [], ◌∷◌, ◌++◌, All, append_assoc, ap, arith, drop, get_or, length, length-append, subst, sym, take, ◌∙◌}
use Rattle.std.proofs.lemmas.Bool.Decides.{Decides-eqb}
use Rattle.std.proofs.lemmas.List.{drop_more, get_or-drop, length-drop, take-append-drop}
use Rattle.std.proofs.lemmas.List.Elements.{All-from_get_or}
use Rattle.std.proofs.Math.Seq.{take-append_seam}
use Rattle.std.specs.Io.{StopsAt}
use Rattle.memchr.specs.Find.{NoneAfter, Nowhere, Passes, is_byte}
use Rattle.xp_cdr.specs.steps.LastLine.{LastBegins}

-- the octets from a place on where this one is
from_place : (octets : List ℕ) (place octet : ℕ) → place < length octets → Passes (is_byte octet) octets place → drop place octets ≡ octet ∷ drop (place + 1) octets
from_place octets place octet within passes =
    drop_more octets place 0 within ∙ ap (λ it. it ∷ drop (place + 1) octets) ((Decides-eqb (get_or octets place 0) octet).0 passes)

-- none of those behind a place is this one
none_behind : (octets : List ℕ) (place octet : ℕ) → Nowhere (Passes (is_byte octet) octets) place (length octets) → All (λ it. it ≢ octet) (drop place octets)
none_behind octets place octet nowhere =
    All-from_get_or (λ it. it ≢ octet) (drop place octets) 0
    (λ i within same. nowhere (place + i) (omega arith) (omega (arith, within, length-drop place octets))
    ((Decides-eqb (get_or octets (place + i) 0) octet).1 (sym (get_or-drop place octets i 0) ∙ same)))

-- one more octet behind octets among which this one is not
stops : (octets : List ℕ) (end octet : ℕ) → All (λ it. it ≢ octet) octets → StopsAt (octets ++ end ∷ []) octet
stops octets end octet none =
    let size : length (octets ++ end ∷ []) - 1 ≡ length octets = omega (arith, length-append octets (end ∷ [])) in
    subst (All (λ it. it ≢ octet)) (sym (ap (λ n. take n (octets ++ end ∷ [])) size ∙ take-append_seam octets (end ∷ []))) none

-- the text between the last line feed but that of the end, and the first comma behind it
pub last_begins : (lines front : List ℕ) (end place size : ℕ) → lines ≡ front ++ end ∷ [] → NoneAfter (Passes (is_byte 10) front) 0 (length front) place → Passes (is_byte 10) front place
    → size < length (drop (place + 1) front) → Passes (is_byte 44) (drop (place + 1) front) size → LastBegins lines (take size (drop (place + 1) front))
last_begins lines front end place size are none feed within comma =
    let line = drop (place + 1) front in
    let rest = drop (size + 1) line in
    let whole : take size line ++ 44 ∷ rest ≡ line =
    ap (λ behind. take size line ++ behind) (sym (from_place line size 44 within comma)) ∙ take-append-drop size line in
    let ended : take size line ++ 44 ∷ (rest ++ end ∷ []) ≡ line ++ end ∷ [] =
    sym (append_assoc (take size line) (44 ∷ rest) (end ∷ [])) ∙ ap (λ octets. octets ++ end ∷ []) whole in
    let split : front ≡ take place front ++ 10 ∷ line =
    sym (take-append-drop place front) ∙ ap (λ behind. take place front ++ behind) (from_place front place 10 none.high feed) in
    record {
      before = take place front;
      rest = rest ++ end ∷ [];
      lines_are =
          are
          ∙ ap (λ octets. octets ++ end ∷ []) split
          ∙ append_assoc (take place front) (10 ∷ line) (end ∷ [])
          ∙ ap (λ behind. take place front ++ 10 ∷ behind) (sym ended);
      is_last = subst (λ octets. StopsAt octets 10) (sym ended) (stops line end 10 (none_behind front (place + 1) 10 none.after));
    }
