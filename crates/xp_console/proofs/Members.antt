-- The members of a status, written one by one, are those of its text.
use Rattle.std.proofs.Common.{◌≡◌, ℕ, codes, false, List, [], ◌∷◌, ◌++◌, ap, ◌∙◌, append_assoc, OnOk, Result, Ok, Err}
use Rattle.serde_json.specs.Data.{Data, Items, array, member, no_members, object}
use Rattle.serde_json.specs.Written.{compact_text, items_text}
use Rattle.serde_json.proofs.OnLiterals.{serde_json_on_literals}

-- what begins a member, its value, and what stands behind it
then_member : (before value old new last rest : List ℕ) → new ≡ old ++ (before ++ value) → last ≡ new ++ rest → last ≡ old ++ (before ++ (value ++ rest))
then_member before value old new last rest was is =
    is ∙ ap (λ t. t ++ rest) was ∙ append_assoc old (before ++ value) rest ∙ ap (λ t. old ++ t) (append_assoc before value rest)

-- the eight members of a status, between their braces
pub status_written : {A E : Type 0} (r : Result A E) (old calls lines moment recent reloads started stations totals last : List ℕ)
    (a b d g : Items) (c e f h : Data)
    → calls ≡ old ++ (codes "{\"calls\":[" ++ items_text false a) → lines ≡ calls ++ (codes ",\"lines\":[" ++ items_text false b)
    → moment ≡ lines ++ (codes ",\"moment\":" ++ compact_text c) → recent ≡ moment ++ (codes ",\"recent\":[" ++ items_text false d)
    → reloads ≡ recent ++ (codes ",\"reloads\":" ++ compact_text e) → started ≡ reloads ++ (codes ",\"started\":" ++ compact_text f)
    → stations ≡ started ++ (codes ",\"stations\":[" ++ items_text false g) → totals ≡ stations ++ (codes ",\"totals\":" ++ compact_text h)
    → OnOk r (last ≡ totals ++ 125 ∷ [])
    → OnOk r (last ≡ old ++ compact_text (object (member (codes "calls") (array a) (member (codes "lines") (array b) (member (codes "moment") c
    (member (codes "recent") (array d) (member (codes "reloads") e (member (codes "started") f (member (codes "stations") (array g)
    (member (codes "totals") h no_members))))))))))
unfolding serde_json_on_literals
status_written (Ok done) old calls lines moment recent reloads started stations totals last a b d g c e f h ca li mo re rl st sn to end =
    let t8 = then_member (codes ",\"totals\":") (compact_text h) stations totals last _ to end in
    let t7 = then_member (codes ",\"stations\":[") (items_text false g) started stations last _ sn t8 in
    let t6 = then_member (codes ",\"started\":") (compact_text f) reloads started last _ st t7 in
    let t5 = then_member (codes ",\"reloads\":") (compact_text e) recent reloads last _ rl t6 in
    let t4 = then_member (codes ",\"recent\":[") (items_text false d) moment recent last _ re t5 in
    let t3 = then_member (codes ",\"moment\":") (compact_text c) lines moment last _ mo t4 in
    let t2 = then_member (codes ",\"lines\":[") (items_text false b) calls lines last _ li t3 in
    then_member (codes "{\"calls\":[") (items_text false a) old calls last _ ca t2
status_written (Err fault) old calls lines moment recent reloads started stations totals last a b d g c e f h ca li mo re rl st sn to end = tt
