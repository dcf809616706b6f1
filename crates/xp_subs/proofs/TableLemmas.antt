-- Facts on the subscription tables.
use Rattle.std.proofs.Common.{◌≡◌, ℕ, ◌<◌, List, Bool, true, false, not, cond, Option, None, Some, IfSome, IsTrue, length, get_or, refl, sym, ap}
use Rattle.std.specs.Prelude.{position}
use Rattle.std.specs.Cmp.Lexicographic.{bytes_decides}
use Rattle.std.proofs.lemmas.Bool.{and_parts}
use Rattle.std.proofs.lemmas.List.Quantifiers.{position-Some}
use Rattle.xp_subs.specs.declared.line.Line.{Line}
use Rattle.xp_file.specs.Name.{is_line_name}
use Rattle.xp_subs.specs.Tables.{Tables, IsThere, has_name, holds, is_spare, line_at, line_named_of, no_line, same}

-- what holds of each value that there may be
pub IfSome-each : {X : Type 0} (P : X → Type 0) (found : Option X) → ((x : X) → found ≡ Some x → P x) → IfSome found P
IfSome-each P None each = tt
IfSome-each P (Some x) each = each x refl

-- where two texts pass as the same they are
pub same_is : (a b : List ℕ) → same a b ≡ true → a ≡ b
same_is a b passed = (bytes_decides a b).0 passed

-- a text passes as the same as itself
pub same-itself : (a : List ℕ) → same a a ≡ true
same-itself a = (bytes_decides a a).1 refl

-- a test that was chosen against failed
pub refused : {X : Type 0} (test : Bool) (x : X) → None ≡ cond test (Some x) None → test ≡ false
refused true x e = cc
refused false x e = refl

-- the address that a line holds
pub held_is : (a : List ℕ) (own : Option (List ℕ)) → holds a own ≡ true → own ≡ Some a
held_is a None e = cc
held_is a (Some x) e = ap (λ y. Some y) (sym (same_is a x e))

-- the line with a name is there, and has the name
pub named_is : (name : List ℕ) (line : Line) → has_name name line ≡ true → (is_spare line ≡ false) × (name ≡ line.name)
named_is name line passes =
    let (there, named) = and_parts (not (is_spare line)) (same name line.name) passes in
    (not_true (is_spare line) there, same_is name line.name named)
  where
    not_true : (b : Bool) → not b ≡ true → b ≡ false
    not_true true e = cc
    not_true false e = refl

not_found : (lines : List Line) (name : List ℕ) (found : Option ℕ) → position (has_name name) lines ≡ found
    → ((line : ℕ) → (line < length lines) × (is_spare (get_or lines line no_line) ≡ false) → IsTrue (is_line_name (get_or lines line no_line).name))
    → is_line_name name ≡ false → found ≡ None
not_found lines name None is spelled bad = refl
not_found lines name (Some i) is spelled bad =
    let (within, here, _) = position-Some (has_name name) lines i no_line is in
    let (there, this) = named_is name (get_or lines i no_line) here in
    let form : is_line_name name ≡ true = rw this (spelled i (within, there)) in
    cc

-- no line has a name that no line may have
pub line_named_of-unspelled : (tables : Tables) (name : List ℕ)
    → ((line : ℕ) → IsThere tables line → IsTrue (is_line_name (line_at tables line).name))
    → is_line_name name ≡ false → line_named_of tables name ≡ None
line_named_of-unspelled tables name spelled bad = not_found tables.lines name _ refl spelled bad
