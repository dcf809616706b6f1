-- The names of a text as they are read.
use Rattle.std.proofs.Common.{◌≡◌, ◌∙◌, ◌<◌, ◌==◌, ◌++◌, ◌∷◌, ℕ, List, false, Bor, Result, Ok, Err, IfOk, ap, drop, get_or, length, map, subst, suc, sym, take, vec_items}
use Rattle.std.specs.List.{slice_split}
use Rattle.std.specs.Str.{trim}
use Rattle.std.specs.declared.vec.Vec.{Vec}
use Rattle.std.proofs.Math.Seq.{drop-cons}
use Rattle.std.proofs.lemmas.List.{map-append, take-append-drop}
use Rattle.std.proofs.lemmas.Simd.{map-map}
use Rattle.xp_explain.specs.Names.{AreLines, IsFaultOf, names_in}
use Rattle.xp_explain.specs.steps.Names.{IsNoLine}
use Rattle.xp_explain.specs.declared.names.NamesFault.{NamesFault}
use Rattle.xp_explain.specs.declared.names.NamesFault.TheVariants.{Memory, Unknown}
use Rattle.xp_subs.specs.Tables.{Tables, line_named_of}

-- a text between commas, without the white space around it
abbrev name_of : Bor (List ℕ) → List ℕ
name_of part = trim part.now

-- the texts between the commas, where there is more than white space
pub names_read : {Z E : Type 0} (text : List ℕ) (read : Result (Vec (Bor (List ℕ)) Z) E) → (length (trim text) == 0) ≡ false
    → IfOk read (λ parts. map (λ part. part.now) (vec_items parts) ≡ slice_split (λ octet. octet == 44) text)
    → IfOk read (λ parts. map name_of (vec_items parts) ≡ names_in text)
names_read text (Ok parts) some split = rw some (sym (map-map trim (λ (part : Bor (List ℕ)). part.now) (vec_items parts)) ∙ ap (map trim) split)
names_read text (Err error) some split = tt

-- why the lines of the names are not known, at the first that no line has
first_fault : (tables : Tables) (front : List (List ℕ)) (name : List ℕ) (behind : List (List ℕ)) (lines : List ℕ) (fault : NamesFault)
    → AreLines tables front lines → IsNoLine tables name fault → IsFaultOf tables (front ++ name ∷ behind) fault
first_fault tables front name behind lines Memory known none = tt
first_fault tables front name behind lines (Unknown told) known none = record {
  before = front;
  behind = behind;
  lines = lines;
  placed = ap (λ n. front ++ n ∷ behind) (sym none.0);
  known = known;
  unknown = ap (line_named_of tables) none.0 ∙ none.1;
}

-- the same, where the first that no line has is at this place
pub fault_at : (tables : Tables) (parts : List (Bor (List ℕ))) (place : ℕ) (no_part : Bor (List ℕ)) (name : List ℕ) (lines : List ℕ) (fault : NamesFault)
    → place < length parts → AreLines tables (map name_of (take place parts)) lines → name ≡ name_of (get_or parts place no_part) → IsNoLine tables name fault
    → IsFaultOf tables (map name_of parts) fault
fault_at tables parts place no_part name lines fault within known is none =
    let front = take place parts in
    let part = get_or parts place no_part in
    let behind = drop (suc place) parts in
    let whole : parts ≡ front ++ part ∷ behind = sym (take-append-drop place parts) ∙ ap (λ rest. front ++ rest) (drop-cons parts place no_part within) in
    let names : map name_of parts ≡ map name_of front ++ name_of part ∷ map name_of behind = ap (map name_of) whole ∙ map-append name_of front (part ∷ behind) in
    subst (λ all. IsFaultOf tables all fault) (sym names)
    (first_fault tables (map name_of front) (name_of part) (map name_of behind) lines fault known (subst (λ n. IsNoLine tables n fault) is none))
