-- A text of names as it is read.
use Rattle.std.proofs.Common.{◌≡◌, ◌++◌, ◌∷◌, [], List, ℕ, Some, refl, ap, sym, subst, ◌∙◌, append_assoc, append-nil}
use Rattle.std.specs.List.{AllByRecursion}
use Rattle.xp_subs.specs.Tables.{Tables, line_named_of}
use Rattle.xp_trace.specs.Names.{AreLines, AreNames, HasNoComma, IsFaultOf, comma, with_commas}
use Rattle.xp_trace.specs.declared.names.NamesFault.{NamesFault}
use Rattle.xp_trace.specs.declared.names.NamesFault.TheVariants.{Memory, Unknown}
use Rattle.xp_trace.specs.steps.Naming.{IsNoLine}

-- the lines of the names in front of the rest are known
pub record IsReadTo (tables : Tables) (text rest lines : List ℕ) : Type 0 where
  pub names : List (List ℕ)
  pub joined : text ++ comma ∷ [] ≡ with_commas names ++ (rest ++ comma ∷ [])
  pub each : AllByRecursion HasNoComma names
  pub known : AreLines tables names lines

commas_more : (names : List (List ℕ)) (name : List ℕ) → with_commas (names ++ name ∷ []) ≡ with_commas names ++ (name ++ comma ∷ [])
commas_more [] name = append-nil (name ++ comma ∷ [])
commas_more (first ∷ names) name =
    ap (λ l. (first ++ comma ∷ []) ++ l) (commas_more names name) ∙ sym (append_assoc (first ++ comma ∷ []) (with_commas names) (name ++ comma ∷ []))

each_more : (names : List (List ℕ)) (name : List ℕ) → AllByRecursion HasNoComma names → HasNoComma name → AllByRecursion HasNoComma (names ++ name ∷ [])
each_more [] name each one = (one, each)
each_more (first ∷ names) name each one = (each.0, each_more names name each.1 one)

module _ (tables : Tables) where
  lines_more : (names : List (List ℕ)) (lines : List ℕ) (name : List ℕ) (line : ℕ) → AreLines tables names lines → line_named_of tables name ≡ Some line → AreLines tables (names ++ name ∷ []) (lines ++ line ∷ [])
  lines_more [] [] name line known is = (is, tt)
  lines_more [] (other ∷ lines) name line known is = absurd known
  lines_more (first ∷ names) [] name line known is = absurd known
  lines_more (first ∷ names) (other ∷ lines) name line known is = (known.0, lines_more names lines name line known.1 is)

  pub read_none : (text : List ℕ) → IsReadTo tables text text []
  read_none text = record { names = []; joined = refl; each = tt; known = tt }

  -- the name before a comma
  pub read_more : (text rest lines name behind : List ℕ) (line : ℕ) → IsReadTo tables text rest lines → (rest ≡ name ++ comma ∷ behind) × HasNoComma name → line_named_of tables name ≡ Some line → IsReadTo tables text behind (lines ++ line ∷ [])
  read_more text rest lines name behind line read parted is = record {
    names = read.names ++ name ∷ [];
    joined =
        read.joined ∙ ap (λ l. with_commas read.names ++ (l ++ comma ∷ [])) parted.0
        ∙ ap (λ l. with_commas read.names ++ l) (append_assoc name (comma ∷ behind) (comma ∷ []) ∙ sym (append_assoc name (comma ∷ []) (behind ++ comma ∷ [])))
        ∙ sym (append_assoc (with_commas read.names) (name ++ comma ∷ []) (behind ++ comma ∷ []))
        ∙ ap (λ l. l ++ (behind ++ comma ∷ [])) (sym (commas_more read.names name));
    each = each_more read.names name read.each parted.1;
    known = lines_more read.names lines name line read.known is;
  }

  -- the last name
  pub read_last : (text rest lines : List ℕ) (line : ℕ) → IsReadTo tables text rest lines → HasNoComma rest → line_named_of tables rest ≡ Some line → (names : List (List ℕ)) × AreNames text names × AreLines tables names (lines ++ line ∷ [])
  read_last text rest lines line read one is = (
    read.names ++ rest ∷ [],
    record { joined = read.joined ∙ sym (commas_more read.names rest); each = each_more read.names rest read.each one },
    lines_more read.names lines rest line read.known is,
  )

  -- why the line of a name before a comma is not known
  pub fault_before : (text rest lines name behind : List ℕ) (fault : NamesFault) → IsReadTo tables text rest lines → (rest ≡ name ++ comma ∷ behind) × HasNoComma name → IsNoLine tables name fault → IsFaultOf tables text fault
  fault_before text rest lines name behind Memory read parted none = tt
  fault_before text rest lines name behind (Unknown unknown) read parted none = record {
    before = read.names;
    lines = lines;
    rest = behind ++ comma ∷ [];
    joined =
        read.joined ∙ ap (λ l. with_commas read.names ++ (l ++ comma ∷ [])) parted.0
        ∙ ap (λ l. with_commas read.names ++ l) (append_assoc name (comma ∷ behind) (comma ∷ []))
        ∙ ap (λ l. with_commas read.names ++ (l ++ comma ∷ (behind ++ comma ∷ []))) (sym none.0);
    each = read.each;
    known = read.known;
    one = subst HasNoComma (sym none.0) parted.1;
    unknown = ap (line_named_of tables) none.0 ∙ none.1;
  }

  -- why that of the last name is not known
  pub fault_last : (text rest lines : List ℕ) (fault : NamesFault) → IsReadTo tables text rest lines → HasNoComma rest → IsNoLine tables rest fault → IsFaultOf tables text fault
  fault_last text rest lines Memory read one none = tt
  fault_last text rest lines (Unknown unknown) read one none = record {
    before = read.names;
    lines = lines;
    rest = [];
    joined = read.joined ∙ ap (λ l. with_commas read.names ++ (l ++ comma ∷ [])) (sym none.0);
    each = read.each;
    known = read.known;
    one = subst HasNoComma (sym none.0) one;
    unknown = ap (line_named_of tables) none.0 ∙ none.1;
  }
