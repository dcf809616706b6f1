-- The octets of a text up to one of them, and its lines.
use Rattle.std.proofs.Common.{◌≡◌, ◌∙◌, ℕ, zero, suc, ◌+◌, ◌<◌, ◌≤◌, inl, inr, Bool, true, false, not, ◌&&◌, eqb, Option, None, Some, IfSome, List, [], ◌∷◌, ◌++◌, All, append-nil, append_assoc, ap, arith, drop, filter, flat_map, get_or, length, length-append, map, refl, subst, sym, take}
use Rattle.std.proofs.lemmas.Bool.{and_from, and_left, and_right, cases_Bool, cond-false, cond-true}
use Rattle.std.proofs.lemmas.List.{length-take-le, map-append}
use Rattle.std.proofs.Math.Seq.{take-append_seam}
use Rattle.std.proofs.lemmas.List.Elements.{All-filter, All-head, All-push, All-tail}
use Rattle.std.proofs.lemmas.List.Folds.{list_all-append}
use Rattle.std.specs.Io.BufRead.{DropsThrough, drop_through, take_through}
use Rattle.std.specs.Io.KnownBytes.{IsAtEnd}
use Rattle.std.specs.List.{list_all, starts_with}
use Rattle.xp_cdr.specs.Details.{header_text}
use Rattle.memchr.specs.Find.{IsFirstByte, is_byte}
use Rattle.xp_live.specs.LeftCalls.{call_name, in_front, is_partial_line, joined, left_behind, lines_of, live_lines, partial_lines, without_record, without_records}
use Rattle.xp_live.specs.declared.left_calls.LiveLine.{LiveLine}
use Rattle.xp_live.specs.steps.LeftCalls.{AreRead, AreSeen, text_in}

-- through an octet

found_by : (octet : ℕ) (text : List ℕ) (place : ℕ) → place < length text → ((k : ℕ) → k < place → eqb (get_or text k 0) octet ≡ false) → eqb (get_or text place 0) octet ≡ true
    → take (suc place) text ≡ take_through octet text
found_by octet [] place within before here = absurd (omega (arith, within))
found_by octet (x ∷ xs) zero within before here = sym (cond-true (eqb x octet) (x ∷ []) (x ∷ take_through octet xs) here)
found_by octet (x ∷ xs) (suc place) within before here =
    ap (λ rest. x ∷ rest) (found_by octet xs place (omega (arith, within)) (λ k below. before (suc k) (omega (arith, below))) here)
    ∙ sym (cond-false (eqb x octet) (x ∷ []) (x ∷ take_through octet xs) (before 0 (omega arith)))

none_by : (octet : ℕ) (text : List ℕ) → ((k : ℕ) → k < length text → eqb (get_or text k 0) octet ≡ false) → text ≡ take_through octet text
none_by octet [] none = refl
none_by octet (x ∷ xs) none =
    ap (λ rest. x ∷ rest) (none_by octet xs (λ k below. none (suc k) (omega (arith, below))))
    ∙ sym (cond-false (eqb x octet) (x ∷ []) (x ∷ take_through octet xs) (none 0 (omega arith)))

false_of : (b : Bool) → (b ≡ true → ⊥) → b ≡ false
false_of true not_true = absurd (not_true refl)
false_of false not_true = refl

next : (place : ℕ) → suc place ≡ place + 1
next place = omega arith

pub through_found : (octet : ℕ) (text : List ℕ) (place : ℕ) → IsFirstByte (is_byte octet) text (Some place) → take (place + 1) text ≡ take_through octet text
through_found octet text place is =
    sym (ap (λ count. take count text) (next place)) ∙ found_by octet text place is.0.high (λ k below. false_of _ (is.0.before k (omega arith) below)) is.1

pub through_none : (octet : ℕ) (text : List ℕ) → IsFirstByte (is_byte octet) text None → text ≡ take_through octet text
through_none octet text is = none_by octet text (λ k below. false_of _ (is k (omega arith) below))

-- what is taken and what is left make up the text
pub both_through : (octet : ℕ) (text : List ℕ) → take_through octet text ++ drop (length (take_through octet text)) text ≡ text
both_through octet [] = refl
both_through octet (x ∷ xs) = elim (cases_Bool (eqb x octet)) [
  | inl is ↦ ap (λ front. front ++ drop (length front) (x ∷ xs)) (cond-true (eqb x octet) (x ∷ []) (x ∷ take_through octet xs) is)
  | inr is ↦
      ap (λ front. front ++ drop (length front) (x ∷ xs)) (cond-false (eqb x octet) (x ∷ []) (x ∷ take_through octet xs) is)
      ∙ ap (λ rest. x ∷ rest) (both_through octet xs)
]

-- what is left behind what was taken
pub drops_is : (octet : ℕ) (text : List ℕ) → drop (length (take_through octet text)) text ≡ drop_through octet text
drops_is octet [] = refl
drops_is octet (x ∷ xs) = elim (cases_Bool (eqb x octet)) [
  | inl is ↦
      ap (λ front. drop (length front) (x ∷ xs)) (cond-true (eqb x octet) (x ∷ []) (x ∷ take_through octet xs) is)
      ∙ sym (cond-true (eqb x octet) xs (drop_through octet xs) is)
  | inr is ↦
      ap (λ front. drop (length front) (x ∷ xs)) (cond-false (eqb x octet) (x ∷ []) (x ∷ take_through octet xs) is)
      ∙ drops_is octet xs
      ∙ sym (cond-false (eqb x octet) xs (drop_through octet xs) is)
]

pub both_parts : (octet : ℕ) (text : List ℕ) → take_through octet text ++ drop_through octet text ≡ text
both_parts octet text = ap (λ behind. take_through octet text ++ behind) (sym (drops_is octet text)) ∙ both_through octet text

-- the front of a text by its length
pub front_is : (octet : ℕ) (text : List ℕ) → take (length (take_through octet text)) text ≡ take_through octet text
front_is octet text =
    ap (take (length (take_through octet text))) (sym (both_parts octet text)) ∙ take-append_seam (take_through octet text) (drop_through octet text)

pub end_within : (octet : ℕ) (text : List ℕ) → length (take_through octet text) ≤ length text
end_within octet text = omega (arith, ap length (both_parts octet text), length-append (take_through octet text) (drop_through octet text))

pub end_found : (octet : ℕ) (text : List ℕ) (place : ℕ) → IsFirstByte (is_byte octet) text (Some place) → place + 1 ≡ length (take_through octet text)
end_found octet text place is =
    let within : place < length text = is.0.high in
    sym (length-take-le (place + 1) text (omega (arith, within))) ∙ ap length (through_found octet text place is)

-- lines

abbrev Split : List ℕ → Type 0
Split text = lines_of text ≡ take_through 10 text ∷ lines_of (drop_through 10 text)

parts_if : (x : ℕ) (xs : List ℕ) → eqb x 10 ≡ true → take_through 10 (x ∷ xs) ∷ lines_of (drop_through 10 (x ∷ xs)) ≡ (x ∷ []) ∷ lines_of xs
parts_if x xs is =
    ap (λ front. front ∷ lines_of (drop_through 10 (x ∷ xs))) (cond-true (eqb x 10) (x ∷ []) (x ∷ take_through 10 xs) is)
    ∙ ap (λ behind. (x ∷ []) ∷ lines_of behind) (cond-true (eqb x 10) xs (drop_through 10 xs) is)

parts_else : (x : ℕ) (xs : List ℕ) → eqb x 10 ≡ false → take_through 10 (x ∷ xs) ∷ lines_of (drop_through 10 (x ∷ xs)) ≡ (x ∷ take_through 10 xs) ∷ lines_of (drop_through 10 xs)
parts_else x xs is =
    ap (λ front. front ∷ lines_of (drop_through 10 (x ∷ xs))) (cond-false (eqb x 10) (x ∷ []) (x ∷ take_through 10 xs) is)
    ∙ ap (λ behind. (x ∷ take_through 10 xs) ∷ lines_of behind) (cond-false (eqb x 10) xs (drop_through 10 xs) is)

feeds : (x : ℕ) (xs : List ℕ) → eqb x 10 ≡ true → Split (x ∷ xs)
feeds x xs is = cond-true (eqb x 10) ((x ∷ []) ∷ lines_of xs) (in_front x (lines_of xs)) is ∙ sym (parts_if x xs is)

goes_on : (x y : ℕ) (ys : List ℕ) → eqb x 10 ≡ false → Split (y ∷ ys) → Split (x ∷ y ∷ ys)
goes_on x y ys is rest =
    cond-false (eqb x 10) ((x ∷ []) ∷ lines_of (y ∷ ys)) (in_front x (lines_of (y ∷ ys))) is
    ∙ ap (in_front x) rest
    ∙ sym (parts_else x (y ∷ ys) is)

ends : (x : ℕ) → eqb x 10 ≡ false → Split (x ∷ [])
ends x is = cond-false (eqb x 10) ((x ∷ []) ∷ []) (in_front x []) is ∙ sym (parts_else x [] is)

-- the first line of a text, and those behind it
pub first_line : (x : ℕ) (xs : List ℕ) → Split (x ∷ xs)
first_line x [] = elim (cases_Bool (eqb x 10)) [ inl is ↦ feeds x [] is | inr is ↦ ends x is ]
first_line x (y ∷ ys) = elim (cases_Bool (eqb x 10)) [ inl is ↦ feeds x (y ∷ ys) is | inr is ↦ goes_on x y ys is (first_line y ys) ]

pub split_line : (text : List ℕ) → 0 < length text → Split text
split_line [] some = absurd (omega (arith, some))
split_line (x ∷ xs) some = first_line x xs

-- a line takes at least one octet
pub takes_some : (text : List ℕ) → 0 < length text → 0 < length (take_through 10 text)
takes_some [] some = absurd (omega (arith, some))
takes_some (x ∷ xs) some = elim (cases_Bool (eqb x 10)) [
  | inl is ↦ subst (λ front. 0 < length front) (sym (cond-true (eqb x 10) (x ∷ []) (x ∷ take_through 10 xs) is)) (omega arith)
  | inr is ↦ subst (λ front. 0 < length front) (sym (cond-false (eqb x 10) (x ∷ []) (x ∷ take_through 10 xs) is)) (omega arith)
]

-- one of the lines is none of a live file
pub not_read : (text rest : List ℕ) (lines : List LiveLine) → AreRead text rest lines → 0 < length rest → is_partial_line (take_through 10 rest) ≡ false
    → None ≡ partial_lines text
not_read text rest lines so_far some wrong =
    let behind = drop_through 10 rest in
    let whole : lines_of text ≡ map text_in lines ++ take_through 10 rest ∷ lines_of behind =
    so_far.whole ∙ ap (λ more. map text_in lines ++ more) (split_line rest some) in
    let fails : list_all is_partial_line (lines_of text) ≡ false =
    ap (list_all is_partial_line) whole ∙ list_all-append is_partial_line (map text_in lines) (take_through 10 rest ∷ lines_of behind)
    ∙ and_right _ _ (and_left _ _ wrong) in
    sym (cond-false (list_all is_partial_line (lines_of text)) (Some (lines_of text)) None fails)

-- all lines were read
pub all_read : (text : List ℕ) (lines : List LiveLine) → AreRead text [] lines → Some (map text_in lines) ≡ partial_lines text
all_read text lines so_far =
    let whole : lines_of text ≡ map text_in lines = so_far.whole ∙ append-nil (map text_in lines) in
    let holds : list_all is_partial_line (lines_of text) ≡ true = ap (list_all is_partial_line) whole ∙ so_far.partial in
    sym (cond-true (list_all is_partial_line (lines_of text)) (Some (lines_of text)) None holds ∙ ap Some whole)

-- records

filter_texts : (row : List ℕ) (lines : List LiveLine) → All (λ line. line.name.items ≡ call_name line.text.items) lines
    → map text_in (filter (λ line. not (starts_with eqb row line.name.items)) lines) ≡ without_record row (map text_in lines)
filter_texts row [] named = refl
filter_texts row (line ∷ lines) named =
    let test : List ℕ → Bool = λ name. not (starts_with eqb row name) in
    let Named : LiveLine → Type 0 = λ line. line.name.items ≡ call_name line.text.items in
    let here : line.name.items ≡ call_name line.text.items = All-head Named line lines named in
    let rest = filter_texts row lines (All-tail Named line lines named) in
    elim (cases_Bool (test line.name.items)) [
      | inl kept ↦
          ap (map text_in) (cond-true (test line.name.items) (line ∷ filter (λ line. test line.name.items) lines) (filter (λ line. test line.name.items) lines) kept)
          ∙ ap (λ others. text_in line ∷ others) rest
          ∙ sym (cond-true (test (call_name line.text.items)) _ _ (ap test (sym here) ∙ kept))
      | inr gone ↦
          ap (map text_in) (cond-false (test line.name.items) (line ∷ filter (λ line. test line.name.items) lines) (filter (λ line. test line.name.items) lines) gone)
          ∙ rest
          ∙ sym (cond-false (test (call_name line.text.items)) _ _ (ap test (sym here) ∙ gone))
    ]

pub seen_record : (row : List ℕ) (lines left : List LiveLine) → All (λ line. line.name.items ≡ call_name line.text.items) lines
    → left ≡ filter (λ line. not (starts_with eqb row line.name.items)) lines
    → map text_in left ≡ without_record row (map text_in lines)
seen_record row lines left named is = ap (map text_in) is ∙ filter_texts row lines named

pub still_named : (row : List ℕ) (lines left : List LiveLine) → All (λ line. line.name.items ≡ call_name line.text.items) lines
    → left ≡ filter (λ line. not (starts_with eqb row line.name.items)) lines → All (λ line. line.name.items ≡ call_name line.text.items) left
still_named row lines left named is = subst (All (λ line. line.name.items ≡ call_name line.text.items)) (sym is)
    (All-filter (λ line. not (starts_with eqb row line.name.items)) (λ line. line.name.items ≡ call_name line.text.items) lines named)

seen_here : (text rest row : List ℕ) (first left : List (List ℕ)) → left_behind text first ≡ left_behind rest left → row ≡ take_through 10 rest → 0 < length rest
    → left_behind text first ≡ left_behind (drop_through 10 rest) (without_record row left)
seen_here text rest row first left so_far is some =
    so_far
    ∙ ap (λ lines. without_records lines left) (split_line rest some)
    ∙ ap (λ one. left_behind (drop_through 10 rest) (without_record one left)) (sym is)

some_there : (rest row : List ℕ) → row ≡ take_through 10 rest → 0 < length row → 0 < length rest
some_there [] row is some = absurd (omega (arith, some, ap length is))
some_there (x ∷ xs) row is some = omega arith

-- one row more
pub seen_one : (old now next : Option (List ℕ)) (first left : List (List ℕ)) (row : List ℕ) → AreSeen old now first left → IfSome now (λ rest. row ≡ take_through 10 rest)
    → DropsThrough now next 10 → 0 < length row → AreSeen old next first (without_record row left)
seen_one None now next first left row so_far is drops some = tt
seen_one (Some text) None next first left row so_far is drops some = absurd so_far
seen_one (Some text) (Some rest) next first left row so_far is drops some =
    subst (λ known. AreSeen (Some text) known first (without_record row left)) (sym drops)
    (seen_here text rest row first left so_far is (some_there rest row is some))

pub none_seen : (old : Option (List ℕ)) (first : List (List ℕ)) → AreSeen old old first first
none_seen None first = tt
none_seen (Some text) first = refl

-- all records
pub seen_all : (old now : Option (List ℕ)) (first left : List (List ℕ)) → AreSeen old now first left → IsAtEnd now → IfSome old (λ text. left ≡ left_behind text first)
seen_all None now first left so_far at_end = tt
seen_all (Some text) None first left so_far at_end = absurd so_far
seen_all (Some text) (Some rest) first left so_far at_end = sym (so_far ∙ ap (λ behind. left_behind behind left) at_end)

-- a line more was read
pub one_read : (text rest : List ℕ) (lines : List LiveLine) (line : LiveLine) → AreRead text rest lines → 0 < length rest → text_in line ≡ take_through 10 rest
    → is_partial_line (take_through 10 rest) ≡ true → line.name.items ≡ call_name (take_through 10 rest) → AreRead text (drop_through 10 rest) (lines ++ line ∷ [])
one_read text rest lines line so_far some text_is holds name_is =
    let texts : map text_in (lines ++ line ∷ []) ≡ map text_in lines ++ take_through 10 rest ∷ [] =
    map-append text_in lines (line ∷ []) ∙ ap (λ one. map text_in lines ++ one ∷ []) text_is in
    record {
      whole =
          so_far.whole
          ∙ ap (λ more. map text_in lines ++ more) (split_line rest some)
          ∙ sym (append_assoc (map text_in lines) (take_through 10 rest ∷ []) (lines_of (drop_through 10 rest)))
          ∙ ap (λ all. all ++ lines_of (drop_through 10 rest)) (sym texts);
      partial =
          ap (list_all is_partial_line) texts
          ∙ list_all-append is_partial_line (map text_in lines) (take_through 10 rest ∷ [])
          ∙ and_from (list_all is_partial_line (map text_in lines)) (is_partial_line (take_through 10 rest) && true) so_far.partial
          (and_from (is_partial_line (take_through 10 rest)) true holds refl);
      named = All-push (λ line. line.name.items ≡ call_name line.text.items) lines line so_far.named (name_is ∙ ap call_name (sym text_is));
    }

-- a line is shorter than what it is the front of
pub shorter : (rest front behind : List ℕ) → 0 < length rest → front ≡ take_through 10 rest → front ++ behind ≡ rest → length behind < length rest
shorter rest front behind some is whole =
    let takes : 0 < length front = subst (λ line. 0 < length line) (sym is) (takes_some rest some) in
    omega (arith, takes, ap length whole, length-append front behind)

-- the lines behind the names of the fields
pub header_read : (text header : List ℕ) (answer : Bool) → header ≡ header_text → answer ≡ starts_with eqb text header → answer ≡ true
    → partial_lines (drop (length header) text) ≡ live_lines text
header_read text header answer is says holds =
    ap (λ front. partial_lines (drop (length front) text)) is
    ∙ sym (cond-true (starts_with eqb text header_text) (partial_lines (drop (length header_text) text)) None
    (ap (starts_with eqb text) (sym is) ∙ sym says ∙ holds))

pub joined_texts : (lines : List LiveLine) → flat_map text_in lines ≡ joined (map text_in lines)
joined_texts [] = refl
joined_texts (line ∷ lines) = ap (λ rest. text_in line ++ rest) (joined_texts lines)
