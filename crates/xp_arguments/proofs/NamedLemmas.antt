-- Files of subscriptions that arguments name.
use Rattle.std.proofs.Common.{◌≡◌, ◌∙◌, ◌<◌, ◌+◌, ℕ, zero, suc, List, [], ◌∷◌, ◌++◌, Bool, true, false, Option, Some, None, Result, IfNone, IfOk, IfSome, Bor, codes, map, take, length, get_or, refl, sym, ap, subst, arith}
use Rattle.std.proofs.lemmas.List.{map-append, map_more}
use Rattle.std.specs.List.{list_any}
use Rattle.std.specs.Prelude.{unwrap_or}
use Rattle.clap.specs.Words.{Row, Text, all_of}
use Rattle.xp_arguments.specs.Commands.{HasTables, table_texts}
use Rattle.xp_arguments.specs.NamedPaths.{AreNamed, AreTables, has_each_name_once, named_path, parts_of, same_name}
use Rattle.xp_arguments.specs.declared.replay_order.NamedPath.{NamedPath}
use Rattle.xp_subs.specs.Passes.{all_differ}
use Rattle.xp_subs.specs.Tables.{same}

-- one more text, and its file
pub one_more : (texts : List (Bor Text)) (tables : List NamedPath) (named : NamedPath) (i : ℕ) (d : Bor Text) → i < length texts
    → AreNamed (map (λ text. text.now) (take i texts)) tables → Some (parts_of named) ≡ named_path (get_or texts i d).now
    → AreNamed (map (λ text. text.now) (take (i + 1) texts)) (tables ++ named ∷ [])
one_more texts tables named i d within are is =
    map-append (λ named. Some (parts_of named)) tables (named ∷ [])
    ∙ ap (λ front. front ++ Some (parts_of named) ∷ []) are
    ∙ ap (λ last. map named_path (map (λ text. text.now) (take i texts)) ++ last ∷ []) is
    ∙ sym (map-append named_path (map (λ text. text.now) (take i texts)) ((get_or texts i d).now ∷ []))
    ∙ ap (map named_path) (sym (map_more (λ text. text.now) texts i d within))

-- a text that names no file
pub no_name : (texts : List (Bor Text)) (i : ℕ) (d : Bor Text) (tables : List NamedPath) → i < length texts → None ≡ named_path (get_or texts i d).now
    → AreNamed (map (λ text. text.now) texts) tables → ⊥
no_name [] i d tables within none are = absurd (omega arith)
no_name (text ∷ texts) i d [] within none are = cc
no_name (text ∷ texts) zero d (named ∷ tables) within none are = cc
no_name (text ∷ texts) (suc i) d (named ∷ tables) within none are = no_name texts i d tables (omega arith) none (cc)

-- the name of the file of which these are the parts
abbrev name_in : Option (Text × Text) → Text
name_in None = []
name_in (Some parts) = parts.0

abbrev same_front : Option (Text × Text) → Option (Text × Text) → Bool
same_front one other = same (name_in one) (name_in other)

abbrev shown : NamedPath → Option (Text × Text)
shown named = Some (parts_of named)

any_shown : (one : NamedPath) (tables : List NamedPath) → list_any (λ other. same_name other one) tables ≡ list_any (λ other. same_front other (shown one)) (map shown tables)
any_shown one [] = refl
any_shown one (other ∷ tables) = rw (any_shown one tables) refl

-- whether no two have the same name is known from the texts
once_shown : (tables : List NamedPath) → has_each_name_once tables ≡ all_differ same_front (map shown tables)
once_shown [] = refl
once_shown (one ∷ tables) = rw (any_shown one tables, once_shown tables) refl

pub once_alike : (texts : List Text) (one other : List NamedPath) → AreNamed texts one → AreNamed texts other → has_each_name_once one ≡ has_each_name_once other
once_alike texts one other are too = once_shown one ∙ ap (all_differ same_front) (are ∙ sym too) ∙ sym (once_shown other)

-- files of which two have the same name
pub not_once : (texts : List Text) (one : List NamedPath) → AreNamed texts one → has_each_name_once one ≡ false
    → (tables : List NamedPath) → AreTables texts tables → ⊥
not_once texts one are twice tables is =
    let differ : false ≡ true = sym twice ∙ once_alike texts one tables are is.named ∙ is.once in
    cc

-- the files that the arguments name
module _ {V E : Type 0} (rows : List Row) (texts : List Text) (texts_are : texts ≡ table_texts rows) (result : Result (Option V) E) where
  pub has_tables : (shown : V → List NamedPath) → IfOk result (λ found. IfSome found (λ v. AreTables texts (shown v))) → IfOk result (λ found. IfSome found (λ v. HasTables rows (shown v)))
  has_tables shown are = subst (λ texts. IfOk result (λ found. IfSome found (λ v. AreTables texts (shown v)))) texts_are are

  pub has_no_tables : IfOk result (λ found. IfNone found ((tables : List NamedPath) → AreTables texts tables → ⊥))
      → IfOk result (λ found. IfNone found ((tables : List NamedPath) → HasTables rows tables → ⊥))
  has_no_tables none = subst (λ texts. IfOk result (λ found. IfNone found ((tables : List NamedPath) → AreTables texts tables → ⊥))) texts_are none

-- the texts that were found, and that there are none
pub texts_found : (rows : List Row) (texts : List Text) (found : Option (List Text)) → Some texts ≡ found → found ≡ all_of (codes "tables") rows → texts ≡ table_texts rows
texts_found rows texts found some is = ap (λ found. unwrap_or found []) (some ∙ is)

pub no_tables : (rows : List Row) (found : Option (List Text)) → None ≡ found → found ≡ all_of (codes "tables") rows → HasTables rows []
no_tables rows found none is =
    let texts : [] ≡ table_texts rows = ap (λ found. unwrap_or found []) (none ∙ is) in
    record { named = ap (map named_path) texts; once = refl }
