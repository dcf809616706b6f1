-- The number of groups that is told: that of the different names which the file gives to groups.
use Rattle.std.proofs.Common.{◌≡◌, ℕ, ◌<◌, List, [], ◌∷◌, Bool, true, false, not, ◌&&◌, ◌||◌, inl, inr, All, Contains, length, map, fold, get_or, refl, sym, ap, subst, ◌∙◌, arith}
use Rattle.std.specs.Cmp.{IsEquivalence}
use Rattle.std.specs.Cmp.Lexicographic.{nat_list_eq_equiv}
use Rattle.std.specs.List.{position_or_len, list_any, IsDistinct}
use Rattle.std.specs.Prelude.{nat_eq}
use Rattle.std.specs.Set.{is_member, distinct_count}
use Rattle.std.proofs.Math.Bool.{or_assoc}
use Rattle.std.proofs.lemmas.Bool.{cases_Bool, eq-eqb, eqb-true, and_parts, or_left, or_right, or_parts}
use Rattle.std.proofs.lemmas.List.Elements.{All-head, All-tail, All-nil, All-cons}
use Rattle.std.proofs.lemmas.List.Folds.{list_any-append}
use Rattle.std.proofs.lemmas.List.Sums.{passes_at_first}
use Rattle.std.proofs.lemmas.Map.Keys.{IsDistinct-push}
use Rattle.std.proofs.lemmas.Map.Made.{length-from_keys}
use Rattle.xp_file.specs.declared.entry.GroupEntry.{GroupEntry}
use Rattle.xp_file.specs.Entries.{StationData}
use Rattle.xp_file.specs.SubscriptionFile.{FileData}
use Rattle.xp_file.specs.Name.{same}
use Rattle.xp_subs.specs.declared.station.Membership.{Membership}
use Rattle.xp_subs.specs.Built.{mention, mentions, group_names, group_number, memberships_of, station_from, tables_of, named_groups}
use Rattle.xp_subs.specs.steps.Built.{IsKnown, AreKnown}
use Rattle.xp_subs.specs.Passes.{all_differ, same_group, same_index, has_own_indexes}
use Rattle.xp_subs.specs.Sound.{HasOwnGroups}
use Rattle.xp_subs.specs.Tables.{Tables, group_count}
use Rattle.xp_subs.specs.UsedValues.{Once}
use Rattle.xp_subs.proofs.OnceLemmas.{in_none, in_front, in_rest, in_cases, once_none, once_cons, once_distinct}
use Rattle.xp_subs.proofs.TableLemmas.{same_is, same-itself}

same_laws : IsEquivalence same
same_laws = nat_list_eq_equiv

true_is_false : true ≡ false → ⊥
true_is_false e = cc

-- the names that are mentioned, each once
mention_distinct : (known : List (List ℕ)) (name : List ℕ) → IsDistinct same known → IsDistinct same (mention known name)
mention_distinct known name apart =
    elim (cases_Bool (list_any (same name) known)) [
      | inl here ↦ rw here apart
      | inr absent ↦ rw absent (IsDistinct-push same_laws known name apart absent)
    ]

fold_distinct : (names known : List (List ℕ)) → IsDistinct same known → IsDistinct same (fold mention known names)
fold_distinct [] known apart = apart
fold_distinct (name ∷ names) known apart = fold_distinct names (mention known name) (mention_distinct known name apart)

mentions_distinct : (entries : List StationData) (known : List (List ℕ)) → IsDistinct same known → IsDistinct same (mentions known entries)
mentions_distinct [] known apart = apart
mentions_distinct (entry ∷ entries) known apart =
    mentions_distinct entries (fold mention known (group_names entry.groups)) (fold_distinct (group_names entry.groups) known apart)

or_true : (a b : Bool) → (b ≡ true → a ≡ true) → a ≡ (a || b)
or_true true b more = refl
or_true false true more = more refl
or_true false false more = refl

or_none : (b : Bool) → (b || false) ≡ b
or_none true = refl
or_none false = refl

mention_member : (known : List (List ℕ)) (name q : List ℕ) → is_member same (mention known name) q ≡ (is_member same known q || same q name)
mention_member known name q =
    elim (cases_Bool (list_any (same name) known)) [
      | inl here ↦ rw here (or_true (is_member same known q) (same q name) (λ alike. rw (same_is q name alike) here))
      | inr absent ↦
          rw absent (list_any-append (same q) known (name ∷ []) ∙ ap (λ b. is_member same known q || b) (or_none (same q name)))
    ]

fold_member : (names known : List (List ℕ)) (q : List ℕ) → is_member same (fold mention known names) q ≡ (is_member same known q || is_member same names q)
fold_member [] known q = sym (or_none (is_member same known q))
fold_member (name ∷ names) known q =
    fold_member names (mention known name) q
    ∙ ap (λ b. b || is_member same names q) (mention_member known name q)
    ∙ or_assoc (is_member same known q) (same q name) (is_member same names q)

mentions_member : (entries : List StationData) (known : List (List ℕ)) (q : List ℕ)
    → is_member same (mentions known entries) q ≡ (is_member same known q || is_member same (named_groups entries) q)
mentions_member [] known q = sym (or_none (is_member same known q))
mentions_member (entry ∷ entries) known q =
    mentions_member entries (fold mention known (group_names entry.groups)) q
    ∙ ap (λ b. b || is_member same (named_groups entries) q) (fold_member (group_names entry.groups) known q)
    ∙ or_assoc (is_member same known q) (is_member same (group_names entry.groups) q) (is_member same (named_groups entries) q)
    ∙ ap (λ b. is_member same known q || b) (sym (list_any-append (same q) (group_names entry.groups) (named_groups entries)))

none_distinct : IsDistinct same []
unfolding IsDistinct
none_distinct = tt

mentions_counted : (entries : List StationData) → length (mentions [] entries) ≡ distinct_count same (named_groups entries)
mentions_counted entries =
    length-from_keys same_laws (mentions [] entries) (named_groups entries) (mentions_distinct entries [] none_distinct) (λ q. mentions_member entries [] q)

pub groups_counted : (file : FileData) → group_count (tables_of file) ≡ distinct_count same (named_groups file.stations)
unfolding tables_of
groups_counted file = mentions_counted file.stations

-- no name is mentioned twice
pub mentions_once : (entries : List StationData) → Once (mentions [] entries)
mentions_once entries = once_distinct same same-itself (mentions [] entries) (mentions_distinct entries [] none_distinct)

-- the place of a name that is there
pub place_within : {X : Type 0} (p : X → Bool) (xs : List X) → list_any p xs ≡ true → position_or_len p xs < length xs
place_within p [] held = absurd (true_is_false (sym held))
place_within p (x ∷ xs) held =
    elim (cases_Bool (p x)) [
      | inl here ↦ rw here (omega arith)
      | inr apart ↦ let more = place_within p xs (rw apart at held) in rw apart (omega arith)
    ]

module _ (known : List (List ℕ)) where
  groups_known : (groups : List GroupEntry) → ((q : List ℕ) → list_any (same q) (group_names groups) ≡ true → list_any (same q) known ≡ true)
      → All (IsKnown known) groups
  groups_known [] holds = All-nil (IsKnown known)
  groups_known (group ∷ groups) holds =
      All-cons (IsKnown known) group groups
      (place_within (same group.name) known (holds group.name (rw (same-itself group.name) refl)))
      (groups_known groups (λ q here. holds q (or_right (same q group.name) (list_any (same q) (group_names groups)) here)))

  stations_known : (entries : List StationData) → ((q : List ℕ) → list_any (same q) (named_groups entries) ≡ true → list_any (same q) known ≡ true)
      → All (AreKnown known) entries
  stations_known [] holds = All-nil (AreKnown known)
  stations_known (entry ∷ entries) holds =
      All-cons (AreKnown known) entry entries
      (groups_known entry.groups (λ q here. holds q
      (list_any-append (same q) (group_names entry.groups) (named_groups entries)
      ∙ or_left (list_any (same q) (group_names entry.groups)) (list_any (same q) (named_groups entries)) here)))
      (stations_known entries (λ q here. holds q
      (list_any-append (same q) (group_names entry.groups) (named_groups entries)
      ∙ or_right (list_any (same q) (group_names entry.groups)) (list_any (same q) (named_groups entries)) here)))

-- each group that a station names is among those mentioned
pub all_known : (entries : List StationData) → All (AreKnown (mentions [] entries)) entries
all_known entries = stations_known (mentions [] entries) entries (λ q here. mentions_member entries [] q ∙ here)

pub known_as : (known : List (List ℕ)) (first second entries : List StationData) → known ≡ mentions [] first → first ≡ entries → second ≡ entries
    → All (AreKnown known) second
known_as known first second entries names one two = rw (names, one, two) (all_known entries)

not_true : (b : Bool) → not b ≡ true → b ≡ false
not_true true e = absurd (true_is_false (sym e))
not_true false e = refl

module _ (known : List (List ℕ)) where
  -- equal numbers are equal names
  same_number : (a b : GroupEntry) → IsKnown known a → IsKnown known b → group_number known a.name ≡ group_number known b.name → a.name ≡ b.name
  same_number a b first second is =
      let one = same_is a.name _ (passes_at_first (same a.name) known [] first) in
      let other = same_is b.name _ (passes_at_first (same b.name) known [] second) in
      one ∙ ap (λ n. get_or known n []) is ∙ sym other

  number_not_there : (group : GroupEntry) (others : List GroupEntry) → IsKnown known group → All (IsKnown known) others
      → list_any (λ y. same_group y group) others ≡ false
      → Contains (map (λ (m : Membership). m.group) (memberships_of known others)) (group_number known group.name) → ⊥
  number_not_there group [] is_known all none here = in_none (group_number known group.name) here
  number_not_there group (other ∷ others) is_known all none here =
      elim (in_cases (group_number known other.name) (group_number known group.name) (map (λ (m : Membership). m.group) (memberships_of known others)) here) [
        | inl is ↦
            let alike = same_number other group (All-head (IsKnown known) other others all) is_known is in
            let yes : same other.name group.name ≡ true = ap (same other.name) (sym alike) ∙ same-itself other.name in
            let no = (or_parts (same_group other group) (list_any (λ y. same_group y group) others) none).0 in
            true_is_false (sym yes ∙ no)
        | inr rest ↦
            number_not_there group others is_known (All-tail (IsKnown known) other others all)
            (or_parts (same_group other group) (list_any (λ y. same_group y group) others) none).1 rest
      ]

  pub numbers_once : (groups : List GroupEntry) → All (IsKnown known) groups → all_differ same_group groups ≡ true
      → Once (map (λ (m : Membership). m.group) (memberships_of known groups))
  numbers_once [] all apart = once_none
  numbers_once (group ∷ groups) all apart =
      let both = and_parts (not (list_any (λ y. same_group y group) groups)) (all_differ same_group groups) apart in
      let rest = All-tail (IsKnown known) group groups all in
      once_cons (group_number known group.name) (map (λ (m : Membership). m.group) (memberships_of known groups))
      (λ here. number_not_there group groups (All-head (IsKnown known) group groups all) rest (not_true (list_any (λ y. same_group y group) groups) both.0) here)
      (numbers_once groups rest both.1)

-- the same of the indexes
index_not_there : (known : List (List ℕ)) (group : GroupEntry) (others : List GroupEntry) → list_any (λ y. same_index y group) others ≡ false
    → Contains (map (λ (m : Membership). m.index) (memberships_of known others)) group.index → ⊥
index_not_there known group [] none here = in_none group.index here
index_not_there known group (other ∷ others) none here =
    let parts = or_parts (same_index other group) (list_any (λ y. same_index y group) others) none in
    elim (in_cases other.index group.index (map (λ (m : Membership). m.index) (memberships_of known others)) here) [
      | inl is ↦
          let yes : nat_eq other.index group.index ≡ true = eq-eqb other.index group.index is in
          true_is_false (sym yes ∙ parts.0)
      | inr rest ↦ index_not_there known group others parts.1 rest
    ]

pub indexes_once : (known : List (List ℕ)) (groups : List GroupEntry) → all_differ same_index groups ≡ true
    → Once (map (λ (m : Membership). m.index) (memberships_of known groups))
indexes_once known [] apart = once_none
indexes_once known (group ∷ groups) apart =
    let both = and_parts (not (list_any (λ y. same_index y group) groups)) (all_differ same_index groups) apart in
    once_cons group.index (map (λ (m : Membership). m.index) (memberships_of known groups))
    (λ here. index_not_there known group groups (not_true (list_any (λ y. same_index y group) groups) both.0) here)
    (indexes_once known groups both.1)

-- an index that is found is one of them
pub index_held : (known : List (List ℕ)) (groups : List GroupEntry) (index : ℕ) → list_any (λ (group : GroupEntry). nat_eq group.index index) groups ≡ true
    → Contains (map (λ (m : Membership). m.index) (memberships_of known groups)) index
index_held known [] index held = absurd (true_is_false (sym held))
index_held known (group ∷ groups) index held =
    elim (cases_Bool (nat_eq group.index index)) [
      | inl here ↦
          let is : group.index ≡ index = eqb-true group.index index here in
          subst (Contains (map (λ (m : Membership). m.index) (memberships_of known (group ∷ groups)))) is
          (in_front group.index (map (λ (m : Membership). m.index) (memberships_of known groups)))
      | inr apart ↦
          in_rest group.index index (map (λ (m : Membership). m.index) (memberships_of known groups)) (index_held known groups index (rw apart at held))
    ]

-- each number is that of a name
pub numbers_named : (known : List (List ℕ)) (groups : List GroupEntry) → All (IsKnown known) groups
    → All (λ n. n < length known) (map (λ (m : Membership). m.group) (memberships_of known groups))
numbers_named known [] all = All-nil (λ n. n < length known)
numbers_named known (group ∷ groups) all =
    All-cons (λ n. n < length known) (group_number known group.name) (map (λ (m : Membership). m.group) (memberships_of known groups))
    (All-head (IsKnown known) group groups all) (numbers_named known groups (All-tail (IsKnown known) group groups all))

-- a station that is built has its groups as its own
pub own_groups : (tables : Tables) (line : ℕ) (entry : StationData) → AreKnown tables.groups entry → has_own_indexes entry ≡ true
    → HasOwnGroups tables (station_from tables.groups line entry)
own_groups tables line entry all own =
    let known = tables.groups in
    let (apart, third) = and_parts (all_differ same_index entry.groups && all_differ same_group entry.groups) _ own in
    let (indexes, names) = and_parts (all_differ same_index entry.groups) (all_differ same_group entry.groups) apart in
    record {
      indexes_once = indexes_once known entry.groups indexes;
      groups_once = numbers_once known entry.groups all names;
      groups_named = numbers_named known entry.groups all;
      preferential = λ index is. index_held known entry.groups index (rw is at third);
    }
