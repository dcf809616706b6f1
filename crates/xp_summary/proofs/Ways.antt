-- What lets a call through.
use Rattle.std.proofs.Common.{◌≡◌, ℕ, ◌<◌, Bool, true, false, not, nat_eq, List, Option, Result, Ok, inl, inr, refl, sym, ◌∙◌, ap, subst, eqb-true}
use Rattle.std.specs.List.{list_any, Contains}
use Rattle.std.proofs.lemmas.Bool.{ne_eqb, eqb-false, not-true, not_from_false, both_ways}
use Rattle.std.proofs.lemmas.List.Folds.{Any-from_list_any, list_any-from_Any}
use Rattle.xp_causes.specs.declared.refusal.Refusal.{Refusal}
use Rattle.xp_facilities.specs.declared.selection.Selection.{Selection}
use Rattle.xp_facilities.specs.declared.selection.Selection.TheVariants.{Nothing, Closed, WithOutsideAccess}
use Rattle.xp_file.specs.declared.entry.Redirection.{Redirection}
use Rattle.xp_groups.specs.Admits.{Admits}
use Rattle.xp_groups.specs.Admits as admits
use Rattle.xp_groups.specs.Intends.{Intends}
use Rattle.xp_groups.specs.Intends as intends
use Rattle.xp_groups.specs.declared.admission.Admission.{Admission}
use Rattle.xp_groups.specs.declared.intention.Intent.{Intent}
use Rattle.xp_subs.proofs.Found.{find_some}
use Rattle.xp_subs.specs.Sound.{IsSound, Lists}
use Rattle.xp_subs.specs.Tables.{Tables, station_at, station_count}
use Rattle.xp_subs.specs.declared.station.Membership.{Membership}
use Rattle.xp_subs.specs.declared.station.Station.{Station}
use Rattle.xp_summary.specs.steps.Ways.{has_besides, has_two_ends, LetsThrough, LetsThroughIn, LetsThroughInSome}

-- closed user groups have no part in redirections
pub intends_redirected : (redirect : Option Redirection) (station : Station) (selection : Selection) (result : Result Intent Refusal)
    → Intends station selection result → Intends (record station { redirect = redirect }) selection result
intends_redirected redirect station selection result (intends.no_groups a b c) = intends.no_groups a b c
intends_redirected redirect station selection result (intends.no_groups_to_select a b c) = intends.no_groups_to_select a b c
intends_redirected redirect station selection result (intends.closed index held a b c d e) = intends.closed index held a b c d e
intends_redirected redirect station selection result (intends.closed_barred index held a b c d e) = intends.closed_barred index held a b c d e
intends_redirected redirect station selection result (intends.closed_not_known index a b c d) = intends.closed_not_known index a b c d
intends_redirected redirect station selection result (intends.no_outgoing_access index a b c d) = intends.no_outgoing_access index a b c d
intends_redirected redirect station selection result (intends.with_outside_access_not_known index a b c d e) = intends.with_outside_access_not_known index a b c d e
intends_redirected redirect station selection result (intends.with_outside_access_barred index held a b c d e f) = intends.with_outside_access_barred index held a b c d e f
intends_redirected redirect station selection result (intends.with_outside_access index held a b c d e f) = intends.with_outside_access index held a b c d e f
intends_redirected redirect station selection result (intends.preferential held a b c d e) = intends.preferential held a b c d e
intends_redirected redirect station selection result (intends.preferential_open held a b c d e) = intends.preferential_open held a b c d e
intends_redirected redirect station selection result (intends.outgoing_access a b c d e) = intends.outgoing_access a b c d e
intends_redirected redirect station selection result (intends.no_way_out a b c d e) = intends.no_way_out a b c d e

pub admits_redirected : (redirect : Option Redirection) (intent : Intent) (station : Station) (result : Result Admission Refusal)
    → Admits intent station result → Admits intent (record station { redirect = redirect }) result
admits_redirected redirect intent station result (admits.no_groups a b c) = admits.no_groups a b c
admits_redirected redirect intent station result (admits.no_groups_to_share a b c) = admits.no_groups_to_share a b c
admits_redirected redirect intent station result (admits.within_group held a b c d) = admits.within_group held a b c d
admits_redirected redirect intent station result (admits.within_group_open held a b c d) = admits.within_group_open held a b c d
admits_redirected redirect intent station result (admits.incoming_access a b c d) = admits.incoming_access a b c d
admits_redirected redirect intent station result (admits.no_way_in a b c d) = admits.no_way_in a b c d

-- A call that goes out selects no group, or one of the caller's.
pub data Selects (station : Station) (selection : Selection) : Type 0 where
  none : selection ≡ Nothing → Selects station selection
  one : (held : Membership) → Contains station.memberships.items held → selection ≡ Closed held.index → Selects station selection
  one_open : (held : Membership) → Contains station.memberships.items held → selection ≡ WithOutsideAccess held.index → Selects station selection

selects : (station : Station) (selection : Selection) (intent : Intent) → Intends station selection (Ok intent) → Selects station selection
selects station selection intent (intends.no_groups _ is _) = none is
selects station selection intent (intends.no_groups_to_select _ _ e) = cc
selects station selection intent (intends.closed index held _ is found _ _) =
    let f = find_some (λ (m : Membership). nat_eq m.index index) station.memberships.items held found in
    one held f.0 (is ∙ ap (λ (i : ℕ). Closed i) (sym (eqb-true held.index index f.1)))
selects station selection intent (intends.closed_barred _ _ _ _ _ _ e) = cc
selects station selection intent (intends.closed_not_known _ _ _ _ e) = cc
selects station selection intent (intends.no_outgoing_access _ _ _ _ e) = cc
selects station selection intent (intends.with_outside_access_not_known _ _ _ _ _ e) = cc
selects station selection intent (intends.with_outside_access_barred index held _ is _ found _ _) =
    let f = find_some (λ (m : Membership). nat_eq m.index index) station.memberships.items held found in
    one_open held f.0 (is ∙ ap (λ (i : ℕ). WithOutsideAccess i) (sym (eqb-true held.index index f.1)))
selects station selection intent (intends.with_outside_access index held _ is _ found _ _) =
    let f = find_some (λ (m : Membership). nat_eq m.index index) station.memberships.items held found in
    one_open held f.0 (is ∙ ap (λ (i : ℕ). WithOutsideAccess i) (sym (eqb-true held.index index f.1)))
selects station selection intent (intends.preferential _ _ is _ _ _) = none is
selects station selection intent (intends.preferential_open _ _ is _ _ _) = none is
selects station selection intent (intends.outgoing_access _ is _ _ _) = none is
selects station selection intent (intends.no_way_out _ _ _ _ e) = cc

in_one : (caller called : Station) (held : Membership) → Contains caller.memberships.items held → LetsThroughIn caller called held → LetsThroughInSome caller called
in_one caller called held (k, below, is) lets = (k, held, below, is, lets)

-- where neither no selection nor that of a group lets a call through, none does
pub none_through : (caller called : Station) (selection : Selection) → (LetsThrough caller called Nothing → ⊥) → (LetsThroughInSome caller called → ⊥)
    → LetsThrough caller called selection → ⊥
none_through caller called selection plain some lets = by (selects caller selection lets.intent lets.intends) where
  P : Selection → Type 0
  P s = LetsThrough caller called s

  by : Selects caller selection → ⊥
  by (none is) = plain (subst P is lets)
  by (one held has is) = some (in_one caller called held has (inl (subst P is lets)))
  by (one_open held has is) = some (in_one caller called held has (inr (subst P is lets)))

-- the ends of a call
in_list : (lines : List ℕ) (line : ℕ) (test : ℕ → Bool) → Contains lines line → test line ≡ true → list_any test lines ≡ true
in_list lines line test (k, below, is) passes = list_any-from_Any test lines (k, line, below, is, passes)

besides : (lines : List ℕ) (line own : ℕ) → Contains lines own → (own ≡ line → ⊥) → has_besides lines line ≡ true
besides lines line own has other = in_list lines own (λ o. not (nat_eq o line)) has (not_from_false (nat_eq own line) (ne_eqb own line other))

-- a line that rings for a call from the other one
pub record OtherEnd (lines : List ℕ) (from : ℕ) : Type 0 where
  pub line : ℕ
  pub has : Contains lines line
  pub other : line ≡ from → ⊥

pub no_other_end : (caller called : Station) (from : ℕ) → has_two_ends caller called ≡ false → Contains caller.lines.items from
    → OtherEnd called.lines.items from → ⊥
no_other_end caller called from no_ends has end =
    both_ways (has_two_ends caller called) no_ends
    (in_list caller.lines.items from (has_besides called.lines.items) has (besides called.lines.items from end.line end.has end.other))

-- a line of the caller
pub some_end : (caller called : Station) → has_two_ends caller called ≡ true → (line : ℕ) × Contains caller.lines.items line
some_end caller called ends =
    let a = Any-from_list_any (has_besides called.lines.items) caller.lines.items ends in (a.1, (a.0, a.2, a.3))

-- Each line of the caller has another one at the other end: the one that was found; or where it is that one itself, the line of the
-- caller for which it was found, since both stations are then one.
pub other_end : (tables : Tables) (caller called from : ℕ) → IsSound tables → caller < station_count tables → called < station_count tables
    → has_two_ends (station_at tables caller) (station_at tables called) ≡ true → Lists tables caller from
    → OtherEnd (station_at tables called).lines.items from
other_end tables caller called from sound knows_caller knows_called ends own =
    let a = Any-from_list_any (has_besides (station_at tables called).lines.items) (station_at tables caller).lines.items ends in
    let b = Any-from_list_any (λ (line : ℕ). not (nat_eq line a.1)) (station_at tables called).lines.items a.4 in
    by a.1 (a.0, a.2, a.3) b.1 (b.0, b.2, b.3) (eqb-false b.1 a.1 (not-true (nat_eq b.1 a.1) b.4)) (nat_eq b.1 from) refl
  where
    by : (start : ℕ) → Lists tables caller start → (end : ℕ) → Lists tables called end → (end ≡ start → ⊥) → (is_same : Bool) → nat_eq end from ≡ is_same
        → OtherEnd (station_at tables called).lines.items from
    by start starts end ends apart false e = record { line = end; has = ends; other = eqb-false end from e }
    by start starts end ends apart true e =
        let is : end ≡ from = eqb-true end from e in
        let L : ℕ → Type 0 = λ l. Lists tables caller l in
        let of_caller = (sound.own caller end knows_caller (subst L (sym is) own)).1 in
        let of_called = (sound.own called end knows_called ends).1 in
        let S : ℕ → Type 0 = λ s. Lists tables s start in
        record {
          line = start;
          has = subst S (sym of_caller ∙ of_called) starts;
          other = λ h. apart (is ∙ sym h);
        }
