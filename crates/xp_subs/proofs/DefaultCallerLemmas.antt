-- Two default callers of one router, and the pass that looks for them.
use Rattle.std.proofs.Common.{◌≡◌, ℕ, List, [], ◌∷◌, ◌++◌, Bool, true, false, not, ◌&&◌, ◌||◌, inl, inr, Contains, refl, sym, ap, ◌∙◌, true≢false}
use Rattle.std.specs.List.{list_any}
use Rattle.std.proofs.lemmas.Bool.{cases_Bool, and_parts, and_from, or_left, or_right}
use Rattle.xp_file.specs.declared.entry.Access.{Access}
use Rattle.xp_file.specs.declared.entry.Access.TheVariants.{Port, Router, Spare}
use Rattle.xp_file.specs.declared.entry.LineEntry.{LineEntry}
use Rattle.xp_file.specs.Entries.{StationData, is_behind}
use Rattle.xp_subs.specs.DefaultCallers.{IsDefaultCaller, HasTwoDefaultCallers}
use Rattle.xp_subs.specs.Passes.{all_differ}
use Rattle.xp_subs.specs.steps.DefaultCallers.{are_rivals, has_line_behind, has_line_beside, share_router}
use Rattle.xp_subs.proofs.OnceLemmas.{in_none, in_front, in_rest, in_cases}
use Rattle.xp_subs.proofs.TableLemmas.{same_is, same-itself}

not_true : (b : Bool) → not b ≡ true → b ≡ false
not_true true e = absurd (true≢false (sym e))
not_true false e = refl

or_rest : (a b : Bool) → (a || b) ≡ true → a ≡ false → b ≡ true
or_rest true b e none = absurd (true≢false none)
or_rest false b e none = e

and_rest : (a b : Bool) → (not a && b) ≡ false → a ≡ false → b ≡ false
and_rest true b e none = absurd (true≢false none)
and_rest false b e none = e

-- a test that passes for one of a list
module _ {A : Type 0} (p : A → Bool) where
  held_any : (xs : List A) (x : A) → Contains xs x → p x ≡ true → list_any p xs ≡ true
  held_any [] x held is = absurd (in_none x held)
  held_any (y ∷ ys) x held is = elim (in_cases y x ys held) [
    | inl here ↦ or_left (p y) (list_any p ys) (ap p here ∙ is)
    | inr rest ↦ or_right (p y) (list_any p ys) (held_any ys x rest is)
  ]

  any_held : (xs : List A) → list_any p xs ≡ true → (x : A) × Contains xs x × (p x ≡ true)
  any_held [] e = absurd (true≢false (sym e))
  any_held (y ∷ ys) e = elim (cases_Bool (p y)) [
    | inl here ↦ (y, in_front y ys, here)
    | inr apart ↦
        let (x, held, is) = any_held ys (or_rest (p y) (list_any p ys) e apart) in
        (x, in_rest y x ys held, is)
  ]

  any_split : (xs : List A) → list_any p xs ≡ true → (before : List A) × (x : A) × (after : List A) × (xs ≡ before ++ x ∷ after) × (p x ≡ true)
  any_split [] e = absurd (true≢false (sym e))
  any_split (y ∷ ys) e = elim (cases_Bool (p y)) [
    | inl here ↦ ([], y, ys, refl, here)
    | inr apart ↦
        let (before, x, after, is, passes) = any_split ys (or_rest (p y) (list_any p ys) e apart) in
        (y ∷ before, x, after, ap (λ l. y ∷ l) is, passes)
  ]

  any_in : (before : List A) (x : A) (after : List A) → p x ≡ true → list_any p (before ++ x ∷ after) ≡ true
  any_in [] x after here = or_left (p x) (list_any p after) here
  any_in (y ∷ before) x after here = or_right (p y) (list_any p (before ++ x ∷ after)) (any_in before x after here)

-- a line that stands beside others is behind the router of one of them
beside : (lines : List LineEntry) (access : Access) → has_line_beside lines access ≡ true
    → (router : List ℕ) × (is_behind router access ≡ true) × (has_line_behind lines router ≡ true)
beside lines (Port port) e = absurd (true≢false (sym e))
beside lines Spare e = absurd (true≢false (sym e))
beside lines (Router router) e = (router.address, same-itself router.address, e)

behind_one : (router : List ℕ) (lines : List LineEntry) (access : Access) → is_behind router access ≡ true → has_line_behind lines router ≡ true
    → has_line_beside lines access ≡ true
behind_one router lines (Port port) behind held = absurd (true≢false (sym behind))
behind_one router lines Spare behind held = absurd (true≢false (sym behind))
behind_one router lines (Router own) behind held = ap (has_line_behind lines) (same_is own.address router behind) ∙ held

rivals : (one other : StationData) → are_rivals other one ≡ true → (router : List ℕ) × IsDefaultCaller router one × IsDefaultCaller router other
unfolding are_rivals share_router has_line_behind
rivals one other e =
    let (told, share) = and_parts (other.default_caller && one.default_caller) (share_router other.lines one.lines) e in
    let (second, first) = and_parts other.default_caller one.default_caller told in
    let (line, own, met) = any_held (λ (line : LineEntry). has_line_beside one.lines line.access) other.lines share in
    let (router, theirs, ours) = beside one.lines line.access met in
    let (held, mine, behind) = any_held (λ (line : LineEntry). is_behind router line.access) one.lines ours in (
      router,
      record { told = first; line = held; own = mine; behind = behind },
      record { told = second; line = line; own = own; behind = theirs },
    )

rivals_of : (router : List ℕ) (one other : StationData) → IsDefaultCaller router one → IsDefaultCaller router other → are_rivals other one ≡ true
unfolding are_rivals share_router has_line_behind
rivals_of router one other first second =
    let ours : has_line_behind one.lines router ≡ true = held_any (λ (line : LineEntry). is_behind router line.access) one.lines first.line first.own first.behind in
    let met : has_line_beside one.lines second.line.access ≡ true = behind_one router one.lines second.line.access second.behind ours in
    and_from (other.default_caller && one.default_caller) (share_router other.lines one.lines)
    (and_from other.default_caller one.default_caller second.told first.told)
    (held_any (λ (line : LineEntry). has_line_beside one.lines line.access) other.lines second.line second.own met)

no_rivals : (before between after : List StationData) (one other : StationData)
    → all_differ are_rivals (before ++ one ∷ between ++ other ∷ after) ≡ true → are_rivals other one ≡ true → ⊥
no_rivals [] between after one other apart rival =
    let rest = between ++ other ∷ after in
    let both = and_parts (not (list_any (λ (y : StationData). are_rivals y one) rest)) (all_differ are_rivals rest) apart in
    true≢false (sym (any_in (λ (y : StationData). are_rivals y one) between other after rival) ∙ not_true (list_any (λ (y : StationData). are_rivals y one) rest) both.0)
no_rivals (station ∷ before) between after one other apart rival =
    let rest = before ++ one ∷ between ++ other ∷ after in
    let both = and_parts (not (list_any (λ (y : StationData). are_rivals y station) rest)) (all_differ are_rivals rest) apart in
    no_rivals before between after one other both.1 rival

-- where no two are rivals no router has two default callers
pub callers_once : (stations : List StationData) → all_differ are_rivals stations ≡ true → HasTwoDefaultCallers stations → ⊥
callers_once stations apart two =
    no_rivals two.before two.between two.after two.one two.other (ap (all_differ are_rivals) (sym two.split) ∙ apart)
    (rivals_of two.router two.one two.other two.first two.second)

-- and else one has
pub callers_twice : (stations : List StationData) → all_differ are_rivals stations ≡ false → HasTwoDefaultCallers stations
callers_twice [] e = absurd (true≢false e)
callers_twice (station ∷ stations) e = elim (cases_Bool (list_any (λ (y : StationData). are_rivals y station) stations)) [
  | inl here ↦
      let (between, other, after, is, rival) = any_split (λ (y : StationData). are_rivals y station) stations here in
      let (router, first, second) = rivals station other rival in
      record {
        router = router;
        before = [];
        one = station;
        between = between;
        other = other;
        after = after;
        split = ap (λ l. station ∷ l) is;
        first = first;
        second = second;
      }
  | inr apart ↦
      let two = callers_twice stations (and_rest (list_any (λ (y : StationData). are_rivals y station) stations) (all_differ are_rivals stations) e apart) in
      record {
        router = two.router;
        before = station ∷ two.before;
        one = two.one;
        between = two.between;
        other = two.other;
        after = two.after;
        split = ap (λ l. station ∷ l) two.split;
        first = two.first;
        second = two.second;
      }
]
