use Rattle.std.proofs.Common.{◌≡◌, ℕ, ◌-◌, ◌<◌, ◌≤◌, false, ltb, ◌||◌, List, [], ◌∷◌, length, get_or, take, drop, Ok, Err, refl, arith}
use Rattle.std.proofs.lemmas.Bool.{le-ltb, lt-ltb, or_from}
use Rattle.std.proofs.lemmas.List.{take_all}
use Rattle.xp_packets.specs.declared.fault.Malformed.TheVariants.{Long}
use Rattle.xp_packets.specs.steps.Reading.{fields_at}
use Rattle.xp_packets.proofs.block.fields_of.Goals as goal

-- the octets after the first
abbrev behind : List ℕ → List ℕ
behind octets = take (length octets - 1) (drop 1 octets)

no_fields : (most : ℕ) (octets : List ℕ) → length octets < 1 → fields_at most octets ≡ Ok (octets, octets)
unfolding fields_at
no_fields most [] none = refl
no_fields most (size ∷ rest) none = absurd (omega arith)

long_user : (most size : ℕ) (octets user : List ℕ) → 1 ≤ length octets → size ≡ get_or octets 0 0 → size ≤ 109 → size ≤ length (behind octets) → user ≡ drop size (behind octets) → most < length user → fields_at most octets ≡ Err Long
unfolding fields_at
long_user most size [] user some is small within back long = absurd (omega arith)
long_user most size (first ∷ rest) user some is small within back long =
    let whole : behind (first ∷ rest) ≡ rest = take_all (length (first ∷ rest) - 1) rest (omega arith) in
    let within : first ≤ length rest = rw (is, whole) at within in
    let back : user ≡ drop first rest = rw (is, whole) at back in
    let sized : (ltb 109 first || ltb (length rest) first) ≡ false = or_from _ _ (le-ltb 109 first (omega (arith, is))) (le-ltb _ _ within) in
    rw (sized, ← back, lt-ltb most (length user) long) refl

both_fields : (most size : ℕ) (octets facilities user : List ℕ) → 1 ≤ length octets → size ≡ get_or octets 0 0 → size ≤ 109 → size ≤ length (behind octets) → facilities ≡ take size (behind octets) → user ≡ drop size (behind octets) → length user ≤ most → fields_at most octets ≡ Ok (facilities, user)
unfolding fields_at
both_fields most size [] facilities user some is small within front back short = absurd (omega arith)
both_fields most size (first ∷ rest) facilities user some is small within front back short =
    let whole : behind (first ∷ rest) ≡ rest = take_all (length (first ∷ rest) - 1) rest (omega arith) in
    let within : first ≤ length rest = rw (is, whole) at within in
    let front : facilities ≡ take first rest = rw (is, whole) at front in
    let back : user ≡ drop first rest = rw (is, whole) at back in
    let sized : (ltb 109 first || ltb (length rest) first) ≡ false = or_from _ _ (le-ltb 109 first (omega (arith, is))) (le-ltb _ _ within) in
    rw (sized, ← back, ← front, le-ltb most (length user) short) refl

pub returns-in-empty : goal.returns-in-empty
returns-in-empty c = no_fields c.args.most c.args.octets.now c.in-empty.len_below

pub returns-then-user-most : goal.returns-then-user-most
returns-then-user-most c = long_user _ _ _ _ c.in-len1-up.len_at_least c.from-size.ensures c.if-size-gt-MOST_FACILITIES.false c.if-rest-size.false c.split_at.ensures.back c.if-user-most.true

pub returns-else-user-most : goal.returns-else-user-most
returns-else-user-most c = both_fields _ _ _ _ _ c.in-len1-up.len_at_least c.from-size.ensures c.if-size-gt-MOST_FACILITIES.false c.if-rest-size.false c.split_at.ensures.front c.split_at.ensures.back c.if-user-most.false
