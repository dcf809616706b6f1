-- Steps that may fail: what follows from an answer of theirs.
use Rattle.std.proofs.Common.{◌≡◌, Bool, true, false, cond, Option, Some, None, Result, Ok, Err, refl}
use Rattle.xp_packets.specs.declared.fault.Malformed.{Malformed}
use Rattle.xp_packets.specs.steps.Reading.{◌>>=◌}

-- the value of a step that did not fail
pub bind_ok : {X Y : Type 0} (r : Result X Malformed) (f : X → Result Y Malformed) (y : Y) → (r >>= f) ≡ Ok y → (x : X) × (r ≡ Ok x) × (f x ≡ Ok y)
bind_ok (Ok x) f y e = (x, refl, e)
bind_ok (Err d) f y e = absurd cc

-- a test that did not fail
pub guard_ok : {X : Type 0} (b : Bool) (d : Malformed) (r : Result X Malformed) (y : X) → cond b (Err d) r ≡ Ok y → (b ≡ false) × (r ≡ Ok y)
guard_ok true d r y e = absurd cc
guard_ok false d r y e = (refl, e)

abbrev done : {X : Type 0} → X → Result X Malformed
done x = Ok x

pub ok_is : {X : Type 0} (x y : X) → done x ≡ done y → x ≡ y
ok_is x y e = cc

-- ---- what went wrong

abbrev pub error_of : {X : Type 0} → Result X Malformed → Option Malformed
error_of (Ok x) = None
error_of (Err e) = Some e

pub error_guard : {X : Type 0} (b : Bool) (w : Malformed) (r : Result X Malformed) (o : Option Malformed) → error_of r ≡ o → error_of (cond b (Err w) r) ≡ cond b (Some w) o
error_guard true w r o e = refl
error_guard false w r o e = e

-- a last step that cannot fail
pub error_bind : {X Y : Type 0} (r : Result X Malformed) (f : X → Y) → error_of (r >>= λ x. Ok (f x)) ≡ error_of r
error_bind (Ok x) f = refl
error_bind (Err e) f = refl
