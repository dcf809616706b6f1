-- Cases that cannot be, and what came before an answer.
use Rattle.std.proofs.Common.{◌≡◌, Bool, true, false, None, Some, Result, Ok, Err, refl}
use Rattle.xp_file.specs.declared.fault.SubscriptionFault.{SubscriptionFault}
use Rattle.xp_file.specs.Reading.{◌>>=◌, checked}

pub none_is_some : {X : Type 0} {x : X} → None ≡ Some x → ⊥
none_is_some e = cc

pub err_is_ok : {X E : Type 0} {fault : E} {x : X} → Err fault ≡ Ok x → ⊥
err_is_ok e = cc

pub bind_ok : {A B : Type 0} (r : Result A SubscriptionFault) (next : A → Result B SubscriptionFault) (y : B) → (r >>= next) ≡ Ok y → (x : A) × (r ≡ Ok x) × (next x ≡ Ok y)
bind_ok (Ok x) next y e = (x, refl, e)
bind_ok (Err fault) next y e = absurd (err_is_ok e)

pub checked_ok : {A : Type 0} (test : Bool) (fault : SubscriptionFault) (next : Result A SubscriptionFault) (x : A) → checked test fault next ≡ Ok x → next ≡ Ok x
checked_ok true fault next x e = e
checked_ok false fault next x e = absurd (err_is_ok e)
