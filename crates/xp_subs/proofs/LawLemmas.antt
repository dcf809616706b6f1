-- A text has one answer.
use Rattle.std.proofs.Common.{◌≡◌, ℕ, List, [], ◌∷◌, ◌++◌, true, false, Result, Ok, Err, inl, inr, refl, sym, ap, subst, ◌∙◌}
use Rattle.xp_file.specs.declared.fault.SubscriptionFault.{SubscriptionFault}
use Rattle.xp_file.specs.declared.fault.SubscriptionFault.TheVariants as faults
use Rattle.xp_file.specs.declared.key.Key.{Key}
use Rattle.xp_file.specs.Entries.{StationData}
use Rattle.xp_file.specs.SubscriptionFile.{FileData, file_in}
use Rattle.xp_file.proofs.Choices.{none_is_some, err_is_ok}
use Rattle.xp_subs.specs.Built.{IsTwiceUsed, Refuses, Accepts, SetsUp, tables_of}
use Rattle.xp_subs.specs.DefaultCallers.{HasTwoDefaultCallers}
use Rattle.xp_subs.specs.Tables.{Tables}
use Rattle.xp_subs.specs.UsedValues.{Use, Once, key_of, uses_of, IsFirstRepeated}

true_is_false : true ≡ false → ⊥
true_is_false e = cc

-- where one list is cut twice, the cuts are the same or one comes first
data Cuts {A : Type 0} (before other : List A) (x y : A) : Type 0 where
  together : x ≡ y → Cuts before other x y
  first : (rest : List A) → other ≡ before ++ x ∷ rest → Cuts before other x y
  second : (rest : List A) → before ≡ other ++ y ∷ rest → Cuts before other x y

cuts : {A : Type 0} (before after other more : List A) (x y : A) → before ++ x ∷ after ≡ other ++ y ∷ more → Cuts before other x y
cuts [] after [] more x y e = together cc
cuts [] after (z ∷ other) more x y e = let is : z ≡ x = cc in first other (ap (λ w. w ∷ other) is)
cuts (z ∷ before) after [] more x y e = let is : z ≡ y = cc in second before (ap (λ w. w ∷ before) is)
cuts (z ∷ before) after (w ∷ other) more x y e =
    let is : z ≡ w = cc in
    let rest : before ++ x ∷ after ≡ other ++ y ∷ more = cc in
    elim (cuts before after other more x y rest) [
      | together same ↦ together same
      | first more_of is_more ↦ first more_of (ap (λ v. v ∷ other) (sym is) ∙ ap (λ l. z ∷ l) is_more)
      | second more_of is_more ↦ second more_of (ap (λ v. v ∷ before) is ∙ ap (λ l. w ∷ l) is_more)
    ]

one_first : (uses : List Use) (u v : Use) → IsFirstRepeated uses u → IsFirstRepeated uses v → u ≡ v
one_first uses u v one other =
    elim (cuts one.before one.after other.before other.after u v (sym one.split ∙ other.split)) [
      | together same ↦ same
      | first rest is ↦ absurd (other.once one.before u rest is one.again)
      | second rest is ↦ absurd (one.once other.before v rest is other.again)
    ]

key_once : (stations : List StationData) (k l : Key) → IsTwiceUsed stations k → IsTwiceUsed stations l → k ≡ l
key_once stations k l (inl (again, repeat, is)) (inl (again', repeat', is')) =
    is ∙ ap key_of (one_first (uses_of stations) again again' repeat repeat') ∙ sym is'
key_once stations k l (inl (again, repeat, is)) (inr (once, two, is')) = absurd (once repeat.before again repeat.after repeat.split repeat.again)
key_once stations k l (inr (once, two, is)) (inl (again, repeat, is')) = absurd (once repeat.before again repeat.after repeat.split repeat.again)
key_once stations k l (inr (once, two, is)) (inr (once', two', is')) = is ∙ sym is'

nothing_twice : (stations : List StationData) (key : Key) → IsTwiceUsed stations key → Once (uses_of stations) → (HasTwoDefaultCallers stations → ⊥) → ⊥
nothing_twice stations key (inl (again, repeat, is)) once none = once repeat.before again repeat.after repeat.split repeat.again
nothing_twice stations key (inr (other, two, is)) once none = none two

refused_once : (file : FileData) (one other : SubscriptionFault) → Refuses file one → Refuses file other → one ≡ other
refused_once file (faults.Limit k) (faults.Limit l) a b = let is : k ≡ l = (let e = sym a ∙ b in cc) in ap (λ x. faults.Limit x) is
refused_once file (faults.Limit k) (faults.TwiceUsed l) a b = absurd (none_is_some (sym b.0 ∙ a))
refused_once file (faults.Limit k) faults.Index a b = absurd (none_is_some (sym b.0 ∙ a))
refused_once file (faults.TwiceUsed k) (faults.Limit l) a b = absurd (none_is_some (sym a.0 ∙ b))
refused_once file (faults.TwiceUsed k) (faults.TwiceUsed l) a b = ap (λ x. faults.TwiceUsed x) (key_once file.stations k l a.1 b.1)
refused_once file (faults.TwiceUsed k) faults.Index a b = absurd (nothing_twice file.stations k a.1 b.1 b.2)
refused_once file faults.Index (faults.Limit l) a b = absurd (none_is_some (sym a.0 ∙ b))
refused_once file faults.Index (faults.TwiceUsed l) a b = absurd (nothing_twice file.stations l b.1 a.1 a.2)
refused_once file faults.Index faults.Index a b = refl
refused_once file faults.Toml other a b = absurd a
refused_once file (faults.Field k) other a b = absurd a
refused_once file faults.Memory other a b = absurd a
refused_once file (faults.Limit k) faults.Toml a b = absurd b
refused_once file (faults.Limit k) (faults.Field l) a b = absurd b
refused_once file (faults.Limit k) faults.Memory a b = absurd b
refused_once file (faults.TwiceUsed k) faults.Toml a b = absurd b
refused_once file (faults.TwiceUsed k) (faults.Field l) a b = absurd b
refused_once file (faults.TwiceUsed k) faults.Memory a b = absurd b
refused_once file faults.Index faults.Toml a b = absurd b
refused_once file faults.Index (faults.Field l) a b = absurd b
refused_once file faults.Index faults.Memory a b = absurd b

accepted_or_refused : (file : FileData) (fault : SubscriptionFault) → Accepts file → Refuses file fault → ⊥
accepted_or_refused file (faults.Limit k) a b = none_is_some (sym a.limits ∙ b)
accepted_or_refused file (faults.TwiceUsed k) a b = nothing_twice file.stations k b.1 a.once a.default_callers
accepted_or_refused file faults.Index a b = true_is_false (sym a.indexes ∙ b.3)
accepted_or_refused file faults.Toml a b = b
accepted_or_refused file (faults.Field k) a b = b
accepted_or_refused file faults.Memory a b = b

same_file : (text : List ℕ) (one other : FileData) → file_in text ≡ Ok one → file_in text ≡ Ok other → one ≡ other
same_file text one other a b = let e : Ok one ≡ Ok other = sym a ∙ b in cc

pub one_answer : (text : List ℕ) (one other : Result Tables SubscriptionFault) → SetsUp text one → SetsUp text other → one ≡ other
one_answer text (Ok one) (Ok other) (file, read, accepts, is) (file', read', accepts', is') =
    ap (λ t. Ok t) (is ∙ ap tables_of (same_file text file file' read read') ∙ sym is')
one_answer text (Ok one) (Err fault) (file, read, accepts, is) (inl refused) = absurd (err_is_ok (sym refused ∙ read))
one_answer text (Ok one) (Err fault) (file, read, accepts, is) (inr (file', read', refuses)) =
    absurd (accepted_or_refused file' fault (subst Accepts (same_file text file file' read read') accepts) refuses)
one_answer text (Err fault) (Ok other) (inl refused) (file, read, accepts, is) = absurd (err_is_ok (sym refused ∙ read))
one_answer text (Err fault) (Ok other) (inr (file', read', refuses)) (file, read, accepts, is) =
    absurd (accepted_or_refused file' fault (subst Accepts (same_file text file file' read read') accepts) refuses)
one_answer text (Err one) (Err other) (inl a) (inl b) =
    let e = sym a ∙ b in
    let is : one ≡ other = cc in
    ap (λ f. Err f) is
one_answer text (Err one) (Err other) (inl a) (inr (file, read, refuses)) = absurd (err_is_ok (sym a ∙ read))
one_answer text (Err one) (Err other) (inr (file, read, refuses)) (inl b) = absurd (err_is_ok (sym b ∙ read))
one_answer text (Err one) (Err other) (inr (file, read, refuses)) (inr (file', read', refuses')) =
    ap (λ f. Err f) (refused_once file one other refuses (subst (λ (f : FileData). Refuses f other) (sym (same_file text file file' read read')) refuses'))
