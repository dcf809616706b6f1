-- What is used so far, and one more.
use Rattle.std.proofs.Common.{◌≡◌, ℕ, List, [], ◌∷◌, ◌++◌, Bool, false, is_some, Option, None, Some, Ok, refl, sym, ap, ◌∙◌, inl, inr}
use Rattle.std.proofs.lemmas.Bool.{cases_Bool}
use Rattle.std.specs.Map.{lookup}
use Rattle.indexmap.specs.IndexMap.{insert_entry}
use Rattle.xp_file.specs.Name.{same}
use Rattle.xp_subs.specs.declared.target.Target.{Target}
use Rattle.xp_subs.specs.steps.Passes.{Used, with_address, with_name}

-- a key that is not there goes last
insert_entry-absent : {K X : Type 0} (eq : K → K → Bool) (k : K) (v : X) (es : List (K × X)) → lookup (eq k) es ≡ None → insert_entry eq es k v ≡ es ++ (k, v) ∷ []
insert_entry-absent eq k v [] none = refl
insert_entry-absent eq k v (e ∷ es) none =
    elim (cases_Bool (eq k e.0)) [
      | inl here ↦ let found : Some e.1 ≡ None = rw here at none in cc
      | inr apart ↦ rw apart (ap (λ more. e ∷ more) (insert_entry-absent eq k v es (rw apart at none)))
    ]

-- what is not there
none_is : {X : Type 0} (found : Option X) → is_some found ≡ false → found ≡ None
none_is None e = refl
none_is (Some x) e = cc

module _ (address key : List ℕ) (same_key : key ≡ address) where
  pub address_entered : (target : Target) (targets after : List (List ℕ × Target)) (names : List (List ℕ × ℕ)) (ports : List ℕ)
      (used : Used) (old : Option Target) → record { targets = targets; names = names; ports = ports } ≡ used
      → old ≡ lookup (same key) targets → is_some old ≡ false → after ≡ insert_entry same targets key target
      → with_address target address used ≡ Ok (record { targets = after; names = names; ports = ports })
  address_entered target targets after names ports used old is found none entries =
      let absent : lookup (same key) targets ≡ None = sym found ∙ none_is old none in
      rw (← same_key, ← is, absent, entries, insert_entry-absent same key target targets absent)

  pub name_entered : (line : ℕ) (targets : List (List ℕ × Target)) (names after : List (List ℕ × ℕ)) (ports : List ℕ)
      (used : Used) (old : Option ℕ) → record { targets = targets; names = names; ports = ports } ≡ used
      → old ≡ lookup (same key) names → is_some old ≡ false → after ≡ insert_entry same names key line
      → with_name line address used ≡ Ok (record { targets = targets; names = after; ports = ports })
  name_entered line targets names after ports used old is found none entries =
      let absent : lookup (same key) names ≡ None = sym found ∙ none_is old none in
      rw (← same_key, ← is, absent, entries, insert_entry-absent same key line names absent)
