-- `granted` at a call: what it is handed, and the inner allocator that it lends unless it refuses. Assumes `Logic`.
use Rattle.std.proofs.Common.{◌≡◌, List, [], ◌∷◌, ◌++◌, Option, Some, None, refl, ap, ◌∙◌, Bor}
use Rattle.std.specs.Prelude.{IfSome}
use lib.Dec.{T, lit<}
use seplogic.Ra.Ura.{Ura}
use mir.Syntax.{Callee, a_type, named}
use mir.Val.{Val, vptr, of_list, has_ty, WT}
use base.Logic.{SProp, ent, sep, ex, guard, emp, id⊢}
use base.Fml.{Lft, Share, Fml, ftrue, fsep}
use prog.Memory.{Memory}
use prog.Routine.{Routine}
use types.Logic.{Logic, sem}
use types.Match.{live}
use types.Kit.{‵, raw, ◌⊛◌, some, later, given, ◌$◌, ◌∵◌, !, qed, move, keep, use0, use1, split, join, pick, learn, fsplit, fjoin, fpick, feq_l, feq_i, check, show, await, updating, now as at_once, done}
use contract.BorrowLft.{◌⊑◌}
use contract.Monad.{Fun, fact, fact_i}
use denote.RattleType.{RattleType}
use denote.Memory.{hidden_shr}
use denote.Param.{layout, layouts, param}
use denote.Ref.{ShrRef, shr_vals}
use denote.Steps.{only, nothing}
use denote.Triple.Statement.{Contract}
use denote.Triple.Spec.{triple_of}
use Rattle.std.specs.contracts.option.Option as options
use Rattle.std.proofs.alloc.Calls.{Al, seen}
use Rattle.xp_testing.specs.declared.refusing.Refusing.{Refusing}
use Rattle.xp_testing.specs.contracts.refusing.Refusing as refusing
use Rattle.xp_testing.specs.contracts.refusing.Refusing.granted as called
use Rattle.xp_testing.specs.contracts.refusing.Refusing.granted.Key as key

-- an optional reference, as the machine holds it
abbrev pub machine_value : {X : Type 0} → Option (Bor X) → Val
machine_value (Some b) = live 1 (of_list (vptr b.ref_ptr.0 b.ref_ptr.1 ∷ []))
machine_value None = live 0 (of_list [])

module _ (Z : Al) where
  abbrev pub granted_key : Callee
  granted_key = key.name (layouts (a_type ∷ []) (Z.row, tt))

  abbrev pub Lent : Lft → RattleType
  Lent κ = options.the_row (ShrRef (named 0) κ (param 0 Z.row))

  abbrev pub seen_if_lent : Lft → Option (Bor Z.row.Denot) → Fml
  seen_if_lent κ (Some b) = seen Z κ b.ref_ptr b.now
  seen_if_lent κ None = ftrue

  pub machine_value-typed : (o : Option (Bor Z.row.Denot)) → T (has_ty (layout (Lent [])) (machine_value o)) × WT (machine_value o)
  machine_value-typed (Some b) = (tt, (record { fits = lit< tt }, (tt, tt)))
  machine_value-typed None = (tt, (record { fits = lit< tt }, tt))

module _ (Z : Al) {M : Type 1} {𝓤 : Ura M} (𝓛 : Logic 𝓤) (at_mem : Memory → SProp 𝓤) (run : Routine → Fun 𝓤) where
  open 𝓛 use {H, A}

  abbrev pub Grants : Contract 𝓤
  Grants = triple_of 𝓛 (called.signature Z.row) (called.spec Z.row 𝓛 at_mem run)

  module _ (κ ρ : Lft) (q s : Share) (out : κ ⊑ ρ) (r : Bor (Refusing Z.row.Denot)) where
    abbrev pub at_grants : Grants.Ghost
    at_grants = (((κ, (ρ, tt)), (q, (s, tt)), (out, tt), (r, tt), (shr_vals r, tt)), tt)

    abbrev Tokens : SProp 𝓤
    Tokens = sep 𝓤 (A.lft κ q) (sep 𝓤 (A.lft ρ s) (emp 𝓤))

    -- what is lent is the inner allocator
    abbrev pub IsInner : Option (Bor Z.row.Denot) → Type 0
    IsInner o = IfSome o (λ h. h.now ≡ r.now.inner)

    pub Grants-goes : ρ ⊑ Z.row.lives → ent 𝓤 (sep 𝓤 (sem 𝓛 (hidden_shr (refusing.the_row (param 0 Z.row)) κ r.now r.ref_ptr.0 r.ref_ptr.1)) Tokens) (Grants.pre at_grants)
    Grants-goes le = qed 𝓛 (‵ (hidden_shr (refusing.the_row (param 0 Z.row)) κ r.now r.ref_ptr.0 r.ref_ptr.1) ∷ raw Tokens ∷ []) ∵
        feq_i ! (List Val) (shr_vals r) (shr_vals r) refl $ fjoin ! $ nothing ! $ move ! (1 ∷ 0 ∷ []) $ fjoin ! $ move ! (1 ∷ 0 ∷ []) $ join ! $
        nothing ! $ use0 𝓛 (raw (fact 𝓤 (ρ ⊑ Z.row.lives))) (fact_i 𝓤 (ρ ⊑ Z.row.lives) (emp 𝓤) le) $ join ! $ move ! (1 ∷ 0 ∷ []) $ done !

    opened : (o : Option (Bor Z.row.Denot)) (v : Val) → ent 𝓤 (sem 𝓛 ((Lent Z κ).own_val o (v ∷ []))) (guard 𝓤 (v ≡ machine_value o) (sem 𝓛 (seen_if_lent Z κ o)))
    opened (Some b) v = qed 𝓛 (‵ ((Lent Z κ).own_val (Some b) (v ∷ [])) ∷ []) ∵ fpick ! (λ us. fsplit ! $ feq_l ! (λ e. fpick ! (λ vss. fsplit ! $ feq_l ! (λ e'. fsplit ! $ fsplit ! $ feq_l ! (λ e''.
        check ! (ap only e ∙ ap (λ (ws : List Val). live 1 (of_list ws)) (e' ∙ ap (λ (ws : List Val). ws ++ []) e'')) $ keep ! (0 ∷ []) $ done !)))))
    opened None v = qed 𝓛 (‵ ((Lent Z κ).own_val None (v ∷ [])) ∷ []) ∵ fpick ! (λ us. fsplit ! $ feq_l ! (λ e. fpick ! (λ vss. fsplit ! $ feq_l ! (λ e'.
        check ! (ap only e ∙ ap (λ (ws : List Val). live 0 (of_list ws)) e') $ done !))))

    abbrev pub Got : Val → Option (Bor Z.row.Denot) → SProp 𝓤
    Got v o = guard 𝓤 ((v ≡ machine_value o) × IsInner o) (sep 𝓤 (sem 𝓛 (seen_if_lent Z κ o)) Tokens)

    pub Grants-gives : (v : Val) → ent 𝓤 (Grants.post at_grants v) (H.⇛ (ex 𝓤 (Got v)))
    Grants-gives v = qed 𝓛 (raw (Grants.post at_grants v) ∷ []) ∵ updating ! $
        use1 𝓛 (later (some (λ (o : Option (Bor Z.row.Denot)). (raw Tokens ⊛ ‵ ((Lent Z κ).own_val o (v ∷ []))) ⊛ some (λ (ws : Unit {0} × Unit {0}). ‵ (fsep ftrue ftrue) ⊛ given (IsInner o) (‵ ftrue))))) (id⊢ 𝓤 _) $ await ! tt $ pick ! (λ o.
        split ! $ split ! $ move ! (1 ∷ []) $ use1 𝓛 (given (v ≡ machine_value o) (‵ (seen_if_lent Z κ o))) (opened o v) $ learn ! (λ e. move ! (2 ∷ []) $ pick ! (λ ws. split ! $ move ! (1 ∷ []) $ learn ! (λ k.
        at_once ! $ show ! (Got v) o $ check ! (e, k) $ keep ! (2 ∷ 3 ∷ []) $ done !))))
