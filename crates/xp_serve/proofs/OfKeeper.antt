-- What serving comes to for a keeper beside which something is looked at.
use Rattle.std.proofs.Common.{List, Result, ap, inl, inr}
use Rattle.xp_cdr.specs.declared.ended.EndedCall.{EndedCall}
use Rattle.xp_keeping.specs.declared.keep_fault.KeepFault.{KeepFault}
use Rattle.xp_serve.specs.Serving.{Serves}
use Rattle.xp_listening.specs.declared.failure.ServeFailure.{ServeFailure}
use Rattle.xp_subs.specs.Tables.{Tables}

pub serves_keeper : {A K : Type 0} (before after : A) (keeper : A → K) (kept : K → List EndedCall → Result (Unit {0}) KeepFault → Type 0) (keeps : K → K → Type 0)
    (tables : Tables) (result : Result (Unit {0}) ServeFailure)
    → Serves (λ one. kept (keeper one)) (λ one other. keeps (keeper one) (keeper other)) tables before after result
    → Serves kept keeps tables (keeper before) (keeper after) result
serves_keeper before after keeper kept keeps tables result (inl unserved) = inl (ap keeper unserved.0, unserved.1)
serves_keeper before after keeper kept keeps tables result (inr served) = inr (
  served.0,
  served.1,
  record {
    one_each = served.2.one_each;
    keeping = served.2.keeping;
    kept_is = served.2.kept_is;
    keeps_on = served.2.keeps_on;
    told_is = served.2.told_is;
  },
)
