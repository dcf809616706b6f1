-- What is told of what was served.
use Rattle.std.proofs.Common.{◌≡◌, ◌↔◌, ℕ, ◌<◌, List, IfSome, Option, Some, None, Result, Err, Ok, ap, inl, inr, length, subst, sym, zero-add, ◌∙◌}
use Rattle.xp_cdr.specs.declared.ended.EndedCall.{EndedCall}
use Rattle.xp_serve.proofs.EarlyEnds.{early_within}
use Rattle.xp_step.specs.InForce.{in_force}
use Rattle.xp_serve.specs.Ends.{failure_by}
use Rattle.xp_listening.specs.Failures.{failure_to_keep}
use Rattle.xp_listening.specs.Hosts.{IsNoHost}
use Rattle.xp_serve.specs.Served.{IsServed}
use Rattle.xp_serve.specs.Serving.{Serves, outcome, told}
use Rattle.xp_serve.specs.declared.ends.EarlyEndCause.{EarlyEndCause}
use Rattle.xp_serve.specs.declared.ends.EarlyEndCause.TheVariants as causes
use Rattle.xp_serve.specs.declared.ends.EarlyEnd.{EarlyEnd}
use Rattle.xp_listening.specs.declared.failure.ServeFailure.{ServeFailure}
use Rattle.xp_listening.specs.declared.failure.ServeFailure.TheVariants.{Host, Memory}
use Rattle.xp_keeping.specs.declared.keep_fault.KeepFault.{KeepFault}
use Rattle.xp_keeping.specs.declared.keep_fault.KeepFault.TheVariants as faults
use Rattle.xp_serve.specs.declared.served.Served.{Served}
use Rattle.xp_subs.specs.Tables.{Tables, line_count}

-- the line that ended before its time is one of the lines
pub early_line : (tables : Tables) (served : Served) → IsServed tables served → IfSome served.early_end (λ early_end. early_end.line < line_count served.book.subs)
early_line tables served is =
    subst (λ found. IfSome found (λ early_end. early_end.line < line_count served.book.subs)) (sym is.first)
    (early_within 0 (line_count served.book.subs) served.end_reasons.items (zero-add (length served.end_reasons.items) ∙ is.each_ended ∙ ap line_count (sym is.subs)))

no_host_failed : (tables : Tables) (line : ℕ) (cause : EarlyEndCause) → failure_by tables line cause ≡ Host → ⊥
no_host_failed tables line causes.Journal same = cc
no_host_failed tables line causes.Port same = cc
no_host_failed tables line causes.Thread same = cc

no_host_ended : (tables : Tables) (early_end : Option EarlyEnd) → Err Host ≡ outcome tables early_end → ⊥
no_host_ended tables None same = cc
no_host_ended tables (Some early_end) same = no_host_failed tables early_end.line early_end.cause (cc)

-- a failure that is told
abbrev pub failed : ServeFailure → Result (Unit {0}) ServeFailure
failed failure = Err failure

-- where sockets were had, none is told
pub no_sockets : {S : Type 0} (result : Result S ServeFailure) (sockets : S) → result ≡ Ok sockets → result ≡ Err Host → ⊥
no_sockets result sockets had none = cc

-- where none were had, what is told is why
pub same_told : {S : Type 0} (result : Result S ServeFailure) (failure : ServeFailure) → result ≡ Err failure → result ≡ Err Host → failed failure ≡ failed Host
same_told result failure is none =
    let same : failure ≡ Host = cc in
    ap failed same

no_host_kept : (fault : KeepFault) → failed Host ≡ failed (failure_to_keep fault) → ⊥
no_host_kept faults.Memory same = cc
no_host_kept faults.Output same = cc
no_host_kept faults.Details same = cc

no_host_told : (tables : Tables) (early_end : Option EarlyEnd) (keeping : Result (Unit {0}) KeepFault) → failed Host ≡ told tables early_end keeping → ⊥
no_host_told tables early_end (Ok done) same = no_host_ended tables early_end same
no_host_told tables early_end (Err fault) same = no_host_kept fault same

module _ {K : Type 0} (kept : K → List EndedCall → Result (Unit {0}) KeepFault → Type 0) (keeps : K → K → Type 0) where
  -- no line was served for want of memory
  pub wants_memory : (tables : Tables) (before after : K) → after ≡ before → Serves kept keeps tables before after (Err Memory)
  wants_memory tables before after same = inl (same, tt)

  -- a host that is told is no address
  told_of_host : (tables : Tables) (before after : K) → Serves kept keeps tables before after (Err Host) → IsNoHost tables.host
  told_of_host tables before after (inl unserved) = unserved.1
  told_of_host tables before after (inr served) = absurd (no_host_told (in_force served.0.book.subs served.0.book.history) served.0.early_end served.2.keeping served.2.told_is)

  -- a host is told exactly where it is no address
  pub host_told : (tables : Tables) (before after : K) (result : Result (Unit {0}) ServeFailure)
      → (IsNoHost tables.host → result ≡ Err Host) → Serves kept keeps tables before after result → (result ≡ Err Host) ↔ IsNoHost tables.host
  host_told tables before after result none served = (λ same. told_of_host tables before after (subst (Serves kept keeps tables before after) same served), none)
