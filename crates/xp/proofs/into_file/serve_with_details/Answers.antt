use Rattle.std.proofs.Common.{◌≡◌, IfSome, Result, ap, inl, inr, subst, sym, ◌∙◌}
use Rattle.xp_cdr.specs.declared.run.ExchangeRun.{ExchangeRun}
use Rattle.xp_keeping.specs.Details.{AreKept, GoesOnAs, Keeping, first_keeping}
use Rattle.xp_keeping.specs.Queued.{AreKeptBeside, KeepsBeside, Queued, first_queued}
use Rattle.xp_keeping.specs.declared.keep_fault.KeepFault.TheVariants.{Details}
use Rattle.xp_serve.specs.LeftAlone.{LeavesAlone, ServesIntoFile}
use Rattle.xp_serve.specs.Serving.{Serves}
use Rattle.xp_listening.specs.declared.failure.ServeFailure.{ServeFailure}
use Rattle.xp_subs.specs.Tables.{Tables}
use Rattle.xp.proofs.into_file.serve_with_details.Goals as goal

-- the keeper that comes back began with the subscriptions of the exchange
opened : (own : Tables) (before after : Queued Keeping) (result : Result (Unit {0}) ServeFailure)
    → Serves (AreKeptBeside AreKept GoesOnAs) KeepsBeside own before after result → before.opening ≡ own → after.opening ≡ own
opened own before after result (inl unserved) is = ap (λ (queued : Queued Keeping). queued.opening) unserved.0 ∙ is
opened own before after result (inr served) is = served.2.keeps_on.opening ∙ is

first_opened : (own names : Tables) (keeping : Keeping) (started : Queued Keeping) → names ≡ own → started ≡ first_queued names keeping Details → started.opening ≡ own
first_opened own names keeping started same made = ap (λ (queued : Queued Keeping). queued.opening) made ∙ same

-- and so did the one with which serving began
into_file : (own names : Tables) (run : ExchangeRun) (keeping : Keeping) (started after : Queued Keeping) (result : Result (Unit {0}) ServeFailure)
    → names ≡ own → keeping ≡ first_keeping run → started ≡ first_queued names keeping Details
    → Serves (AreKeptBeside AreKept GoesOnAs) KeepsBeside own started after result → ServesIntoFile after.opening run after result
into_file own names run keeping started after result same made begun serves =
    let is : started ≡ first_queued own (first_keeping run) Details =
    begun ∙ ap (λ tables. first_queued tables keeping Details) same ∙ ap (λ one. first_queued own one Details) made in
    subst (λ tables. ServesIntoFile tables run after result) (sym (opened own started after result serves (first_opened own names keeping started same begun)))
    (subst (λ one. Serves (AreKeptBeside AreKept GoesOnAs) KeepsBeside own one after result) is serves)

pub settle-requires : goal.settle-requires
settle-requires g c =
    let parts = c.into_parts-own in
    into_file parts.result.0 parts.result.1 c.into_parts-file.result.1 c.new-keeper.result c.in_ok-keeper.keeper c.in_ok-end.end.keeper c.in_ok-end.end.outcome
    (parts.ensures.names ∙ c.requires.names ∙ sym parts.ensures.own) (c.new-keeper.ensures ∙ ap first_keeping c.copy.ensures) c.in_ok-keeper.ensures c.in_ok-end.ensures

pub returns-clause-ok : goal.returns-clause-ok
returns-clause-ok g c =
    let before = g.W.Write.contents c.args.output.now in
    let after = g.W.Write.contents c.settle.new.output in
    let parts = c.into_parts-own in
    let keeper = c.in_ok-end.end.keeper in
    let same = parts.ensures.names ∙ c.requires.names ∙ sym parts.ensures.own in
    let began = first_opened parts.result.0 parts.result.1 c.new-keeper.result c.in_ok-keeper.keeper same c.in_ok-keeper.ensures in
    let is = opened parts.result.0 c.in_ok-keeper.keeper keeper c.in_ok-end.end.outcome c.in_ok-end.ensures began in (
      keeper,
      subst (λ run. LeavesAlone c.args.subs.own run keeper before after c.settle.result) c.into_parts-file.ensures.run
          (subst (λ tables. LeavesAlone tables c.into_parts-file.result.1 keeper before after c.settle.result) (is ∙ parts.ensures.own) c.settle.ensures),
    )

-- the live calls are those of the same exchange, too
pub attend_details-requires-clause-live : goal.attend_details-requires-clause-live
attend_details-requires-clause-live g c _ _ =
    subst (λ own. IfSome c.in_ok-beside.beside.live (λ live. live.opening ≡ own)) (c.into_parts-own.ensures.live ∙ c.requires.live ∙ sym c.into_parts-own.ensures.own) c.in_ok-beside.ensures
