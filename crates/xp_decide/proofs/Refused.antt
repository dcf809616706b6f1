-- Which refusals there are, and that those for want of a line come from an address without an idle line.
use Rattle.std.proofs.Common.{◌≡◌, ℕ, Err, ◌⊎◌, inl, inr, refl, sym, ◌∙◌, ap, subst, lit<}
use Rattle.std.specs.Prelude.{Contains}
use Rattle.xp_causes.specs.Refusals.{call_refusals}
use Rattle.xp_causes.specs.declared.clearing_cause.TheConstants as causes
use Rattle.xp_causes.specs.declared.refusal.Refusal.{Refusal}
use Rattle.xp_causes.specs.declared.refusal.TheConstants.Refusal.{FACILITY_LENGTH, FACILITY_NOT_ALLOWED, FACILITY_PARAMETER, USER_DATA_TOO_LONG, ACCESS_BARRED, GROUP_NOT_KNOWN, ADDRESS_NOT_KNOWN, INCOMING_CALLS_BARRED, REVERSE_CHARGING_NOT_ACCEPTED, FAST_SELECT_NOT_ACCEPTED, OUT_OF_ORDER, NUMBER_BUSY, TOO_MANY_REDIRECTIONS}
use Rattle.xp_groups.proofs.Refused.{IsGroupRefusal, intent_refusal, admission_refusal}
use Rattle.xp_hunt.specs.Picks.{HasNoneIdle}
use Rattle.xp_hunt.specs.declared.lines.LineState.{LineState}
use Rattle.xp_packets.specs.declared.block.Block.{Block}
use Rattle.xp_subs.specs.Tables.{Tables}
use Rattle.xp_subs.specs.declared.station.Station.{Station}
use Rattle.xp_decide.proofs.Lines.{off_none_idle}
use Rattle.xp_decide.specs.Accepts.{Declines}
use Rattle.xp_decide.specs.Accepts as accepts
use Rattle.xp_decide.specs.Asks.{Asks, MayNotAsk, wanted_of}
use Rattle.xp_decide.specs.Asks as asks
use Rattle.xp_decide.specs.Decided.{Decided}
use Rattle.xp_decide.specs.Decided as decided
use Rattle.xp_decide.specs.Laws.{IsWantOfLine, EndsWithoutLine}
use Rattle.xp_decide.specs.Routes.{Place, Refuses, Reaches}
use Rattle.xp_decide.specs.Routes as routes
use Rattle.xp_decide.specs.LinesForCaller.{state_for_caller}
use Rattle.xp_decide.specs.declared.acceptance.Wanted.{Wanted}
use Rattle.xp_decide.specs.declared.request.Request.{Request}
use Rattle.xp_decide.specs.declared.verdict.Verdict.TheVariants.{Refuse}

-- a refusal for another reason than want of a line
record IsOther (refusal : Refusal) : Type 0 where
  known : Contains call_refusals refusal
  no_want : IsWantOfLine refusal → ⊥

named : (refusal name : Refusal) → refusal ≡ name → Contains call_refusals name
    → (name.cause ≡ causes.OUT_OF_ORDER → ⊥) → (name.cause ≡ causes.NUMBER_BUSY → ⊥) → IsOther refusal
named refusal name is at not_off not_busy = record { known = subst (Contains call_refusals) (sym is) at; no_want = never }
  where
    never : IsWantOfLine refusal → ⊥
    never (inl off) = not_off (ap (λ (r : Refusal). r.cause) (sym is ∙ off))
    never (inr busy) = not_busy (ap (λ (r : Refusal). r.cause) (sym is ∙ busy))

by_groups : (refusal : Refusal) → IsGroupRefusal refusal → IsOther refusal
by_groups refusal (inl is) = named refusal ACCESS_BARRED is (4, lit< tt, refl) (λ h. cc) (λ h. cc)
by_groups refusal (inr (inl is)) = named refusal GROUP_NOT_KNOWN is (5, lit< tt, refl) (λ h. cc) (λ h. cc)
by_groups refusal (inr (inr is)) = named refusal FACILITY_NOT_ALLOWED is (1, lit< tt, refl) (λ h. cc) (λ h. cc)

declined : (wanted : Wanted) (station : Station) (refusal : Refusal) → Declines wanted station refusal → IsOther refusal
declined wanted station refusal (accepts.incoming_barred _ is) = named refusal INCOMING_CALLS_BARRED is (7, lit< tt, refl) (λ h. cc) (λ h. cc)
declined wanted station refusal (accepts.not_admitted _ not_admitted) = by_groups refusal (admission_refusal _ _ _ not_admitted)
declined wanted station refusal (accepts.reverse_charging _ _ _ _ _ is) = named refusal REVERSE_CHARGING_NOT_ACCEPTED is (8, lit< tt, refl) (λ h. cc) (λ h. cc)
declined wanted station refusal (accepts.fast_select _ _ _ _ _ _ is) = named refusal FAST_SELECT_NOT_ACCEPTED is (9, lit< tt, refl) (λ h. cc) (λ h. cc)

module _ {A : Type 0} (tables : Tables) (states : ℕ → LineState) (from : ℕ) (block : Block A) (refusal : Refusal) where
  not_asked : MayNotAsk tables from block refusal → IsOther refusal
  not_asked (asks.facility_length _ is) = named refusal FACILITY_LENGTH is (0, lit< tt, refl) (λ h. cc) (λ h. cc)
  not_asked (asks.facility_code _ is) = named refusal FACILITY_NOT_ALLOWED is (1, lit< tt, refl) (λ h. cc) (λ h. cc)
  not_asked (asks.facility_parameter _ is) = named refusal FACILITY_PARAMETER is (2, lit< tt, refl) (λ h. cc) (λ h. cc)
  not_asked (asks.window _ _ _ is) = named refusal FACILITY_PARAMETER is (2, lit< tt, refl) (λ h. cc) (λ h. cc)
  not_asked (asks.user_data _ _ _ _ is) = named refusal USER_DATA_TOO_LONG is (3, lit< tt, refl) (λ h. cc) (λ h. cc)
  not_asked (asks.outgoing_barred _ _ _ _ _ is) = named refusal ACCESS_BARRED is (4, lit< tt, refl) (λ h. cc) (λ h. cc)
  not_asked (asks.not_intended _ _ _ _ _ intends) = by_groups refusal (intent_refusal _ _ _ intends)

  -- a refusal for want of a line is known too, and no line is idle
  record IsWithoutLine : Type 0 where
    known : Contains call_refusals refusal
    ends : EndsWithoutLine tables states from block

  want : (name : Refusal) → refusal ≡ name → Contains call_refusals name → EndsWithoutLine tables states from block → IsWithoutLine
  want name is at ends = record { known = subst (Contains call_refusals) (sym is) at; ends = ends }

  at_place : (place : Place) → (HasNoneIdle (state_for_caller from states) place.lines → EndsWithoutLine tables states from block)
      → (wanted : Wanted) → Refuses (state_for_caller from states) wanted place refusal → IsOther refusal ⊎ IsWithoutLine
  at_place place ends wanted (routes.declined declines) = inl (declined wanted place.station refusal declines)
  at_place place ends wanted (routes.all_off _ _ off is) =
      inr (want OUT_OF_ORDER is (10, lit< tt, refl) (ends (off_none_idle (state_for_caller from states) place.lines off)))
  at_place place ends wanted (routes.none_idle _ _ none_idle _ is) =
      inr (want NUMBER_BUSY is (11, lit< tt, refl) (ends none_idle))

  on_way : (request : Request A) → Asks tables from block request
      → Reaches tables (state_for_caller from states) (wanted_of request) block.called (Err refusal)
      → IsOther refusal ⊎ IsWithoutLine
  on_way request asked (routes.taken _ _ _ _ _ _ _ _ e) = cc
  on_way request asked (routes.refused hops last told follows _ _ (routes.not_known _ is) e) =
      let same : refusal ≡ told = cc in
      inl (named refusal ADDRESS_NOT_KNOWN (same ∙ is) (6, lit< tt, refl) (λ h. cc) (λ h. cc))
  on_way request asked (routes.refused hops last told follows few ends (routes.refused place known refuses) e) =
      let same : told ≡ refusal = cc in
      let P : Refusal → Type 0 = λ r. Refuses (state_for_caller from states) (wanted_of request) place r in
      at_place place
      (λ none_idle. record {
        request = request;
        asked = asked;
        hops = hops;
        last = last;
        follows = follows;
        few = few;
        ends = ends;
        place = place;
        known = known;
        none_idle = none_idle;
      })
      (wanted_of request) (subst P same refuses)
  on_way request asked (routes.too_many _ _ _ _ e) =
      let same : refusal ≡ TOO_MANY_REDIRECTIONS = cc in
      inl (named refusal TOO_MANY_REDIRECTIONS same (12, lit< tt, refl) (λ h. cc) (λ h. cc))

  by_reason : Decided tables states from block (Refuse refusal) → IsOther refusal ⊎ IsWithoutLine
  by_reason (decided.not_asked told may_not e) =
      let same : told ≡ refusal = cc in inl (not_asked (subst (MayNotAsk tables from block) same may_not))
  by_reason (decided.not_reached request told asked way e) =
      let same : told ≡ refusal = cc in
      let P : Refusal → Type 0 = λ r. Reaches tables (state_for_caller from states) (wanted_of request) block.called (Err r) in
      on_way request asked (subst P same way)
  by_reason (decided.reached _ _ _ _ e) = cc

  pub refusal_known : Decided tables states from block (Refuse refusal) → Contains call_refusals refusal
  refusal_known refused = elim (by_reason refused) [ inl other ↦ other.known | inr without ↦ without.known ]

  pub ends_without_line : Decided tables states from block (Refuse refusal) → IsWantOfLine refusal → EndsWithoutLine tables states from block
  ends_without_line refused wants = elim (by_reason refused) [ inl other ↦ absurd (other.no_want wants) | inr without ↦ without.ends ]
