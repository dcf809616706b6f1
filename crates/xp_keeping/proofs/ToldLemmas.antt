-- Calls that are told by subscriptions, some after the others.
use Rattle.std.proofs.Common.{◌≡◌, List, [], ◌∷◌, ◌++◌, ap, append-nil, append_assoc, refl, sym, ◌∙◌}
use Rattle.std.proofs.lemmas.List.Elements.{All-nil, All-push}
use Rattle.xp_cdr.specs.Ended.{IsNamedBy}
use Rattle.xp_cdr.specs.declared.ended.EndedCall.{EndedCall}
use Rattle.xp_keeping.specs.Told.{AreToldInTurn}
use Rattle.xp_subs.specs.Tables.{Tables}

-- one call more is told by the last
pub one_more : (earlier : List Tables) (last : Tables) (calls : List EndedCall) (call : EndedCall) → IsNamedBy last call
    → AreToldInTurn (earlier ++ last ∷ []) calls → AreToldInTurn (earlier ++ last ∷ []) (calls ++ call ∷ [])
one_more [] last calls call is told =
    let own = told.0 in
    let all : calls ≡ own = told.2 ∙ ap (λ rest. own ++ rest) told.4 ∙ append-nil own in
    (own ++ call ∷ [], [], ap (λ front. front ++ call ∷ []) all ∙ sym (append-nil (own ++ call ∷ [])), All-push (IsNamedBy last) own call told.3 is, refl)
one_more (tables ∷ earlier) last calls call is told = (
  told.0,
  told.1 ++ call ∷ [],
  ap (λ all. all ++ call ∷ []) told.2 ∙ append_assoc told.0 told.1 (call ∷ []),
  told.3,
  one_more earlier last told.1 call is told.4,
)

-- others follow, by which none is told yet
pub renamed : (named : List Tables) (next : Tables) (calls : List EndedCall) → AreToldInTurn named calls → AreToldInTurn (named ++ next ∷ []) calls
renamed [] next calls none = ([], [], none, All-nil (IsNamedBy next), refl)
renamed (tables ∷ named) next calls told = (told.0, told.1, told.2, told.3, renamed named next told.1 told.4)
