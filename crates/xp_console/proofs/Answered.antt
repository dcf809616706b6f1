-- Runs of answers, one after another.
use Rattle.std.proofs.Common.{ℕ, List, [], ◌∷◌, ◌++◌, refl, subst}
use Rattle.http.specs.declared.request.Request.{Request}
use Rattle.http_server.specs.Exchange.{Call, Chain}
use Rattle.http_server.specs.declared.response.Response.{Response}
use Rattle.xp_console.specs.Clients.{IsAnswered}

chain_then : {S : Type 0} (answers : S → Request (List ℕ) → Response → S → Type 0) (old mid new : S) (calls later : List Call) → Chain answers old calls mid → Chain answers mid later new → Chain answers old (calls ++ later) new
chain_then answers old mid new [] later h k = subst (λ s. Chain answers s later new) h k
chain_then answers old mid new (call ∷ calls) later h k = (h.0, h.1, chain_then answers h.0 mid new calls later h.2 k)

-- no answer yet
pub none_answered : {S : Type 0} (answers : S → Request (List ℕ) → Response → S → Type 0) (old : S) → IsAnswered answers old old
none_answered answers old = record { calls = []; chain = refl }

pub answered_then : {S : Type 0} (answers : S → Request (List ℕ) → Response → S → Type 0) (old mid new : S) → IsAnswered answers old mid → IsAnswered answers mid new → IsAnswered answers old new
answered_then answers old mid new h k = record {
  calls = h.calls ++ k.calls;
  chain = chain_then answers old mid new h.calls k.calls h.chain k.chain;
}
