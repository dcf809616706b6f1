-- The connections of the console's clients, as the moments at which they end, in milliseconds.
use Rattle.std.specs.Prelude.{◌≡◌, ℕ, ◌+◌, ◌-◌, ◌^◌, ◌<◌, ◌≤◌, All, Bool, true, false, Contains, List, [], ◌∷◌, ◌++◌, length, min}
use Rattle.http.specs.declared.request.Request.{Request}
use Rattle.http_server.specs.Exchange.{Call, Chain}
use Rattle.http_server.specs.declared.response.Response.{Response}

-- A connection that began at this moment is taken where there are fewer than 32. It ends 10 seconds later.
abbrev pub Admits : List ℕ → ℕ → Bool → List ℕ → Type 0
Admits old moment true new = (length old < 32) × (new ≡ old ++ min (moment + 10_000) (2 ^ 64 - 1) ∷ [])
Admits old moment false new = (length old ≡ 32) × (new ≡ old)

-- Some of the connections are kept, and none that has come to its end.
pub record KeepsYoung (old : List ℕ) (moment : ℕ) (new : List ℕ) : Type 0 where
  pub fewer : length new ≤ length old
  pub kept : All (Contains old) new
  pub young : All (λ ends. moment < ends) new

-- What a service went through is a run of answers to requests, each from the state that the one before left.
pub record IsAnswered {S : Type 0} (answers : S → Request (List ℕ) → Response → S → Type 0) (old new : S) : Type 0 where
  pub calls : List Call
  pub chain : Chain answers old calls new
