-- The responses of the console.
use Rattle.std.specs.Prelude.{◌⊎◌, ℕ, codes, List, [], ◌∷◌, ◌++◌}
use Rattle.http1.specs.Fields.{Header}
use Rattle.http_server.specs.Response.{IsResponse}
use Rattle.http_server.specs.declared.response.Response.{Response}
use Rattle.xp_console.specs.declared.responses.Kind.{Kind}
use Rattle.xp_console.specs.declared.responses.Kind.TheVariants.{Html, Json, Metrics, Text}

-- what a body is, as its `content-type` says
abbrev pub type_text : Kind → List ℕ
type_text Html = codes "text/html; charset=utf-8"
type_text Json = codes "application/json"
type_text Text = codes "text/plain; charset=utf-8"
type_text Metrics = codes "text/plain; version=0.0.4; charset=utf-8"

-- what a browser may load and do for the page: nothing but what stands in the page itself, and what it asks of the console
abbrev pub policy : List ℕ
policy = codes "default-src 'none'; style-src 'unsafe-inline'; script-src 'unsafe-inline'; connect-src 'self'; base-uri 'none'; form-action 'none'; frame-ancestors 'none'"

-- the fields of each response: it is kept nowhere, is nothing else than it says, and ends its connection
abbrev pub fields_for : Kind → List Header
fields_for kind =
    (codes "content-type", type_text kind)
    ∷ (codes "cache-control", codes "no-store")
    ∷ (codes "x-content-type-options", codes "nosniff")
    ∷ (codes "content-security-policy", policy)
    ∷ (codes "connection", codes "close")
    ∷ []

-- memory is wanting
abbrev pub IsUnavailable : Response → Type 0
IsUnavailable = IsResponse 503 [] []

-- the response has this status, fields for a body of this kind, more fields, and this body; or memory is wanting
abbrev pub Says : ℕ → Kind → List Header → List ℕ → Response → Type 0
Says code kind more body response =
    IsUnavailable response ⊎ IsResponse code (fields_for kind ++ more) body response
