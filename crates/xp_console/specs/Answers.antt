-- How a service answers over a source of the exchange's status.
use Rattle.std.specs.Prelude.{◌≡◌, ◌⊎◌, ℕ, codes, List, [], ◌∷◌, ◌++◌, string_bytes, ⊤}
use Rattle.std.specs.declared.net.ip_addr.IpAddr.{IpAddr}
use Rattle.http.specs.declared.request.Parts.{Parts}
use Rattle.http_server.specs.Response.{IsResponse}
use Rattle.http_server.specs.declared.response.Response.{Response}
use Rattle.xp_console.specs.Json.{json_text}
use Rattle.xp_console.specs.Metrics.{metrics_text}
use Rattle.xp_console.specs.Page.{page_text}
use Rattle.xp_console.specs.Requests.{IsAnswer}
use Rattle.xp_console.specs.Responses.{IsUnavailable, Says, fields_for}
use Rattle.xp_console.specs.declared.requests.Answer.{Answer}
use Rattle.xp_console.specs.declared.requests.Answer.TheVariants.{Forbidden, Granted, HasBody, Misdirected, NotFound, WrongMethod}
use Rattle.xp_console.specs.declared.requests.Format.{Format}
use Rattle.xp_console.specs.declared.requests.Format.TheVariants as In
use Rattle.xp_console.specs.declared.reload.ReloadAnswer.{ReloadAnswer}
use Rattle.xp_console.specs.declared.reload.ReloadAnswer.TheVariants.{Busy, Done, Refused}
use Rattle.xp_console.specs.declared.requests.Resource.{Resource}
use Rattle.xp_console.specs.declared.requests.Resource.TheVariants.{Health, Page, Reload, Status, Stop}
use Rattle.xp_console.specs.declared.responses.Kind.{Kind}
use Rattle.xp_console.specs.declared.responses.Kind.TheVariants as Kinds
use Rattle.xp_console.specs.declared.status.ExchangeStatus.{ExchangeStatus}

-- the methods of a resource
abbrev pub methods_text : Resource → List ℕ
methods_text Stop = codes "POST"
methods_text Reload = codes "POST"
methods_text _ = codes "GET, HEAD"

-- the kind of a format
abbrev pub kind_of : Format → Kind
kind_of In.Json = Kinds.Json
kind_of In.Text = Kinds.Text
kind_of In.Metrics = Kinds.Metrics

-- the text is that of the status in this format; that for a terminal may be any
abbrev pub IsTextOf : Format → ExchangeStatus → List ℕ → Type 0
IsTextOf In.Json status text = text ≡ json_text status
IsTextOf In.Text status text = ⊤
IsTextOf In.Metrics status text = text ≡ metrics_text status

-- the response has the text of this status, or memory is wanting
abbrev pub Tells : Format → ExchangeStatus → Response → Type 0
Tells format status response =
    IsUnavailable response
    ⊎ ((text : List ℕ) × IsTextOf format status text × IsResponse 200 (fields_for (kind_of format)) text response)

-- The response has the text of the status that the source has shown, or memory is wanting.
abbrev pub Shows : {S : Type 0} → (S → ExchangeStatus → S → Type 0) → Format → S → Response → S → Type 0
Shows shows format old response new =
    (IsUnavailable response × (new ≡ old))
    ⊎ ((status : ExchangeStatus) × shows old status new × Tells format status response)

-- The stop is taken, or memory is wanting, and it is not.
abbrev pub Stops : {S : Type 0} → (S → S → Type 0) → S → Response → S → Type 0
Stops stops old response new =
    (IsUnavailable response × (new ≡ old))
    ⊎ (IsResponse 202 (fields_for Kinds.Text) (codes "stopping\n") response × stops old new)

-- what a reload is answered, as a line; or memory is wanting
abbrev pub TellsReload : ReloadAnswer → Response → Type 0
TellsReload (Done text) response = Says 200 Kinds.Text [] (string_bytes text ++ codes "\n") response
TellsReload (Refused text) response = Says 409 Kinds.Text [] (string_bytes text ++ codes "\n") response
TellsReload Busy response = Says 503 Kinds.Text ((codes "retry-after", codes "10") ∷ []) (codes "busy\n") response

-- The source was asked for a reload, and the response tells its answer.
abbrev pub Reloads : {S : Type 0} → (S → ReloadAnswer → S → Type 0) → S → Response → S → Type 0
Reloads reloads old response new = (answer : ReloadAnswer) × reloads old answer new × TellsReload answer response

-- The response of a granted resource. `shows` and `stops` tell what the source may show, and what a stop makes of it, and `reloads`
-- what it may answer to a reload.
abbrev pub Grants : {S : Type 0} → (S → ExchangeStatus → S → Type 0) → (S → S → Type 0) → (S → ReloadAnswer → S → Type 0) → Resource → S → Response → S → Type 0
Grants shows stops reloads Page old response new = Says 200 Kinds.Html [] page_text response × (new ≡ old)
Grants shows stops reloads Health old response new = Says 200 Kinds.Text [] (codes "ok\n") response × (new ≡ old)
Grants shows stops reloads (Status format) old response new = Shows shows format old response new
Grants shows stops reloads Stop old response new = Stops stops old response new
Grants shows stops reloads Reload old response new = Reloads reloads old response new

-- why a resource is refused that lacks its header
abbrev pub lacks_text : Resource → List ℕ
lacks_text Reload = codes "a reload needs the header X-Gonukire: reload\n"
lacks_text _ = codes "a stop needs the header X-Gonukire: stop\n"

-- The response of an answer. Nothing but a granted resource asks anything of the source.
abbrev pub Responds : {S : Type 0} → (S → ExchangeStatus → S → Type 0) → (S → S → Type 0) → (S → ReloadAnswer → S → Type 0) → Answer → S → Response → S → Type 0
Responds shows stops reloads (Granted resource) old response new = Grants shows stops reloads resource old response new
Responds shows stops reloads Misdirected old response new =
    Says 421 Kinds.Text [] (codes "not addressed to this console\n") response × (new ≡ old)
Responds shows stops reloads NotFound old response new = Says 404 Kinds.Text [] (codes "not found\n") response × (new ≡ old)
Responds shows stops reloads (WrongMethod resource) old response new =
    Says 405 Kinds.Text ((codes "allow", methods_text resource) ∷ []) (codes "wrong method\n") response × (new ≡ old)
Responds shows stops reloads (Forbidden resource) old response new = Says 403 Kinds.Text [] (lacks_text resource) response × (new ≡ old)
Responds shows stops reloads HasBody old response new = Says 400 Kinds.Text [] (codes "a reload has no body\n") response × (new ≡ old)

-- What a console with this address does with a request of this head and this body: it responds with an answer that the request has.
abbrev pub Serves : {S : Type 0} → (S → ExchangeStatus → S → Type 0) → (S → S → Type 0) → (S → ReloadAnswer → S → Type 0) → IpAddr → Parts → List ℕ → S → Response → S → Type 0
Serves shows stops reloads own head body old response new =
    (answer : Answer) × IsAnswer own head body answer × Responds shows stops reloads answer old response new
