-- Which request gets which answer.
use Rattle.std.specs.Prelude.{◌≡◌, ◌≢◌, ◌⊎◌, ℕ, codes, List, [], None, Option, Some, ⊤}
use Rattle.std.specs.declared.net.ip_addr.IpAddr.{IpAddr}
use Rattle.http.specs.declared.request.Parts.{Parts}
use Rattle.http_header.specs.FieldValue.{FieldValue}
use Rattle.http_header.specs.HeaderMap.{get}
use Rattle.http_uri.specs.Uri.{uri_authority, uri_path}
use Rattle.xp_console.specs.Hosts.{NamesConsole}
use Rattle.xp_console.specs.declared.requests.Answer.{Answer}
use Rattle.xp_console.specs.declared.requests.Answer.TheVariants.{Forbidden, Granted, HasBody, Misdirected, NotFound, WrongMethod}
use Rattle.xp_console.specs.declared.requests.Format.TheVariants as In
use Rattle.xp_console.specs.declared.requests.Resource.{Resource}
use Rattle.xp_console.specs.declared.requests.Resource.TheVariants.{Health, Page, Reload, Status, Stop}

-- where each resource is
abbrev pub path_of : Resource → List ℕ
path_of Page = codes "/"
path_of (Status In.Json) = codes "/status.json"
path_of (Status In.Text) = codes "/status.txt"
path_of (Status In.Metrics) = codes "/metrics"
path_of Health = codes "/healthz"
path_of Stop = codes "/stop"
path_of Reload = codes "/reload"

-- the resource at a path; none where the path is that of none
abbrev pub IsResourceAt : List ℕ → Option Resource → Type 0
IsResourceAt path None = (resource : Resource) → path ≢ path_of resource
IsResourceAt path (Some resource) = path ≡ path_of resource

-- the methods of a resource
abbrev pub MayAsk : Resource → List ℕ → Type 0
MayAsk Stop method = method ≡ codes "POST"
MayAsk Reload method = method ≡ codes "POST"
MayAsk _ method = (method ≡ codes "GET") ⊎ (method ≡ codes "HEAD")

-- The request is addressed to the console: its target names no host of its own, and its `Host` names the console.
pub record IsAddressed (own : IpAddr) (head : Parts) : Type 0 where
  pub target : uri_authority head.uri ≡ None
  pub host : FieldValue
  pub is_given : get head.headers (codes "host") ≡ Some host
  pub names : NamesConsole own host.bytes

-- the header field `X-Gonukire` says this word
pub record SaysWord (word : List ℕ) (head : Parts) : Type 0 where
  pub value : FieldValue
  pub is_given : get head.headers (codes "x-gonukire") ≡ Some value
  pub says : value.bytes ≡ word

-- the header that a resource asks for: a stop has `X-Gonukire: stop`, and a reload `X-Gonukire: reload`
abbrev pub HasHeader : Resource → Parts → Type 0
HasHeader Stop head = SaysWord (codes "stop") head
HasHeader Reload head = SaysWord (codes "reload") head
HasHeader _ head = ⊤

-- addressed to the console, at a path that is this resource's
abbrev pub AsksFor : IpAddr → Parts → Resource → Type 0
AsksFor own head resource = IsAddressed own head × (uri_path head.uri ≡ path_of resource)

-- addressed to the console, at the path of this resource, by its method
abbrev pub Asks : IpAddr → Parts → Resource → Type 0
Asks own head resource = AsksFor own head resource × MayAsk resource head.method

-- What a request with this head and this body is answered by a console with this address. A stop is granted exactly where the request
-- is addressed to the console, at the path of the stop, by its method and with its header; a reload likewise, where it has no body.
abbrev pub IsAnswer : IpAddr → Parts → List ℕ → Answer → Type 0
IsAnswer own head body Misdirected = ¬ (IsAddressed own head)
IsAnswer own head body NotFound = IsAddressed own head × IsResourceAt (uri_path head.uri) None
IsAnswer own head body (WrongMethod resource) = AsksFor own head resource × ¬ (MayAsk resource head.method)
IsAnswer own head body (Forbidden resource) = Asks own head resource × ¬ (HasHeader resource head)
IsAnswer own head body HasBody = Asks own head Reload × HasHeader Reload head × (body ≢ [])
IsAnswer own head body (Granted resource) = Asks own head resource × HasHeader resource head × (resource ≡ Reload → body ≡ [])
