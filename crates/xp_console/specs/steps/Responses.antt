-- The fields of a response.
use Rattle.std.specs.Prelude.{◌≡◌, drop, List, ◌++◌}
use Rattle.http1.specs.Fields.{Header}
use Rattle.http_server.specs.Response.{fields_of}
use Rattle.http_server.specs.declared.response.Response.{Response}
use Rattle.xp_console.specs.Responses.{fields_for}
use Rattle.xp_console.specs.declared.responses.Kind.TheVariants.{Text}

-- the response has got more fields
pub record Adds (more : List Header) (old new : Response) : Type 0 where
  pub fields : fields_of new ≡ fields_of old ++ more
  pub status : new.status ≡ old.status
  pub body : new.body.items ≡ old.body.items

-- it has got the fields that each response has, but for that of its kind
abbrev pub AddsStandard : Response → Response → Type 0
AddsStandard = Adds (drop 1 (fields_for Text))
