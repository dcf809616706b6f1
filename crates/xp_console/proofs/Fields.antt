-- Fields of a response, one after another.
use Rattle.std.proofs.Common.{List, [], ◌∷◌, ◌++◌, Result, Ok, Err, OnOk, ap, ◌∙◌, append_assoc}
use Rattle.http1.specs.Fields.{Header}
use Rattle.http_server.specs.declared.response.Response.{Response}
use Rattle.xp_console.specs.steps.Responses.{Adds}

both_added : (one other : List Header) (a b c : Response) → Adds one a b → Adds other b c → Adds (one ++ other) a c
both_added one other a b c h k = record {
  fields = k.fields ∙ ap (λ t. t ++ other) h.fields ∙ append_assoc _ one other;
  status = k.status ∙ h.status;
  body = k.body ∙ h.body;
}

-- four fields, of which the last was added if that succeeded
pub four_added : {A E : Type 0} (r : Result A E) (one two three four : Header) (a b c d e : Response) → Adds (one ∷ []) a b → Adds (two ∷ []) b c → Adds (three ∷ []) c d → OnOk r (Adds (four ∷ []) d e) → OnOk r (Adds (one ∷ two ∷ three ∷ four ∷ []) a e)
four_added (Ok done) one two three four a b c d e h i j k =
    both_added (one ∷ []) (two ∷ three ∷ four ∷ []) a b e h
    (both_added (two ∷ []) (three ∷ four ∷ []) b c e i (both_added (three ∷ []) (four ∷ []) c d e j k))
four_added (Err fault) one two three four a b c d e h i j k = tt
