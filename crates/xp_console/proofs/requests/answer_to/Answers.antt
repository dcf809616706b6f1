-- What each step has found out of the request.
use Rattle.std.proofs.Common.{◌≡◌, ◌∙◌, [], ap, arith, None, subst, sym, rules}
use Rattle.std.proofs.lemmas.Grind.{common_steps}
use Rattle.http.specs.Request.{head_of}
use Rattle.http_uri.specs.Uri.{uri_path}
use Rattle.xp_console.specs.Requests.{IsAddressed, IsResourceAt, path_of}
use Rattle.xp_console.proofs.requests.answer_to.Goals as goal

pub returns-in_default : goal.returns-in_default
returns-in_default c =
    let addressed : IsAddressed c.args.own (head_of c.args.request.now) = search rules in
    let path : c.path.result.now ≡ uri_path (head_of c.args.request.now).uri = c.path.ensures.value ∙ ap uri_path c.uri.ensures in
    (addressed, subst (λ path. IsResourceAt path None) path c.in_default.ensures)

pub returns-then-not-may_ask : goal.returns-then-not-may_ask
returns-then-not-may_ask c =
    let addressed : IsAddressed c.args.own (head_of c.args.request.now) = search rules in
    let path : c.path.result.now ≡ uri_path (head_of c.args.request.now).uri = c.path.ensures.value ∙ ap uri_path c.uri.ensures in
    let at : uri_path (head_of c.args.request.now).uri ≡ path_of c.in-Some.resource = sym path ∙ c.in-Some.ensures in
    ((addressed, at), search rules)

pub returns-then-not-has_header : goal.returns-then-not-has_header
returns-then-not-has_header c =
    let addressed : IsAddressed c.args.own (head_of c.args.request.now) = search rules in
    let path : c.path.result.now ≡ uri_path (head_of c.args.request.now).uri = c.path.ensures.value ∙ ap uri_path c.uri.ensures in
    let at : uri_path (head_of c.args.request.now).uri ≡ path_of c.in-Some.resource = sym path ∙ c.in-Some.ensures in
    (((addressed, at), search rules), search rules)

pub returns-in-Reload : goal.returns-in-Reload
returns-in-Reload c =
    let addressed : IsAddressed c.args.own (head_of c.args.request.now) = search rules in
    let path : c.path.result.now ≡ uri_path (head_of c.args.request.now).uri = c.path.ensures.value ∙ ap uri_path c.uri.ensures in
    let at : uri_path (head_of c.args.request.now).uri ≡ path_of c.in-Some.resource = sym path ∙ c.in-Some.ensures in
    (((addressed, at ∙ ap path_of c.in-Reload.is), search rules), search rules, search rules)

pub returns-in_default-resource : goal.returns-in_default-resource
returns-in_default-resource c =
    let addressed : IsAddressed c.args.own (head_of c.args.request.now) = search rules in
    let path : c.path.result.now ≡ uri_path (head_of c.args.request.now).uri = c.path.ensures.value ∙ ap uri_path c.uri.ensures in
    let at : uri_path (head_of c.args.request.now).uri ≡ path_of c.in-Some.resource = sym path ∙ c.in-Some.ensures in
    let empty : c.body.result.now ≡ [] = grind (arith, common_steps) in
    (((addressed, at), search rules), search rules, λ is. sym c.body.ensures ∙ empty)
