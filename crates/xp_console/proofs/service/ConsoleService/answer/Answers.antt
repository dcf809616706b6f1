-- A stop or a reload that is granted is one that the source may be asked for.
use Rattle.std.proofs.Common.{subst}
use Rattle.http.specs.Request.{body_of, head_of}
use Rattle.xp_console.specs.Requests.{IsAnswer}
use Rattle.xp_console.proofs.service.ConsoleService.answer.Goals as goal

pub respond-requires-clause-stop : goal.respond-requires-clause-stop
respond-requires-clause-stop g c granted =
    let own = c.args.self.now.own in
    let head = head_of c.args.request.now in
    let body = body_of c.args.request.now in
    g.S.StatusSource.granted own head body (subst (IsAnswer own head body) granted c.answer_to-answer.ensures)

pub respond-requires-clause-reload : goal.respond-requires-clause-reload
respond-requires-clause-reload g c granted =
    let own = c.args.self.now.own in
    let head = head_of c.args.request.now in
    let body = body_of c.args.request.now in
    g.S.StatusSource.reload_granted own head body (subst (IsAnswer own head body) granted c.answer_to-answer.ensures)
