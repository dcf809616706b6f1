use Rattle.std.proofs.Common.{◌+◌, ◌*◌, sym, ◌∙◌, ap, ◌++◌, get_or, append_assoc, arith}
use Rattle.std.proofs.lemmas.List.{append-nil, length_push}
use Rattle.xp_facilities.proofs.Telling.{packed-two, packed-one, packed-none, AreDigits-two, length-two}
use Rattle.xp_facilities.proofs.writer.redirection.Goals as goal
use borrow.Author.Tests.{ltb-true}

pub loop-rest-preserved : goal.loop-rest-preserved
loop-rest-preserved c =
    let rest = c.loop-rest.rest.now in
    let octet = 16 * get_or c.loop-rest.rest.now 0 0 + get_or c.loop-rest.rest.now 1 0 in
    rw c.push-in-len2-up.ensures.items (record {
      value = append_assoc c.loop-rest.parameters.items _ _
          ∙ ap (λ x. c.loop-rest.parameters.items ++ x) (sym (packed-two rest c.in-len2-up.len_at_least))
          ∙ c.loop-rest.invariant.value;
      room = omega (arith, length-two rest c.in-len2-up.len_at_least, length_push c.loop-rest.parameters.items octet, c.loop-rest.invariant.room);
      digits = AreDigits-two rest c.in-len2-up.len_at_least c.loop-rest.invariant.digits;
    })

pub returns-then-rest-lt1-clause-value : goal.returns-then-rest-lt1-clause-value
returns-then-rest-lt1-clause-value c =
    sym (append-nil c.loop-rest.parameters.items)
    ∙ ap (λ x. c.loop-rest.parameters.items ++ x) (sym (packed-none c.loop-rest.rest.now (omega (arith, ltb-true))))
    ∙ c.loop-rest.invariant.value

pub returns-in-len1-clause-value : goal.returns-in-len1-clause-value
returns-in-len1-clause-value c =
    c.push-in-len1.ensures.items
    ∙ ap (λ x. c.loop-rest.parameters.items ++ x) (sym (packed-one c.loop-rest.rest.now (omega arith)))
    ∙ c.loop-rest.invariant.value
