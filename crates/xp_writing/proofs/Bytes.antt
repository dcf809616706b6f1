-- What is known of the octets of readers and writers, step by step.
use Rattle.std.proofs.Common.{◌≡◌, ℕ, ◌+◌, ◌-◌, ◌≤◌, List, [], ◌++◌, length, take, drop, refl, sym, ap, ◌∙◌, append_assoc, append-nil, subst, Option, None, Some, arith}
use Rattle.std.proofs.Math.Seq.{take-add}
use Rattle.std.proofs.lemmas.List.{drop-drop, take_rest, length-drop, take_all}
use Rattle.std.specs.Io.KnownBytes.{Appends, Consumes, Keeps}

pub appends_nothing : (known : Option (List ℕ)) → Appends known known []
appends_nothing None = tt
appends_nothing (Some octets) = sym (append-nil octets)

pub appends_both : (first second third : Option (List ℕ)) (one other : List ℕ) → Appends first second one → Appends second third other → Appends first third (one ++ other)
appends_both None second third one other a b = tt
appends_both (Some xs) None third one other a b = elim a [ ]
appends_both (Some xs) (Some ys) None one other a b = elim b [ ]
appends_both (Some xs) (Some ys) (Some zs) one other a b = b ∙ ap (λ front. front ++ other) a ∙ append_assoc xs one other

pub appends_kept : (first second third : Option (List ℕ)) (one : List ℕ) → Appends first second one → Keeps second third → Appends first third one
appends_kept None second third one a b = tt
appends_kept (Some xs) None third one a b = elim a [ ]
appends_kept (Some xs) (Some ys) None one a b = elim b [ ]
appends_kept (Some xs) (Some ys) (Some zs) one a b = b ∙ a

pub keeps_itself : (known : Option (List ℕ)) → Keeps known known
keeps_itself None = tt
keeps_itself (Some octets) = refl

pub consumes_nothing : (known : Option (List ℕ)) → Consumes known known []
consumes_nothing None = tt
consumes_nothing (Some octets) = refl

pub consumes_both : (first second third : Option (List ℕ)) (one other : List ℕ) → Consumes first second one → Consumes second third other → Consumes first third (one ++ other)
consumes_both None second third one other a b = tt
consumes_both (Some xs) None third one other a b = elim a [ ]
consumes_both (Some xs) (Some ys) None one other a b = elim b [ ]
consumes_both (Some xs) (Some ys) (Some zs) one other a b = a ∙ ap (λ rest. one ++ rest) b ∙ sym (append_assoc one other zs)

pub consumes_kept : (first second third : Option (List ℕ)) (one : List ℕ) → Consumes first second one → Keeps second third → Consumes first third one
consumes_kept None second third one a b = tt
consumes_kept (Some xs) None third one a b = elim a [ ]
consumes_kept (Some xs) (Some ys) None one a b = elim b [ ]
consumes_kept (Some xs) (Some ys) (Some zs) one a b = a ∙ ap (λ rest. one ++ rest) (sym b)

-- A front of the text is written, and the rest is not.
pub record PutSoFar (text rest : List ℕ) (old now : Option (List ℕ)) : Type 0 where
  pub count : ℕ
  pub rest_is : rest ≡ drop count text
  pub within : count ≤ length text
  pub puts : Appends old now (take count text)

pub put_nothing : (text : List ℕ) (old : Option (List ℕ)) → PutSoFar text text old old
put_nothing text old = record { count = 0; rest_is = refl; within = omega arith; puts = appends_nothing old }

pub put_more : (text rest next : List ℕ) (n : ℕ) (old before now : Option (List ℕ)) → PutSoFar text rest old before → n ≤ length rest → Appends before now (take n rest)
    → next ≡ take (length rest - n) (drop n rest) → PutSoFar text next old now
put_more text rest next n old before now so_far few puts cut =
    let left : length rest ≡ length text - so_far.count = ap length so_far.rest_is ∙ length-drop so_far.count text in
    let here : take n rest ≡ take n (drop so_far.count text) = ap (take n) so_far.rest_is in
    record {
      count = so_far.count + n;
      rest_is = cut ∙ take_rest rest n ∙ ap (drop n) so_far.rest_is ∙ drop-drop n so_far.count text;
      within = omega (arith, left, few, so_far.within);
      puts = subst (Appends old now) (ap (λ more. take so_far.count text ++ more) here ∙ sym (take-add so_far.count n text))
          (appends_both old before now (take so_far.count text) (take n rest) so_far.puts puts);
    }

pub put_kept : (text rest : List ℕ) (old before now : Option (List ℕ)) → PutSoFar text rest old before → Keeps before now → PutSoFar text rest old now
put_kept text rest old before now so_far keeps = record {
  count = so_far.count;
  rest_is = so_far.rest_is;
  within = so_far.within;
  puts = appends_kept old before now (take so_far.count text) so_far.puts keeps;
}

pub put_all : (text rest : List ℕ) (old now : Option (List ℕ)) → PutSoFar text rest old now → length rest ≡ 0 → Appends old now text
put_all text rest old now so_far none =
    let left : length rest ≡ length text - so_far.count = ap length so_far.rest_is ∙ length-drop so_far.count text in
    subst (Appends old now) (take_all so_far.count text (omega (arith, left, none, so_far.within))) so_far.puts
