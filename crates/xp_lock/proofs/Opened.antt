-- What an exchange begins with.
use Rattle.std.proofs.Common.{◌≡◌, ℕ, zero, suc, ◌+◌, ◌<◌, true, Some, List, [], ◌∷◌, ◌++◌, drop, length, sym, refl, ◌∙◌, arith, length-append}
use Rattle.std.proofs.lemmas.Bool.{cases_lt}
use Rattle.std.proofs.lemmas.List.{get_or_past, get_or-replicate, length-replicate, map-append}
use Rattle.std.proofs.lemmas.List.Elements.{All-push}
use Rattle.std.specs.Prelude.{slice_get}
use Rattle.xp_outbox.specs.Ends.{Putting, Taking}
use Rattle.xp_subs.specs.Tables.{Tables, line_count}
use Rattle.xp_step.specs.declared.output.Outgoing.{Outgoing}
use Rattle.xp_machine.specs.Channel.{is_off}
use Rattle.xp_machine.specs.World.{opening, state_at}
use Rattle.xp_lock.specs.Outboxes.{CAPACITY}
use Rattle.xp_lock.specs.steps.Outboxes.{OutboxesMatch}
use Rattle.xp_lock.specs.Opening.{AreFirst, first_pass}
use Rattle.xp_lock.specs.steps.Opening.{AreNew, IsUnused}
use Rattle.xp_lock.specs.Passes.{Pass}

all_off : (count line : ℕ) → is_off (state_at (opening count) line) ≡ true
all_off count line = grind (arith, cases_lt, get_or-replicate, get_or_past, length-replicate)

pub at_front : {X : Type 0} (xs : List X) (n : ℕ) (x : X) (rest : List X) → drop n xs ≡ x ∷ rest → slice_get xs n ≡ Some x
at_front [] zero x rest e = absurd (cc)
at_front [] (suc n) x rest e = absurd (cc)
at_front (y ∷ ys) zero x rest e = cc
at_front (y ∷ ys) (suc n) x rest e = at_front ys n x rest e

pub drop_rest : {X : Type 0} (xs : List X) (n : ℕ) (x : X) (rest : List X) → drop n xs ≡ x ∷ rest → drop (suc n) xs ≡ rest
drop_rest [] zero x rest e = absurd (cc)
drop_rest [] (suc n) x rest e = absurd (cc)
drop_rest (y ∷ ys) zero x rest e = cc
drop_rest (y ∷ ys) (suc n) x rest e = drop_rest ys n x rest e

module _ {A : Type 0} where
  pub new_kept : (subs : Tables) (outboxes : List (Putting (Outgoing A))) (ends : List (Taking (Outgoing A))) → AreNew (line_count subs) outboxes ends → OutboxesMatch {A = A} subs [] outboxes
  new_kept subs outboxes ends new = grind (arith, all_off)

  pub new_push : (lines : ℕ) (outboxes : List (Putting (Outgoing A))) (ends : List (Taking (Outgoing A))) (box : Putting (Outgoing A)) (end : Taking (Outgoing A))
      → AreNew lines outboxes ends → box.queue ≡ end.queue → box.capacity ≡ CAPACITY → box.put ≡ [] → IsUnused end → AreNew (lines + 1) (outboxes ++ box ∷ []) (ends ++ end ∷ [])
  new_push lines outboxes ends box end new tied capacity put unused =
      let one = length-append outboxes (box ∷ []) in
      let other = length-append ends (end ∷ []) in
      let was = new.box_count in
      let had = new.end_count in
      record {
        box_count = omega (arith, one, was);
        end_count = omega (arith, other, had);
        queues = map-append (λ (e : Taking (Outgoing A)). e.queue) ends (end ∷ []) ∙ (λ i. new.queues i ++ sym tied i ∷ []) ∙ sym (map-append (λ (b : Putting (Outgoing A)). b.queue) outboxes (box ∷ []));
        capacities = All-push (λ (b : Putting (Outgoing A)). b.capacity ≡ CAPACITY) outboxes box new.capacities capacity;
        put = All-push (λ (b : Putting (Outgoing A)). b.put ≡ []) outboxes box new.put put;
        unused = All-push (IsUnused {A = A}) ends end new.unused unused;
      }

  get_push : (xs : List (Pass A)) (x : Pass A) (k : ℕ) → k < length xs → slice_get (xs ++ x ∷ []) k ≡ slice_get xs k
  get_push [] x k within = absurd (omega arith)
  get_push (y ∷ ys) x zero within = refl
  get_push (y ∷ ys) x (suc k) within = get_push ys x k (omega arith)

  get_last : (xs : List (Pass A)) (x : Pass A) (k : ℕ) → k ≡ length xs → slice_get (xs ++ x ∷ []) k ≡ Some x
  get_last [] x zero is = refl
  get_last [] x (suc k) is = absurd (omega (arith, is))
  get_last (y ∷ ys) x zero is = absurd (omega (arith, is))
  get_last (y ∷ ys) x (suc k) is = get_last ys x k (omega (arith, is))

  pub first_push : (lines : ℕ) (passes : List (Pass A)) (pass : Pass A) → AreFirst lines passes → pass ≡ first_pass lines → AreFirst (lines + 1) (passes ++ pass ∷ [])
  first_push lines passes pass first is = grind (arith, cases_lt, get_last, get_push, length-append)
