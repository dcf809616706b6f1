-- Texts of histories that grow.
use Rattle.std.proofs.Common.{◌≡◌, ℕ, ◌+◌, List, [], ◌∷◌, ◌++◌, inl, inr, length, length-append, refl, sym, ap, ◌∙◌, append_assoc, append-nil, arith}
use Rattle.std.proofs.Math.Seq.{take-append-add, take-length}
use Rattle.xp_step.specs.declared.event.Event.{Event}
use Rattle.xp_step.specs.Exchange.{Exchange}
use Rattle.xp_script.specs.Text.{text_of}
use Rattle.xp_step.specs.InForce.{in_force}
use Rattle.xp_exchange.specs.Play.{force_in}
use Rattle.xp_exchange.specs.WholeScript.{IsWritten, IsWrittenButLast, IsWrittenInPart, FindsNoMemory}
use Rattle.xp_exchange.proofs.Force.{force_on, text_of-append}

module _ {A : Type 0} where
  pub told_nothing : (old : Exchange A) → IsWritten old old []
  told_nothing old = record { entries = []; history = sym (append-nil old.history); text_is = refl }

  pub outputs_to_both : (old between new : Exchange A) (one other : List ℕ) → between.subs ≡ old.subs → IsWritten old between one → IsWritten between new other → IsWritten old new (one ++ other)
  outputs_to_both old between new one other same first second =
      let later : other ≡ text_of (in_force (force_in old) first.entries) second.entries = second.text_is ∙ ap (λ force. text_of force second.entries) (force_on old between first.entries same first.history) in
      record {
        entries = first.entries ++ second.entries;
        history = second.history ∙ ap (λ front. front ++ second.entries) first.history ∙ append_assoc old.history first.entries second.entries;
        text_is = ap (λ front. front ++ other) first.text_is ∙ ap (λ rest. text_of (force_in old) first.entries ++ rest) later
            ∙ sym (text_of-append (force_in old) first.entries second.entries);
      }

  pub told_in_part : (old between new : Exchange A) (one other : List ℕ) → between.subs ≡ old.subs → IsWritten old between one → IsWrittenInPart between new other → IsWrittenInPart old new (one ++ other)
  told_in_part old between new one other same first second = record {
    whole = one ++ second.whole;
    told = outputs_to_both old between new one second.whole same first second.told;
    count = length one + second.count;
    front = ap (λ rest. one ++ rest) second.front ∙ sym (take-append-add one second.whole second.count);
  }

  -- all but the last of what follows
  told_but_last : (old between new : Exchange A) (one other : List ℕ) → between.subs ≡ old.subs → IsWritten old between one → IsWrittenButLast between new other → IsWrittenButLast old new (one ++ other)
  told_but_last old between new one other same first second = record {
    entries = first.entries ++ second.entries;
    last = second.last;
    history = second.history ∙ ap (λ front. front ++ (second.entries ++ second.last ∷ [])) first.history
        ∙ append_assoc old.history first.entries (second.entries ++ second.last ∷ [])
        ∙ ap (λ rest. old.history ++ rest) (sym (append_assoc first.entries second.entries (second.last ∷ [])));
    text_is = ap (λ front. front ++ other) first.text_is
        ∙ ap (λ rest. text_of (force_in old) first.entries ++ rest) (second.text_is ∙ ap (λ force. text_of force second.entries) (force_on old between first.entries same first.history))
        ∙ sym (text_of-append (force_in old) first.entries second.entries);
  }

  -- no memory is found in what follows, of which other events are left
  pub no_memory_after : (old between new : Exchange A) (later rest : List (Event A)) (one other : List ℕ) → between.subs ≡ old.subs → IsWritten old between one → FindsNoMemory between later new other
      → FindsNoMemory old (later ++ rest) new (one ++ other)
  no_memory_after old between new later rest one other same first (inl refused) =
      inl (omega (arith, refused.0, length-append later rest), outputs_to_both old between new one other same first refused.1)
  no_memory_after old between new later rest one other same first (inr missing) = inr (told_but_last old between new one other same first missing)

  -- the whole is a front of itself
  pub told_whole : (old new : Exchange A) (text : List ℕ) → IsWritten old new text → IsWrittenInPart old new text
  told_whole old new text told = record { whole = text; told = told; count = length text; front = sym (take-length text) }
