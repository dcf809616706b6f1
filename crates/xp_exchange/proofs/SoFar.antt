-- Acting on a list of events, one after the other, and what was written meanwhile.
use Rattle.std.proofs.Common.{◌≡◌, ℕ, List, [], ◌∷◌, ◌++◌, refl, sym, ap, ◌∙◌, append_assoc, append-nil, length-append, arith, subst, All, Option, Ok, Err}
use Rattle.std.proofs.lemmas.List.Elements.{All-head, All-tail}
use Rattle.std.specs.Io.KnownBytes.{Appends}
use Rattle.xp_step.specs.declared.event.Event.{Event}
use Rattle.xp_step.specs.Exchange.{Exchange}
use Rattle.xp_exchange.specs.declared.fault.ReplayFault.{ReplayFault}
use Rattle.xp_exchange.specs.declared.fault.ReplayFault.TheVariants.{Script, Journal, Memory, Read, Write, Lay, Reload}
use Rattle.xp_exchange.specs.steps.Acting.{Acted, Breaks}
use Rattle.xp_exchange.specs.FrameEvents.{Fits}
use Rattle.xp_exchange.specs.Play.{ActsOn}
use Rattle.xp_exchange.specs.WholeScript.{IsWritten}
use Rattle.xp_exchange.proofs.Acts.{acts_on_nothing, acts_on_both, first_after}
use Rattle.xp_writing.proofs.Bytes.{appends_nothing, appends_both}
use Rattle.xp_exchange.proofs.Tellings.{told_nothing, outputs_to_both, told_in_part, no_memory_after}

module _ {A : Type 0} where
  pub record SoFar (first : Exchange A) (events left : List (Event A)) (now : Exchange A) (old new : Option (List ℕ)) : Type 0 where
    pub done : List (Event A)
    pub split : events ≡ done ++ left
    pub acts : ActsOn first done now
    pub text : List ℕ
    pub puts : Appends old new text
    pub told : IsWritten first now text
    pub fit : All (Fits first.subs) left

  pub so_far_none : (first : Exchange A) (events : List (Event A)) (known : Option (List ℕ)) → All (Fits first.subs) events → SoFar first events events first known known
  so_far_none first events known fit = record {
    done = [];
    split = refl;
    acts = acts_on_nothing first;
    text = [];
    puts = appends_nothing known;
    told = told_nothing first;
    fit = fit;
  }

  -- the next event fits
  pub next_fits : (first : Exchange A) (events left rest : List (Event A)) (event : Event A) (now : Exchange A) (old new : Option (List ℕ)) → SoFar first events left now old new → left ≡ event ∷ rest
      → Fits now.subs event
  next_fits first events left rest event now old new so_far next =
      subst (λ tables. Fits tables event) (sym so_far.acts.subs) (All-head (Fits first.subs) event rest (subst (All (Fits first.subs)) next so_far.fit))

  pub so_far_more : (first : Exchange A) (events left rest : List (Event A)) (event : Event A) (now next : Exchange A) (old between new : Option (List ℕ))
      → SoFar first events left now old between → left ≡ event ∷ rest
      → (text : List ℕ) × Appends between new text × Acted now (event ∷ []) (Ok tt) next text
      → SoFar first events rest next old new
  so_far_more first events left rest event now next old between new so_far cut acted = record {
    done = so_far.done ++ event ∷ [];
    split = so_far.split ∙ ap (λ some. so_far.done ++ some) cut ∙ sym (append_assoc so_far.done (event ∷ []) rest);
    acts = acts_on_both first now next so_far.done (event ∷ []) so_far.acts acted.2.0;
    text = so_far.text ++ acted.0;
    puts = appends_both old between new so_far.text acted.0 so_far.puts acted.1;
    told = outputs_to_both first now next so_far.text acted.0 so_far.acts.subs so_far.told acted.2.1;
    fit = All-tail (Fits first.subs) event rest (subst (All (Fits first.subs)) cut so_far.fit);
  }

  pub so_far_all : (first : Exchange A) (events left : List (Event A)) (now : Exchange A) (old new : Option (List ℕ)) → SoFar first events left now old new → left ≡ []
      → (text : List ℕ) × Appends old new text × Acted first events (Ok tt) now text
  so_far_all first events left now old new so_far none =
      let all : so_far.done ≡ events = sym (so_far.split ∙ ap (λ some. so_far.done ++ some) none ∙ append-nil so_far.done) in
      (so_far.text, so_far.puts, (subst (λ done. ActsOn first done now) all so_far.acts, so_far.told))

  pub so_far_broken : (first : Exchange A) (events left rest : List (Event A)) (event : Event A) (now next : Exchange A) (old between new : Option (List ℕ)) (fault : ReplayFault)
      → SoFar first events left now old between → left ≡ event ∷ rest
      → (text : List ℕ) × Appends between new text × Acted now (event ∷ []) (Err fault) next text
      → (text : List ℕ) × Appends old new text × Acted first events (Err fault) next text
  so_far_broken first events left rest event now next old between new fault so_far cut acted =
      (so_far.text ++ acted.0, appends_both old between new so_far.text acted.0 so_far.puts acted.1, go fault acted.2)
    where
      whole : events ≡ so_far.done ++ ((event ∷ []) ++ rest)
      whole = so_far.split ∙ ap (λ some. so_far.done ++ some) cut

      go : (fault : ReplayFault) → Breaks now (event ∷ []) fault next acted.0 → Breaks first events fault next (so_far.text ++ acted.0)
      go Journal breaks = (
        first_after first now next so_far.done (event ∷ []) events rest whole so_far.acts breaks.0,
        outputs_to_both first now next so_far.text acted.0 so_far.acts.subs so_far.told breaks.1,
        omega (arith, breaks.2, length-append breaks.0.later rest),
        breaks.3,
      )
      go Memory breaks = (
        first_after first now next so_far.done (event ∷ []) events rest whole so_far.acts breaks.0,
        no_memory_after first now next breaks.0.later rest so_far.text acted.0 so_far.acts.subs so_far.told breaks.1,
      )
      go Write breaks = (
        first_after first now next so_far.done (event ∷ []) events rest whole so_far.acts breaks.0,
        told_in_part first now next so_far.text acted.0 so_far.acts.subs so_far.told breaks.1,
      )
      go (Script number) breaks = elim breaks [ ]
      go Read breaks = elim breaks [ ]
      go (Lay number tables) breaks = elim breaks [ ]
      go (Reload number tables why) breaks = elim breaks [ ]
