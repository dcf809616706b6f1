-- A whole script that is told.
use Rattle.std.proofs.Common.{◌≡◌, ◌⊎◌, ℕ, List, [], ◌++◌, refl, sym, ap, inl, inr, subst, IfErr, IfSome, Option, None, Some, Result, Ok, Err, take}
use Rattle.std.specs.Io.KnownBytes.{Appends, Keeps}
use Rattle.xp_exchange.specs.declared.fault.ReplayFault.{ReplayFault}
use Rattle.xp_exchange.specs.declared.fault.ReplayFault.TheVariants.{Script, Journal, Memory, Read, Write, Lay, Reload}
use Rattle.xp_exchange.specs.Acting.{Puts}
use Rattle.xp_writing.proofs.Bytes.{appends_both, appends_kept, appends_nothing}
use Rattle.xp_transcript.specs.declared.form.Form.{Form}
use Rattle.xp_transcript.specs.Telling.{IsUntold, IsTranscript, TellState, TellsScript, TranscribesFrom}
use Rattle.xp_transcript.specs.Transcript.{front_of}
use Rattle.xp_transcript.specs.steps.Telling.{IsUnread, WritesFront}

-- what holds of the octets that were read
pub of_script : (known : Option (List ℕ)) (script : List ℕ) (P : List ℕ → Type 0) → IfSome known (λ octets. script ≡ octets) → P script → IfSome known P
of_script None script P is p = tt
of_script (Some octets) script P is p = subst P is p

-- what holds whatever they are
pub of_any : (known : Option (List ℕ)) (P : List ℕ → Type 0) → ((octets : List ℕ) → P octets) → IfSome known P
of_any None P p = tt
of_any (Some octets) P p = p octets

-- what stands in front is written, or a front of it
pub front_put : (form : Form) (result : Result (Unit {0}) ReplayFault) (before after : Option (List ℕ)) (front : List ℕ) → front ≡ front_of form → Puts before after front result
    → (text : List ℕ) × Appends before after text × WritesFront form result text
front_put form (Ok done) before after front is puts = (front, puts, is)
front_put form (Err fault) before after front is puts = (
  take puts.1 front,
  puts.2,
  subst (λ why. IsUntold form why (take puts.1 front)) (sym puts.0) (puts.1, ap (take puts.1) is),
)

-- the script is not read
pub unread : {A : Type 0} (form : Form) (first : TellState A) (fault : ReplayFault) (known : Option (List ℕ)) → IsUnread fault
    → (script : List ℕ) → (text : List ℕ) × Appends known known text × TranscribesFrom form first script (Err fault) text
unread form first fault known why script = ([], appends_nothing known, inl (go fault why))
  where
    go : (fault : ReplayFault) → IsUnread fault → IsUntold form fault []
    go Read why = refl
    go Memory why = refl
    go Write why = elim why [ ]
    go Journal why = elim why [ ]
    go (Script number) why = elim why [ ]
    go (Lay number tables) why = elim why [ ]
    go (Reload number tables reason) why = elim why [ ]

-- the writer was flushed, or failed
pub handed : (ended result : Result (Unit {0}) ReplayFault) → ended ≡ Ok tt → IfErr result (λ fault. fault ≡ Write) → (result ≡ ended) ⊎ ((ended ≡ Ok tt) × (result ≡ Err Write))
handed ended (Ok done) all refused = inl (sym all)
handed ended (Err fault) all refused = inr (all, ap Err refused)

module _ {A : Type 0} where
  -- nothing of the script is told
  pub untold : (form : Form) (first : TellState A) (script : List ℕ) (fault : ReplayFault) (before after : Option (List ℕ)) → (text : List ℕ) × Appends before after text × IsUntold form fault text
      → (text : List ℕ) × Appends before after text × TranscribesFrom form first script (Err fault) text
  untold form first script fault before after told = (told.0, told.1, inl told.2)

  -- it is told behind what stands in front
  pub transcribed : (form : Form) (at : TellState A) (script : List ℕ) (ended result : Result (Unit {0}) ReplayFault) (first second third last : Option (List ℕ)) (front : List ℕ)
      → front ≡ front_of form → Appends first second front → (own : List ℕ) × Appends second third own × TellsScript at script ended own → Keeps third last
      → (result ≡ ended) ⊎ ((ended ≡ Ok tt) × (result ≡ Err Write))
      → (text : List ℕ) × Appends first last text × TranscribesFrom form at script result text
  transcribed form at script ended result first second third last front is begun tells kept flushed =
      (front ++ tells.0, appends_kept first third last (front ++ tells.0) (appends_both first second third front tells.0 begun tells.1) kept, go result flushed)
    where
      whole : (result : Result (Unit {0}) ReplayFault) → (result ≡ ended) ⊎ ((ended ≡ Ok tt) × (result ≡ Err Write)) → IsTranscript form at script result (front ++ tells.0)
      whole result flushed = record {
        ended = ended;
        own = tells.0;
        text_is = ap (λ some. some ++ tells.0) is;
        tells = tells.2;
        flushed = flushed;
      }

      go : (result : Result (Unit {0}) ReplayFault) → (result ≡ ended) ⊎ ((ended ≡ Ok tt) × (result ≡ Err Write)) → TranscribesFrom form at script result (front ++ tells.0)
      go (Ok done) flushed = whole (Ok done) flushed
      go (Err fault) flushed = inr (whole (Err fault) flushed)
