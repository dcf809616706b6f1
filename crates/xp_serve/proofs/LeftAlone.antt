-- What is written of records in doubt, and what is told beside it.
use Rattle.std.proofs.Common.{◌≡◌, ◌≢◌, ◌⊎◌, ℕ, List, [], ◌∷◌, ◌++◌, Bool, true, false, Option, Some, None, IfSome, Result, Ok, Err, ap, append-nil, append_assoc, flat_map, inl, inr, refl, subst, sym, true≢false, ◌∙◌}
use Rattle.std.proofs.lemmas.List.Elements.{All-nil}
use Rattle.std.specs.Io.KnownBytes.{Appends}
use Rattle.xp_cdr.specs.Details.{detail_text}
use Rattle.xp_cdr.specs.Ended.{IsNamedBy, charging_records}
use Rattle.xp_cdr.specs.declared.ended.EndedCall.{EndedCall}
use Rattle.xp_cdr.specs.declared.run.ExchangeRun.{ExchangeRun}
use Rattle.xp_core.specs.Records.{records_of}
use Rattle.xp_step.specs.InForce.{in_force}
use Rattle.xp_writing.proofs.Bytes.{appends_nothing}
use Rattle.xp_keeping.specs.Details.{AreKept, GoesOnAs, IsFirstOf, Keeping, first_keeping}
use Rattle.xp_keeping.specs.Doubt.{AreDoubted, IsOfRun, WritesDoubted}
use Rattle.xp_keeping.specs.Printing.{AppendsFront, Prints}
use Rattle.xp_keeping.specs.Queued.{AreKeptOrLeft, IsLastOf, Queued, first_queued, told as told_short}
use Rattle.xp_keeping.specs.Told.{AreToldInTurn}
use Rattle.xp_keeping.specs.declared.keep_fault.KeepFault.{KeepFault}
use Rattle.xp_keeping.specs.declared.keep_fault.KeepFault.TheVariants as faults
use Rattle.xp_serve.specs.Ends.{failure_by}
use Rattle.xp_listening.specs.Failures.{failure_to_keep}
use Rattle.xp_serve.specs.LeftAlone.{LeavesAlone, ServesIntoFile, says_all_kept}
use Rattle.xp_serve.specs.Served.{IsServed}
use Rattle.xp_serve.specs.Serving.{IsUnserved, outcome, told}
use Rattle.xp_serve.specs.declared.ends.EarlyEnd.{EarlyEnd}
use Rattle.xp_serve.specs.declared.ends.EarlyEndCause.{EarlyEndCause}
use Rattle.xp_serve.specs.declared.ends.EarlyEndCause.TheVariants as causes
use Rattle.xp_listening.specs.declared.failure.ServeFailure.{ServeFailure}
use Rattle.xp_listening.specs.declared.failure.ServeFailure.TheVariants.{Memory, Output, Details}
use Rattle.xp_serve.specs.declared.served.Served.{Served}
use Rattle.xp_serve.specs.steps.LeftAlone.{failure_beside, told_beside}
use Rattle.xp_subs.specs.Tables.{Tables}

-- a failure that is told
abbrev failed : ServeFailure → Result (Unit {0}) ServeFailure
failed failure = Err failure

-- what is told, and what it says of the records

fault_says : (fault : KeepFault) → says_all_kept (Err (failure_to_keep fault)) ≡ false
fault_says faults.Memory = refl
fault_says faults.Output = refl
fault_says faults.Details = refl

cause_says : (tables : Tables) (line : ℕ) (cause : EarlyEndCause) → says_all_kept (Err (failure_by tables line cause)) ≡ true
cause_says tables line causes.Journal = refl
cause_says tables line causes.Port = refl
cause_says tables line causes.Thread = refl

end_says : (tables : Tables) (early_end : Option EarlyEnd) → says_all_kept (outcome tables early_end) ≡ true
end_says tables None = refl
end_says tables (Some early_end) = cause_says tables early_end.line early_end.cause

-- where no line was served, and records may be in doubt, memory was wanting
unserved_short : (tables : Tables) (result : Result (Unit {0}) ServeFailure) → IsUnserved tables result → says_all_kept result ≡ false → result ≡ Err Memory
unserved_short tables (Ok done) unserved says = absurd unserved
unserved_short tables (Err Memory) unserved says = refl
unserved_short tables (Err Output) unserved says = absurd unserved
unserved_short tables (Err Details) unserved says = absurd unserved
unserved_short tables (Err failure) unserved says = absurd (true≢false says)

short_beside : (written : Result (Unit {0}) KeepFault) → told_beside (Err Memory) written ≡ Err Memory
short_beside (Ok done) = refl
short_beside (Err fault) = refl

either_beside : (result : Result (Unit {0}) ServeFailure) (fault : KeepFault) → (failure_beside result fault ≡ Memory) ⊎ (failure_beside result fault ≡ Output)
either_beside (Err Memory) fault = inl refl
either_beside result faults.Memory = inl refl
either_beside result faults.Output = inr refl
either_beside result faults.Details = inr refl

failed_says : (failure : ServeFailure) → (failure ≡ Memory) ⊎ (failure ≡ Output) → says_all_kept (Err failure) ≡ false
failed_says failure (inl same) = ap (λ one. says_all_kept (failed one)) same
failed_says failure (inr same) = ap (λ one. says_all_kept (failed one)) same

beside_says : (fault : KeepFault) (written : Result (Unit {0}) KeepFault) → says_all_kept (told_beside (Err (failure_to_keep fault)) written) ≡ false
beside_says fault (Ok done) = fault_says fault
beside_says fault (Err unwritten) =
    failed_says (failure_beside (Err (failure_to_keep fault)) unwritten) (either_beside (Err (failure_to_keep fault)) unwritten)

-- what is written

front_of_all : (before after : Option (List ℕ)) (text : List ℕ) (written : Result (Unit {0}) KeepFault) → Prints before after text written → AppendsFront before after text
front_of_all before after text (Ok done) prints = (text, prints, ([], sym (append-nil text)))
front_of_all before after text (Err fault) prints = prints

failed_not : (failure : ServeFailure) → (failure ≡ Memory) ⊎ (failure ≡ Output) → failed failure ≢ failed Memory → failed failure ≢ failed Output → ⊥
failed_not failure (inl same) no_memory no_output = no_memory (ap failed same)
failed_not failure (inr same) no_memory no_output = no_output (ap failed same)

all_written : (before after : Option (List ℕ)) (text : List ℕ) (result : Result (Unit {0}) ServeFailure) (written : Result (Unit {0}) KeepFault)
    → Prints before after text written → told_beside result written ≢ Err Memory → told_beside result written ≢ Err Output → Appends before after text
all_written before after text result (Ok done) prints no_memory no_output = prints
all_written before after text result (Err fault) prints no_memory no_output =
    absurd (failed_not (failure_beside result fault) (either_beside result fault) no_memory no_output)

-- what is told of a queue that memory was wanting for, or was not

kept_by_all : (is_short : Bool) (came : Result (Unit {0}) KeepFault) → Ok tt ≡ told_short is_short came → came ≡ Ok tt
kept_by_all true came same = let no : ⊥ = cc in absurd no
kept_by_all false came same = sym same

not_given_up : (is_short : Bool) (fault : KeepFault) → Ok tt ≡ told_short is_short (Err fault) → ⊥
not_given_up true fault same = cc
not_given_up false fault same = cc

not_short : (is_short : Bool) (came : Result (Unit {0}) KeepFault) (fault : KeepFault) → Err fault ≡ told_short is_short came → fault ≢ faults.Memory → is_short ≡ false
not_short true came fault same other = absurd (other (cc))
not_short false came fault same other = refl

came_otherwise : (is_short : Bool) (came : Result (Unit {0}) KeepFault) (fault : KeepFault) → Err fault ≡ told_short is_short came → fault ≢ faults.Memory
    → came ≢ Err faults.Memory
came_otherwise true came fault same other = λ wants. other (cc)
came_otherwise false came fault same other = λ wants. other (cc)

-- what the writer of the file was given

given_first : (keeping : Keeping) (front : List EndedCall) (came : Result (Unit {0}) KeepFault) → AreKept keeping front came → IsFirstOf keeping.ledger.given front
given_first keeping front (Ok done) kept = ([], sym kept.0 ∙ sym (append-nil keeping.ledger.given))
given_first keeping front (Err faults.Details) kept = ([], sym kept.0 ∙ sym (append-nil keeping.ledger.given))
given_first keeping front (Err faults.Output) kept = absurd kept
given_first keeping front (Err faults.Memory) kept = kept.0

given_all : (keeping : Keeping) (front : List EndedCall) (came : Result (Unit {0}) KeepFault) → AreKept keeping front came → came ≢ Err faults.Memory
    → keeping.ledger.given ≡ front
given_all keeping front (Ok done) kept other = kept.0
given_all keeping front (Err faults.Details) kept other = kept.0
given_all keeping front (Err faults.Output) kept other = absurd kept
given_all keeping front (Err faults.Memory) kept other = absurd (other refl)

first_of_first : (one front records : List EndedCall) → IsFirstOf one front → IsFirstOf front records → IsFirstOf one records
first_of_first one front records first second =
    (first.0 ++ second.0, second.1 ∙ ap (λ both. both ++ second.0) first.1 ∙ append_assoc one first.0 second.0)

-- The records that memory was found for, where keeping all of them came to a fault, and those in doubt are the last of these.
record Found (last : Option Keeping) (left records : List EndedCall) (fault : KeepFault) : Type 0 where
  pub found : List EndedCall
  pub first : IsFirstOf found records
  pub all : fault ≢ faults.Memory → found ≡ records
  pub last_of : (doubted : List EndedCall) → AreDoubted last left doubted → IsLastOf doubted found

module _ (tables : Tables) (run : ExchangeRun) (after : Queued Keeping) (records : List EndedCall) where
  found_in : (last : Option Keeping) (fault : KeepFault) → AreKeptOrLeft AreKept GoesOnAs last after records (Err fault) → Found last after.left records fault
  found_in None fault left = record {
    found = left.front;
    first = left.first;
    all = λ other. left.all (not_short after.is_short (Err after.fault) fault left.told_is other);
    last_of = λ doubted are. subst (λ end. IsLastOf end left.front) (sym are) left.last;
  }
  found_in (Some keeping) fault by = record {
    found = keeping.ledger.given;
    first = first_of_first keeping.ledger.given by.front records (given_first keeping by.front by.outcome by.kept_is) by.first;
    all = λ other.
        given_all keeping by.front by.outcome by.kept_is (came_otherwise after.is_short by.outcome fault by.told_is other)
        ∙ by.all (not_short after.is_short by.outcome fault by.told_is other);
    last_of = λ doubted are. (are.before, are.given_are);
  }

  -- where all are kept, none is in doubt
  none_doubted : (last : Option Keeping) → AreKeptOrLeft AreKept GoesOnAs last after records (Ok tt) → AreDoubted last after.left []
  none_doubted None left = absurd (not_given_up after.is_short after.fault left.told_is)
  none_doubted (Some keeping) by =
      let kept : AreKept keeping by.front (Ok tt) = subst (AreKept keeping by.front) (kept_by_all after.is_short by.outcome by.told_is) by.kept_is in
      record { before = keeping.ledger.given; given_are = sym (append-nil keeping.ledger.given); synced_is = kept.1.synced ∙ kept.1.taken }

  -- the keeper that came back tells by the subscriptions of the run, and its beginning
  told_by_last : (last : Option Keeping) (came : Result (Unit {0}) KeepFault) → after.first ≡ first_keeping run
      → AreKeptOrLeft AreKept GoesOnAs last after records came → IfSome last (IsOfRun run)
  told_by_last None came first are = tt
  told_by_last (Some keeping) came first by = by.keeps_on ∙ ap (λ (begun : Keeping). begun.ledger.run) first

  module _ (served : Served) (is : IsServed tables served) (are_all : charging_records records ≡ records_of served.book.history)
      (later : List Tables) (named : after.named ≡ tables ∷ later) (told_in_turn : AreToldInTurn after.named records) where
    -- all are kept, and nothing is written
    kept_alone : (came : Result (Unit {0}) KeepFault) (contents : Option (List ℕ)) (result : Result (Unit {0}) ServeFailure)
        → AreKeptOrLeft AreKept GoesOnAs after.last after records came → result ≡ told (in_force served.book.subs served.book.history) served.early_end came
        → says_all_kept result ≡ true → LeavesAlone tables run after contents contents result
    kept_alone (Err fault) contents result kept told_is says = absurd (true≢false (sym says ∙ ap says_all_kept told_is ∙ fault_says fault))
    kept_alone (Ok done) contents result kept told_is says = record {
      calls = records;
      of_run = inr (served, is, are_all);
      later = later;
      named = named;
      told = told_in_turn;
      found = records;
      first = ([], sym (append-nil records));
      all = λ other. refl;
      doubted = [];
      in_doubt = none_doubted after.last kept;
      last = (records, sym (append-nil records));
      none = λ all. refl;
      front = ([], appends_nothing contents, ([], refl));
      whole = λ no_memory no_output. appends_nothing contents;
    }

    -- some are in doubt, and are written
    written_alone : (came : Result (Unit {0}) KeepFault) (before contents : Option (List ℕ)) (result : Result (Unit {0}) ServeFailure) (written : Result (Unit {0}) KeepFault)
        → AreKeptOrLeft AreKept GoesOnAs after.last after records came → result ≡ told (in_force served.book.subs served.book.history) served.early_end came
        → says_all_kept result ≡ false → WritesDoubted run after before contents written
        → LeavesAlone tables run after before contents (told_beside result written)
    written_alone (Ok done) before contents result written kept told_is says writes =
        absurd (true≢false (sym (end_says (in_force served.book.subs served.book.history) served.early_end) ∙ sym (ap says_all_kept told_is) ∙ says))
    written_alone (Err fault) before contents result written kept told_is says writes =
        let text = flat_map (detail_text run) writes.records in
        let in_all = found_in after.last fault kept in
        let wants : fault ≡ faults.Memory → told_beside result written ≡ Err Memory =
        λ short. ap (λ came. told_beside came written) (told_is ∙ ap (λ kept_as. failed (failure_to_keep kept_as)) short) ∙ short_beside written in
        record {
          calls = records;
          of_run = inr (served, is, are_all);
          later = later;
          named = named;
          told = told_in_turn;
          found = in_all.found;
          first = in_all.first;
          all = λ other. in_all.all (λ short. other (wants short));
          doubted = writes.records;
          in_doubt = writes.doubted;
          last = in_all.last_of writes.records writes.doubted;
          none = λ all. absurd (true≢false (sym all ∙ ap (λ came. says_all_kept (told_beside came written)) told_is ∙ beside_says fault written));
          front = front_of_all before contents text written writes.written;
          whole = all_written before contents text result written writes.written;
        }

-- no call was told
none_told : (tables : Tables) (named : List Tables) → named ≡ tables ∷ [] → AreToldInTurn named []
none_told tables named are = subst (λ all. AreToldInTurn all []) (sym are) ([], [], refl, All-nil (IsNamedBy tables), refl)

module _ (tables : Tables) (run : ExchangeRun) (after : Queued Keeping) (result : Result (Unit {0}) ServeFailure) where
  -- the subscriptions of a keeper that is as it was
  named_first : after ≡ first_queued tables (first_keeping run) faults.Details → after.named ≡ tables ∷ []
  named_first same = ap (λ (queued : Queued Keeping). queued.named) same

  pub told_by : ServesIntoFile tables run after result → IfSome after.last (IsOfRun run)
  told_by (inl unserved) = subst (λ (queued : Queued Keeping). IfSome queued.last (IsOfRun run)) (sym unserved.0) tt
  told_by (inr served) =
      told_by_last tables run after served.2.kept_is.0 after.last served.2.keeping served.2.keeps_on.first served.2.kept_is.2.kept_is

  pub nothing_written : (contents : Option (List ℕ)) → ServesIntoFile tables run after result → says_all_kept result ≡ true
      → LeavesAlone tables run after contents contents result
  nothing_written contents (inl unserved) says = record {
    calls = [];
    of_run = inl (refl, unserved.1);
    later = [];
    named = named_first unserved.0;
    told = none_told tables after.named (named_first unserved.0);
    found = [];
    first = ([], refl);
    all = λ other. refl;
    doubted = [];
    in_doubt = subst (λ (queued : Queued Keeping). AreDoubted queued.last queued.left []) (sym unserved.0) refl;
    last = ([], refl);
    none = λ all. refl;
    front = ([], appends_nothing contents, ([], refl));
    whole = λ no_memory no_output. appends_nothing contents;
  }
  nothing_written contents (inr served) says =
      kept_alone tables run after served.2.kept_is.0 served.0 served.1 served.2.kept_is.1 served.2.keeps_on.later served.2.keeps_on.named served.2.kept_is.2.in_turn
      served.2.keeping contents result served.2.kept_is.2.kept_is served.2.told_is says

  pub doubted_written : (before contents : Option (List ℕ)) (written : Result (Unit {0}) KeepFault) → ServesIntoFile tables run after result
      → says_all_kept result ≡ false → WritesDoubted run after before contents written
      → LeavesAlone tables run after before contents (told_beside result written)
  doubted_written before contents written (inl unserved) says writes =
      let short : result ≡ Err Memory = unserved_short tables result unserved.1 says in
      let is_short : told_beside result written ≡ Err Memory = ap (λ came. told_beside came written) short ∙ short_beside written in
      let no_records : writes.records ≡ [] =
      subst (λ (queued : Queued Keeping). AreDoubted queued.last queued.left writes.records) unserved.0 writes.doubted in
      record {
        calls = [];
        of_run = inl (refl, subst (IsUnserved tables) (sym is_short) tt);
        later = [];
        named = named_first unserved.0;
        told = none_told tables after.named (named_first unserved.0);
        found = [];
        first = ([], refl);
        all = λ other. refl;
        doubted = writes.records;
        in_doubt = writes.doubted;
        last = ([], sym no_records);
        none = λ all. no_records;
        front = front_of_all before contents (flat_map (detail_text run) writes.records) written writes.written;
        whole = all_written before contents (flat_map (detail_text run) writes.records) result written writes.written;
      }
  doubted_written before contents written (inr served) says writes =
      written_alone tables run after served.2.kept_is.0 served.0 served.1 served.2.kept_is.1 served.2.keeps_on.later served.2.keeps_on.named served.2.kept_is.2.in_turn
      served.2.keeping before contents result written served.2.kept_is.2.kept_is served.2.told_is says writes
