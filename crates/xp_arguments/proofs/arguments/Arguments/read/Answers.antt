use Rattle.std.proofs.Common.{◌≡◌, ◌∙◌, ℕ, List, [], ◌∷◌, refl, sym, ap, subst, true, map, string_bytes, Result, Ok, Err, IfErr, IfOk, inl, inr, ⊎_elim}
use Rattle.std.proofs.lemmas.Result.{err_from_is_err_and}
use Rattle.clap.specs.Kinds.{or_else}
use Rattle.clap.specs.Words.{App, HasKind, HasMatchesOf, IsAmong, Kinds, Text, fault_of, is_simple_and_free, kind_of, subcommand_of, subcommand_rows_of}
use Rattle.clap.specs.declared.error.Error.{Error}
use Rattle.clap.specs.declared.error.kind.ErrorKind.TheVariants.{InvalidValue, OutOfMemory}
use Rattle.clap.specs.declared.parser.matches.ArgMatches.{ArgMatches}
use Rattle.xp_arguments.specs.declared.subcommand.Subcommand.{Subcommand}
use Rattle.xp_arguments.specs.Commands.{AreRight, AsksFor, kinds_of, program}
use Rattle.xp_arguments.proofs.arguments.Arguments.read.Goals as goal

-- what is known of a value is known of a result
ok_then : {X E : Type 0} {P Q : X → Type 0} (result : Result X E) → ((x : X) → P x → Q x) → IfOk result P → IfOk result Q
ok_then (Ok x) then is = then x is
ok_then (Err error) then is = tt

err_then : {X E : Type 0} {P Q : E → Type 0} (result : Result X E) → ((error : E) → P error → Q error) → IfErr result P → IfErr result Q
err_then (Ok x) then is = tt
err_then (Err error) then is = then error is

is_free : (app : App) → app ≡ program → is_simple_and_free app ≡ true
is_free app same = subst (λ app. is_simple_and_free app ≡ true) (sym same) refl

faults_alike : (app : App) (words : List Text) → app ≡ program → fault_of app words ≡ fault_of program words
faults_alike app words same = ap (λ app. fault_of app words) same

no_fault : (app : App) (words : List Text) → app ≡ program → (is_simple_and_free app ≡ true → fault_of app words ≡ []) → fault_of program words ≡ []
no_fault app words same none = sym (faults_alike app words same) ∙ none (is_free app same)

-- where there is no fault only memory can be wanting
only_memory : (app : App) (words : List Text) (error : Error) → app ≡ program → (is_simple_and_free app ≡ true → HasKind (fault_of app words) error)
    → fault_of program words ≡ [] → kind_of error ≡ OutOfMemory
only_memory app words error same has none =
    let faultless = faults_alike app words same ∙ none in
    ⊎_elim (λ memory. memory) (λ among. absurd (subst (IsAmong (kind_of error)) faultless among)) (has (is_free app same))

pub returns-in_err-matches-clause-taken : goal.returns-in_err-matches-clause-taken
returns-in_err-matches-clause-taken c =
    let words = map string_bytes c.args.words.now in
    let p = err_from_is_err_and c.from_residual-in_err-matches.result c.from_residual-in_err-matches.ensures.1 in
    subst (λ result. IfErr result (λ error. AreRight words → kind_of error ≡ OutOfMemory)) (sym (p.1 ∙ ap Err p.2))
    (λ right. only_memory _ words c.in_err-matches.field-0.0 c.in_ok-command.ensures c.in_err-matches.ensures.kinds right.2.faultless)

-- the error of a fault has the kind of the words
first_kind : (kinds : Kinds) (error : Error) → HasKind kinds error → HasKind (or_else kinds (InvalidValue ∷ [])) error
first_kind [] error (inl memory) = inl memory
first_kind [] error (inr among) = absurd among
first_kind (kind ∷ kinds) error has = has

kind_alike : (app : App) (words : List Text) (error : Error) → app ≡ program → (is_simple_and_free app ≡ true → HasKind (fault_of app words) error) → HasKind (kinds_of words) error
kind_alike app words error same has =
    first_kind (fault_of program words) error (subst (λ kinds. HasKind kinds error) (faults_alike app words same) (has (is_free app same)))

-- and so has that of words without a fault which ask for nothing
unfit_kind : (kinds : Kinds) → kinds ≡ [] → (error : Error) → HasKind (InvalidValue ∷ []) error → HasKind (or_else kinds (InvalidValue ∷ [])) error
unfit_kind kinds none error has = subst (λ kinds. HasKind (or_else kinds (InvalidValue ∷ [])) error) (sym none) has

pub returns-in_err-matches-clause-kind : goal.returns-in_err-matches-clause-kind
returns-in_err-matches-clause-kind c =
    let words = map string_bytes c.args.words.now in
    let p = err_from_is_err_and c.from_residual-in_err-matches.result c.from_residual-in_err-matches.ensures.1 in
    subst (λ result. IfErr result (HasKind (kinds_of words))) (sym (p.1 ∙ ap Err p.2))
    (kind_alike _ words c.in_err-matches.field-0.0 c.in_ok-command.ensures c.in_err-matches.ensures.kinds)

-- what was found among the words is what they ask for
found_alike : (words : List Text) (app : App) (matches : ArgMatches) → app ≡ program → HasMatchesOf app words matches
    → subcommand_rows_of matches ≡ subcommand_of program words
found_alike words app matches same has = (subst (λ app. HasMatchesOf app words matches) same has refl).1

found_as_asked : (words : List Text) (app : App) (matches : ArgMatches) → app ≡ program → HasMatchesOf app words matches
    → (right : AreRight words) → AsksFor (subcommand_rows_of matches) right.0 right.1
found_as_asked words app matches same has right =
    subst (λ found. AsksFor found right.0 right.1) (sym (found_alike words app matches same has)) right.2.asked

pub returns-clause-asked : goal.returns-clause-asked
returns-clause-asked c =
    let words = map string_bytes c.args.words.now in
    ok_then c.found_in.result
    (λ asked is. record {
      faultless = no_fault _ words c.in_ok-command.ensures c.in_ok-matches.ensures.kinds;
      asked = subst (λ found. AsksFor found asked.subcommand asked.operand.now) (found_alike words _ _ c.in_ok-command.ensures c.in_ok-matches.ensures.matches) is;
    })
    c.found_in.ensures.asked

pub returns-clause-taken : goal.returns-clause-taken
returns-clause-taken c =
    err_then c.found_in.result
    (λ error memory right. memory (right.0, right.1, found_as_asked (map string_bytes c.args.words.now) _ _ c.in_ok-command.ensures c.in_ok-matches.ensures.matches right))
    c.found_in.ensures.taken

pub returns-clause-kind : goal.returns-clause-kind
returns-clause-kind c =
    let words = map string_bytes c.args.words.now in
    err_then c.found_in.result (unfit_kind (fault_of program words) (no_fault _ words c.in_ok-command.ensures c.in_ok-matches.ensures.kinds)) c.found_in.ensures.kind
