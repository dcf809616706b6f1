-- What the arguments of a command ask for.
use Rattle.std.proofs.Common.{◌≡◌, ◌∙◌, [], cond, refl, sym, ap, subst, codes, option_map, Option, Some, None, IfNone, IfSome, List, ℕ, Bool, nat_eq, slice_index_or}
use Rattle.clap.specs.Words.{Row, Text, first_of}
use Rattle.xp_arguments.specs.Commands.{AreDetails, AsksFor, HasDetails, directory_of, either, file_of, HasLimits, HasLive, HasName, HasReplayForm, HasTrace, IsLive, IsNamed, IsOneForm, IsOrder, has_flag, IsQuestion, IsSubcommand, IsTrace, Suits, operand_of, verb_of, word_of}
use Rattle.xp_arguments.specs.declared.details_order.DetailsOrder.{DetailsOrder}
use Rattle.xp_arguments.specs.declared.details_order.DetailsOrder.TheVariants as details_orders
use Rattle.xp_arguments.specs.declared.subcommand.QuestionOrder.{QuestionOrder}
use Rattle.xp_arguments.specs.declared.replay_order.ReplayForm.{ReplayForm}
use Rattle.xp_arguments.specs.declared.serve_order.ServeOrder.{ServeOrder}
use Rattle.xp_arguments.specs.declared.subcommand.Subcommand.{Subcommand}
use Rattle.xp_arguments.specs.declared.serve_order.TraceOrder.{TraceOrder}
use Rattle.xp_arguments.specs.declared.subcommand.Verb.{Verb}
use Rattle.xp_arguments.specs.declared.subcommand.Verb.TheVariants.{Check, Replay, Explain, Serve, Status, Stop, Reload}
use Rattle.xp_limits.specs.Limits.{AreLimits}
use Rattle.xp_limits.specs.declared.limits.Limits.{Limits}

pub if_none : {X : Type 0} (o : Option X) (P : Type 0) → P → IfNone o P
if_none None P p = p
if_none (Some x) P p = tt

pub if_none_then : {X : Type 0} (o : Option X) (P Q : Type 0) → (P → Q) → IfNone o P → IfNone o Q
if_none_then None P Q f p = f p
if_none_then (Some x) P Q f p = tt

pub if_some_then : {X : Type 0} (o : Option X) (P Q : X → Type 0) → ((x : X) → P x → Q x) → IfSome o P → IfSome o Q
if_some_then None P Q f p = tt
if_some_then (Some x) P Q f p = f x p

pub none_is : {X : Type 0} (o : Option X) (P : Type 0) → o ≡ None → IfNone o P → P
none_is None P none p = p
none_is (Some x) P none p = absurd (cc)

-- the limits of the texts that the arguments have
module _ (rows : List Row) (records turns threads : Option (List ℕ)) (records_are : records ≡ first_of (codes "records") rows)
    (turns_are : turns ≡ first_of (codes "turns") rows) (threads_are : threads ≡ first_of (codes "threads") rows) where
  pub has_limits : (limits : Limits) → AreLimits records turns threads limits → HasLimits rows limits
  has_limits limits are =
      subst (λ text. AreLimits text (first_of (codes "turns") rows) (first_of (codes "threads") rows) limits) records_are
      (subst (λ text. AreLimits records text (first_of (codes "threads") rows) limits) turns_are
      (subst (λ text. AreLimits records turns text limits) threads_are are))

  pub are_limits : (limits : Limits) → HasLimits rows limits → AreLimits records turns threads limits
  are_limits limits has =
      subst (λ text. AreLimits text turns threads limits) (sym records_are)
      (subst (λ text. AreLimits (first_of (codes "records") rows) text threads limits) (sym turns_are)
      (subst (λ text. AreLimits (first_of (codes "records") rows) (first_of (codes "turns") rows) text limits) (sym threads_are) has))

-- without limits nothing is ordered
pub no_order : (rows : List Row) → ((limits : Limits) → HasLimits rows limits → ⊥) → (order : ServeOrder) → IsOrder rows order → ⊥
no_order rows none order is = none order.limits is.limits

-- arguments that name lines to be traced, and no file
pub no_trace : (rows : List Row) → ((trace : Option TraceOrder) → HasTrace rows trace → ⊥) → (order : ServeOrder) → IsOrder rows order → ⊥
no_trace rows none order is = none order.trace is.trace

-- arguments that name a file and a directory of call detail records
pub no_details : (rows : List Row) → ((details : Option DetailsOrder) → HasDetails rows details → ⊥) → (order : ServeOrder) → IsOrder rows order → ⊥
no_details rows none order is = none order.details is.details

-- arguments with a name that is none of an exchange
pub no_name : (rows : List Row) → ((name : Option Text) → HasName rows name → ⊥) → (order : ServeOrder) → IsOrder rows order → ⊥
no_name rows none order is = none (option_map (λ name. name.now) order.exchange) is.exchange

-- arguments with a file of live calls that does not go together with the others
pub no_live : (rows : List Row) → ((live : Option Text) → HasLive rows live → ⊥) → (order : ServeOrder) → IsOrder rows order → ⊥
no_live rows none order is = none (option_map (λ path. path.now) order.live) is.live

-- the first of two texts, where each is another one
pub either_is : (found text other one two : Option Text) → found ≡ either text other → text ≡ one → other ≡ two → found ≡ either one two
either_is found text other one two is first second = is ∙ (ap (λ text. either text other) first ∙ ap (either one) second)

-- the path of the file of live calls that the arguments say
module _ {X : Type 0} (rows : List Row) (path details : Option Text) (off : Bool) (path_is : path ≡ first_of (codes "live") rows)
    (details_are : details ≡ either (first_of (codes "cdr") rows) (first_of (codes "cdr-dir") rows)) (off_is : off ≡ has_flag (codes "no-live") rows) (found : Option X) where
  pub has_live : (shown : X → Option Text) → IfSome found (λ x. IsLive path details off (shown x)) → IfSome found (λ x. HasLive rows (shown x))
  has_live shown is =
      subst (λ path. IfSome found (λ x. IsLive path (either (first_of (codes "cdr") rows) (first_of (codes "cdr-dir") rows)) (has_flag (codes "no-live") rows) (shown x))) path_is
      (subst (λ details. IfSome found (λ x. IsLive path details (has_flag (codes "no-live") rows) (shown x))) details_are
      (subst (λ off. IfSome found (λ x. IsLive path details off (shown x))) off_is is))

  pub has_no_live : IfNone found ((live : Option Text) → IsLive path details off live → ⊥) → IfNone found ((live : Option Text) → HasLive rows live → ⊥)
  has_no_live none =
      subst (λ path. IfNone found ((live : Option Text) → IsLive path (either (first_of (codes "cdr") rows) (first_of (codes "cdr-dir") rows)) (has_flag (codes "no-live") rows) live → ⊥)) path_is
      (subst (λ details. IfNone found ((live : Option Text) → IsLive path details (has_flag (codes "no-live") rows) live → ⊥)) details_are
      (subst (λ off. IfNone found ((live : Option Text) → IsLive path details off live → ⊥)) off_is none))

-- the name that the arguments say
module _ {X : Type 0} (rows : List Row) (text : Option Text) (text_is : text ≡ first_of (codes "name") rows) (found : Option X) where
  pub has_name : (shown : X → Option Text) → IfSome found (λ x. IsNamed text (shown x)) → IfSome found (λ x. HasName rows (shown x))
  has_name shown is = subst (λ text. IfSome found (λ x. IsNamed text (shown x))) text_is is

  pub has_no_name : IfNone found ((name : Option Text) → IsNamed text name → ⊥) → IfNone found ((name : Option Text) → HasName rows name → ⊥)
  has_no_name none = subst (λ text. IfNone found ((name : Option Text) → IsNamed text name → ⊥)) text_is none

-- the trace for which the arguments ask
module _ (rows : List Row) (path lines : Option Text) (path_is : path ≡ first_of (codes "trace") rows) (lines_are : lines ≡ first_of (codes "trace-lines") rows)
    (found : Option (Option TraceOrder)) where
  pub has_trace : IfSome found (IsTrace path lines) → IfSome found (HasTrace rows)
  has_trace is =
      subst (λ path. IfSome found (IsTrace path (first_of (codes "trace-lines") rows))) path_is (subst (λ lines. IfSome found (IsTrace path lines)) lines_are is)

  pub has_no_trace : IfNone found ((trace : Option TraceOrder) → IsTrace path lines trace → ⊥) → IfNone found ((trace : Option TraceOrder) → HasTrace rows trace → ⊥)
  has_no_trace none =
      subst (λ path. IfNone found ((trace : Option TraceOrder) → IsTrace path (first_of (codes "trace-lines") rows) trace → ⊥)) path_is
      (subst (λ lines. IfNone found ((trace : Option TraceOrder) → IsTrace path lines trace → ⊥)) lines_are none)

-- no call detail records go to a file and to a directory
pub not_both : (details : Option DetailsOrder) (file directory : Text) → file_of details ≡ Some file → directory_of details ≡ Some directory → ⊥
not_both None file directory is too = cc
not_both (Some (details_orders.File name)) file directory is too = cc
not_both (Some (details_orders.Directory name)) file directory is too = cc

-- where the arguments ask call detail records to go
module _ (rows : List Row) (file directory : Option Text) (file_is : file ≡ first_of (codes "cdr") rows) (directory_is : directory ≡ first_of (codes "cdr-dir") rows)
    (found : Option (Option DetailsOrder)) where
  pub has_details : IfSome found (AreDetails file directory) → IfSome found (HasDetails rows)
  has_details is =
      subst (λ file. IfSome found (AreDetails file (first_of (codes "cdr-dir") rows))) file_is
      (subst (λ directory. IfSome found (AreDetails file directory)) directory_is is)

  pub has_no_details : IfNone found ((details : Option DetailsOrder) → AreDetails file directory details → ⊥) → IfNone found ((details : Option DetailsOrder) → HasDetails rows details → ⊥)
  has_no_details none =
      subst (λ file. IfNone found ((details : Option DetailsOrder) → AreDetails file (first_of (codes "cdr-dir") rows) details → ⊥)) file_is
      (subst (λ directory. IfNone found ((details : Option DetailsOrder) → AreDetails file directory details → ⊥)) directory_is none)

-- arguments without a calling line
pub no_caller : (rows : List Row) → first_of (codes "CALLER") rows ≡ None → (question : QuestionOrder) → IsQuestion rows question → ⊥
no_caller rows none question is =
    let there : Some question.caller.now ≡ None = is.caller ∙ none in
    absurd (cc)

-- arguments without an address that is called
pub no_dialled : (rows : List Row) → first_of (codes "DIALLED") rows ≡ None → (question : QuestionOrder) → IsQuestion rows question → ⊥
no_dialled rows none question is =
    let there : Some question.dialled.now ≡ None = is.dialled ∙ none in
    absurd (cc)

-- the forms of a replay for which the arguments ask
module _ (rows : List Row) (words ladder : Bool) (capture : Option Text) (words_are : words ≡ has_flag (codes "words") rows)
    (ladder_is : ladder ≡ has_flag (codes "ladder") rows) (capture_is : capture ≡ first_of (codes "pcap") rows) (found : Option ReplayForm) where
  pub has_form : IfSome found (IsOneForm words ladder capture) → IfSome found (HasReplayForm rows)
  has_form is =
      subst (λ words. IfSome found (IsOneForm words (has_flag (codes "ladder") rows) (first_of (codes "pcap") rows))) words_are
      (subst (λ ladder. IfSome found (IsOneForm words ladder (first_of (codes "pcap") rows))) ladder_is
      (subst (λ capture. IfSome found (IsOneForm words ladder capture)) capture_is is))

  pub has_no_form : IfNone found ((form : ReplayForm) → IsOneForm words ladder capture form → ⊥) → IfNone found ((form : ReplayForm) → HasReplayForm rows form → ⊥)
  has_no_form none =
      subst (λ words. IfNone found ((form : ReplayForm) → IsOneForm words (has_flag (codes "ladder") rows) (first_of (codes "pcap") rows) form → ⊥)) words_are
      (subst (λ ladder. IfNone found ((form : ReplayForm) → IsOneForm words ladder (first_of (codes "pcap") rows) form → ⊥)) ladder_is
      (subst (λ capture. IfNone found ((form : ReplayForm) → IsOneForm words ladder capture form → ⊥)) capture_is none))

-- the verb of a word, where it has one
abbrev verb_behind : Text → Verb
verb_behind word =
    let first = slice_index_or word 0 0 in
    let third = slice_index_or word 2 0 in
    cond (nat_eq third 101) Check
    (cond (nat_eq third 112) (cond (nat_eq first 114) Replay Explain)
    (cond (nat_eq third 114) Serve (cond (nat_eq third 97) Status (cond (nat_eq third 111) Stop Reload))))

verb_is : (verb : Verb) → verb ≡ verb_behind (word_of verb)
verb_is Check = refl
verb_is Replay = refl
verb_is Explain = refl
verb_is Serve = refl
verb_is Status = refl
verb_is Stop = refl
verb_is Reload = refl

-- a word has one verb at most
one_verb : (word : Text) (one other : Verb) → word ≡ word_of one → word ≡ word_of other → one ≡ other
one_verb word one other is too = verb_is one ∙ ap verb_behind (sym is ∙ too) ∙ sym (verb_is other)

-- a pair of which both parts are known
pub pair_is : {X Y : Type 0} (o : Option (X × Y)) (x : X) (y : Y) → option_map (λ pair. pair.0) o ≡ Some x → option_map (λ pair. pair.1) o ≡ Some y → o ≡ Some (x, y)
pair_is None x y first second = absurd (cc)
pair_is (Some (a, b)) x y first second = cc

abbrev rows_in : Option (Text × List Row) → List Row
rows_in None = []
rows_in (Some pair) = pair.1

abbrev word_in : Option (Text × List Row) → Text
word_in None = []
word_in (Some pair) = pair.0

module _ (found : Option (Text × List Row)) (word : Text) (rows : List Row) (found_is : found ≡ Some (word, rows)) where
  both : (subcommand : Subcommand) (name : List ℕ) (asks : AsksFor found subcommand name) → ◌≡◌ {A = Option (Text × List Row)} (Some (asks.word, asks.rows)) (Some (word, rows))
  both subcommand name asks = sym asks.found_is ∙ found_is

  word_alike : (subcommand : Subcommand) (name : List ℕ) (asks : AsksFor found subcommand name) → asks.word ≡ word
  word_alike subcommand name asks = ap word_in (both subcommand name asks)

  rows_alike : (subcommand : Subcommand) (name : List ℕ) (asks : AsksFor found subcommand name) → asks.rows ≡ rows
  rows_alike subcommand name asks = ap rows_in (both subcommand name asks)

  is_here : (subcommand : Subcommand) (name : List ℕ) (asks : AsksFor found subcommand name) → IsSubcommand word rows subcommand
  is_here subcommand name asks =
      subst (λ rows. IsSubcommand word rows subcommand) (rows_alike subcommand name asks)
      (subst (λ word. IsSubcommand word asks.rows subcommand) (word_alike subcommand name asks) asks.subcommand_is)

  -- a command that is no subcommand
  pub asks_nothing : ((verb : Verb) → word ≡ word_of verb → ⊥) → (subcommand : Subcommand) (name : List ℕ) → AsksFor found subcommand name → ⊥
  asks_nothing none subcommand name asks = none (verb_of subcommand) (is_here subcommand name asks).0

  -- a command with arguments that do not go together
  pub asks_wrongly : (own : Verb) → word ≡ word_of own → ((subcommand : Subcommand) → verb_of subcommand ≡ own → Suits rows subcommand → ⊥)
      → (subcommand : Subcommand) (name : List ℕ) → AsksFor found subcommand name → ⊥
  asks_wrongly own is none subcommand name asks =
      let here = is_here subcommand name asks in
      none subcommand (one_verb word (verb_of subcommand) own here.0 is) here.1

  -- a command without its file or address
  pub asks_without : (own : Verb) → word ≡ word_of own → first_of (operand_of own) rows ≡ None
      → (subcommand : Subcommand) (name : List ℕ) → AsksFor found subcommand name → ⊥
  asks_without own is none subcommand name asks =
      let alike = ap operand_of (one_verb word own (verb_of subcommand) is (is_here subcommand name asks).0) in
      let there : None ≡ Some name =
      sym none ∙ ap (λ operand. first_of operand rows) alike ∙ ap (first_of (operand_of (verb_of subcommand))) (sym (rows_alike subcommand name asks)) ∙ asks.named in
      absurd (cc)
