-- The command lines that the program takes, as `clap` reads them.
use Rattle.std.specs.Prelude.{◌≡◌, ℕ, List, [], ◌∷◌, Bool, Option, Some, None, true, false, codes, option_map, unwrap_or}
use Rattle.clap.specs.Kinds.{or_else}
use Rattle.clap.specs.Words.{App, Kinds, Row, Rule, Text, all_of, fault_of, first_of, new_app, new_rule, subcommand_of, with_rule, with_subcommand}
use Rattle.clap.specs.declared.builder.action.ArgAction.TheVariants.{Append, SetTrue}
use Rattle.clap.specs.declared.error.kind.ErrorKind.TheVariants.{InvalidValue}
use Rattle.xp_arguments.specs.declared.subcommand.CheckDepth.{CheckDepth}
use Rattle.xp_arguments.specs.declared.subcommand.CheckDepth.TheVariants as check_depths
use Rattle.xp_arguments.specs.declared.subcommand.CheckForm.{CheckForm}
use Rattle.xp_arguments.specs.declared.subcommand.CheckForm.TheVariants as check_forms
use Rattle.xp_arguments.specs.declared.subcommand.ConsoleRequest.{ConsoleRequest}
use Rattle.xp_arguments.specs.declared.subcommand.ConsoleRequest.TheVariants as requests
use Rattle.xp_arguments.specs.declared.details_order.DetailsOrder.{DetailsOrder}
use Rattle.xp_arguments.specs.declared.details_order.DetailsOrder.TheVariants as details_orders
use Rattle.xp_arguments.specs.declared.subcommand.QuestionOrder.{QuestionOrder}
use Rattle.xp_arguments.specs.declared.replay_order.ReplayForm.{ReplayForm}
use Rattle.xp_arguments.specs.declared.replay_order.ReplayForm.TheVariants as replay_forms
use Rattle.xp_arguments.specs.declared.replay_order.NamedPath.{NamedPath}
use Rattle.xp_arguments.specs.declared.replay_order.ReplayOrder.{ReplayOrder}
use Rattle.xp_arguments.specs.declared.subcommand.CheckOrder.{CheckOrder}
use Rattle.xp_arguments.specs.declared.serve_order.ServeOrder.{ServeOrder}
use Rattle.xp_arguments.specs.declared.subcommand.Subcommand.{Subcommand}
use Rattle.xp_arguments.specs.declared.subcommand.Subcommand.TheVariants as subcommands
use Rattle.xp_arguments.specs.declared.serve_order.TraceOrder.{TraceOrder}
use Rattle.xp_arguments.specs.declared.subcommand.Verb.{Verb}
use Rattle.xp_arguments.specs.declared.subcommand.Verb.TheVariants.{Check, Replay, Explain, Serve, Status, Stop, Reload}
use Rattle.xp_arguments.specs.NamedPaths.{AreTables}
use Rattle.xp_cdr.specs.Names.{is_exchange_name}
use Rattle.xp_limits.specs.Limits.{AreLimits}
use Rattle.xp_limits.specs.declared.limits.Limits.{Limits}
use Rattle.xp_subs.specs.Tables.{same}

-- an argument that has to be there, as `FILE`
abbrev pub positional : Text → Rule
positional name = record (new_rule name) { required = true }

-- an argument with a value, as `--records N`
abbrev pub valued : Text → Rule
valued name = record (new_rule name) { long = Some name; value_names = 1 }

-- an argument with a value that may be given again, as `--tables NAME=PATH`
abbrev pub repeated : Text → Rule
repeated name = record (new_rule name) { long = Some name; value_names = 1; action = Some Append }

-- an argument that is there or not, as `--until-eof`
abbrev pub flag : Text → Rule
flag name = record (new_rule name) { long = Some name; action = Some SetTrue }

-- the word of a verb
abbrev pub word_of : Verb → Text
word_of Check = codes "check"
word_of Replay = codes "replay"
word_of Explain = codes "explain"
word_of Serve = codes "serve"
word_of Status = codes "status"
word_of Stop = codes "stop"
word_of Reload = codes "reload"

-- the name of the argument that a verb has to be given first: a file, or the address of a console
abbrev pub operand_of : Verb → Text
operand_of Check = codes "FILE"
operand_of Replay = codes "FILE"
operand_of Explain = codes "FILE"
operand_of Serve = codes "FILE"
operand_of Status = codes "ADDRESS"
operand_of Stop = codes "ADDRESS"
operand_of Reload = codes "ADDRESS"

-- the command of a verb, with that argument alone
abbrev pub command_of : Verb → App
command_of verb = with_rule (new_app (word_of verb)) (positional (operand_of verb))

-- the command that checks a file
abbrev pub check : App
check =
    with_rule (with_rule (with_rule (with_rule (command_of Check) (flag (codes "words"))) (flag (codes "serve"))) (flag (codes "ports")))
    (valued (codes "after"))

-- the command that replays a script
abbrev pub replay : App
replay =
    with_rule (with_rule (with_rule (with_rule (command_of Replay) (flag (codes "words"))) (flag (codes "ladder"))) (valued (codes "pcap")))
    (repeated (codes "tables"))

-- the command that explains a decision, with the call request
abbrev pub call : App
call =
    with_rule (with_rule (with_rule (with_rule (command_of Explain) (positional (codes "CALLER"))) (positional (codes "DIALLED"))) (valued (codes "facilities")))
    (valued (codes "user"))

-- with the states of the lines, and whether the exit status tells of a refusal
abbrev pub explain : App
explain = with_rule (with_rule (with_rule call (valued (codes "up"))) (valued (codes "busy"))) (flag (codes "status"))

-- the command that serves, with the arguments that tell of files of records and of live calls
abbrev pub keeping : App
keeping =
    with_rule (with_rule (with_rule (with_rule (command_of Serve) (valued (codes "cdr"))) (valued (codes "cdr-dir"))) (valued (codes "live")))
    (flag (codes "no-live"))

-- with all that tell of records
abbrev pub recording : App
recording = with_rule (with_rule keeping (valued (codes "name"))) (valued (codes "records"))

-- with those that tell of a trace, and of threads
abbrev pub tracing : App
tracing = with_rule (with_rule (with_rule recording (valued (codes "trace"))) (valued (codes "trace-lines"))) (valued (codes "threads"))

-- the command that asks for the lines to be served
abbrev pub serve : App
serve =
    with_rule (with_rule (with_rule (with_rule tracing (valued (codes "turns"))) (valued (codes "console"))) (flag (codes "quiet")))
    (flag (codes "until-eof"))

-- a command of which something has to be asked, and which has a version
abbrev pub asked : App → App
asked app = record app { top = record app.top { subcommand_required = true; arg_required_else_help = true; has_version = true } }

-- the program with the commands that check a file and replay a script
abbrev pub replaying : App
replaying = with_subcommand (with_subcommand (asked (new_app (codes "xp"))) check.top) replay.top

-- the program with the commands over a file
abbrev pub over_files : App
over_files = with_subcommand replaying explain.top

-- with the command that serves
abbrev pub serving : App
serving = with_subcommand over_files serve.top

-- with those that ask a console to show the exchange and to stop it
abbrev pub asking : App
asking = with_subcommand (with_subcommand serving (command_of Status).top) (command_of Stop).top

abbrev pub program : App
program = with_subcommand asking (command_of Reload).top

-- an argument that is there or not is there
abbrev pub says_true : Option Text → Bool
says_true None = false
says_true (Some text) = same text (codes "true")

-- whether the flag of this name is among the arguments
abbrev pub has_flag : Text → List Row → Bool
has_flag name rows = says_true (first_of name rows)

-- the arguments ask for what a file sets up in this form
abbrev pub HasCheckForm : List Row → CheckForm → Type 0
HasCheckForm rows check_forms.Counts = has_flag (codes "words") rows ≡ false
HasCheckForm rows check_forms.Words = has_flag (codes "words") rows ≡ true

-- how much is looked at, where these flags are there or not
abbrev pub IsDepth : Bool → Bool → CheckDepth → Type 0
IsDepth serve ports check_depths.File = (serve ≡ false) × (ports ≡ false)
IsDepth serve ports check_depths.Serving = (serve ≡ true) × (ports ≡ false)
IsDepth serve ports check_depths.Ports = ports ≡ true

-- the arguments ask for so much to be looked at
abbrev pub HasDepth : List Row → CheckDepth → Type 0
HasDepth rows depth = IsDepth (has_flag (codes "serve") rows) (has_flag (codes "ports") rows) depth

-- the arguments ask a file to be checked so, after that one
pub record IsCheck (rows : List Row) (order : CheckOrder) : Type 0 where
  pub form : HasCheckForm rows order.form
  pub depth : HasDepth rows order.depth
  pub after : option_map (λ name. name.now) order.after ≡ first_of (codes "after") rows

-- this form is asked for, and no other: words, a ladder, or a capture of this name
abbrev pub IsOneForm : Bool → Bool → Option Text → ReplayForm → Type 0
IsOneForm words ladder capture replay_forms.Digits = (words ≡ false) × (ladder ≡ false) × (capture ≡ None)
IsOneForm words ladder capture replay_forms.Words = (words ≡ true) × (ladder ≡ false) × (capture ≡ None)
IsOneForm words ladder capture replay_forms.Ladder = (words ≡ false) × (ladder ≡ true) × (capture ≡ None)
IsOneForm words ladder capture (replay_forms.Capture path) = (words ≡ false) × (ladder ≡ false) × (capture ≡ Some path.now)

-- the arguments ask for a replay in this form
abbrev pub HasReplayForm : List Row → ReplayForm → Type 0
HasReplayForm rows form = IsOneForm (has_flag (codes "words") rows) (has_flag (codes "ladder") rows) (first_of (codes "pcap") rows) form

-- the texts that name files of subscriptions, in the order of the arguments
abbrev pub table_texts : List Row → List Text
table_texts rows = unwrap_or (all_of (codes "tables") rows) []

-- the arguments name these files of subscriptions, each by a name of its own
abbrev pub HasTables : List Row → List NamedPath → Type 0
HasTables rows tables = AreTables (table_texts rows) tables

-- the arguments ask a script to be replayed so
pub record IsReplay (rows : List Row) (order : ReplayOrder) : Type 0 where
  pub form : HasReplayForm rows order.form
  pub tables : HasTables rows order.tables.items

-- the arguments ask how this call request is decided
pub record IsQuestion (rows : List Row) (question : QuestionOrder) : Type 0 where
  pub caller : Some question.caller.now ≡ first_of (codes "CALLER") rows
  pub dialled : Some question.dialled.now ≡ first_of (codes "DIALLED") rows
  pub facilities : option_map (λ text. text.now) question.facilities ≡ first_of (codes "facilities") rows
  pub user : option_map (λ text. text.now) question.user ≡ first_of (codes "user") rows
  pub up : option_map (λ text. text.now) question.up ≡ first_of (codes "up") rows
  pub busy : option_map (λ text. text.now) question.busy ≡ first_of (codes "busy") rows
  pub status : question.status ≡ has_flag (codes "status") rows

-- the arguments say when serving ends, and by how many threads lines are served
abbrev pub HasLimits : List Row → Limits → Type 0
HasLimits rows limits = AreLimits (first_of (codes "records") rows) (first_of (codes "turns") rows) (first_of (codes "threads") rows) limits

-- the name of the file to which call detail records go, and that of the directory: at most one of them is there
abbrev pub file_of : Option DetailsOrder → Option Text
file_of None = None
file_of (Some (details_orders.File name)) = Some name.now
file_of (Some (details_orders.Directory name)) = None

abbrev pub directory_of : Option DetailsOrder → Option Text
directory_of None = None
directory_of (Some (details_orders.File name)) = None
directory_of (Some (details_orders.Directory name)) = Some name.now

-- call detail records go to the file of this name, or to files in the directory of this name, or nowhere
abbrev pub AreDetails : Option Text → Option Text → Option DetailsOrder → Type 0
AreDetails file directory details = (file_of details ≡ file) × (directory_of details ≡ directory)

-- the arguments say where call detail records go
abbrev pub HasDetails : List Row → Option DetailsOrder → Type 0
HasDetails rows details = AreDetails (first_of (codes "cdr") rows) (first_of (codes "cdr-dir") rows) details

-- a trace into the file of this name, of these lines or of all; nothing is traced where neither is there
abbrev pub IsTrace : Option Text → Option Text → Option TraceOrder → Type 0
IsTrace path lines None = (path ≡ None) × (lines ≡ None)
IsTrace path lines (Some trace) = (path ≡ Some trace.path.now) × (option_map (λ names. names.now) trace.lines ≡ lines)

-- the arguments say what is to be traced
abbrev pub HasTrace : List Row → Option TraceOrder → Type 0
HasTrace rows trace = IsTrace (first_of (codes "trace") rows) (first_of (codes "trace-lines") rows) trace

-- the exchange is given this name, which is one of an exchange, or none
abbrev pub IsNamed : Option Text → Option Text → Type 0
IsNamed None None = Unit {0}
IsNamed None (Some name) = ⊥
IsNamed (Some text) None = ⊥
IsNamed (Some text) (Some name) = (text ≡ name) × (is_exchange_name text ≡ true)

-- the arguments say the name of the exchange
abbrev pub HasName : List Row → Option Text → Type 0
HasName rows name = IsNamed (first_of (codes "name") rows) name

-- the first of two texts that is there
abbrev pub either : Option Text → Option Text → Option Text
either (Some text) other = Some text
either None other = other

-- the path of a file of live calls: only where call detail records go somewhere, and live calls are to be kept
abbrev pub IsLive : Option Text → Option Text → Bool → Option Text → Type 0
IsLive None details off None = Unit {0}
IsLive None details off (Some live) = ⊥
IsLive (Some path) None off live = ⊥
IsLive (Some path) (Some details) true live = ⊥
IsLive (Some path) (Some details) false None = ⊥
IsLive (Some path) (Some details) false (Some live) = path ≡ live

-- the arguments say the path of the file of live calls
abbrev pub HasLive : List Row → Option Text → Type 0
HasLive rows live =
    IsLive (first_of (codes "live") rows) (either (first_of (codes "cdr") rows) (first_of (codes "cdr-dir") rows)) (has_flag (codes "no-live") rows) live

-- the arguments say how the lines are to be served
pub record IsOrder (rows : List Row) (order : ServeOrder) : Type 0 where
  pub limits : HasLimits rows order.limits
  pub details : HasDetails rows order.details
  pub live : HasLive rows (option_map (λ path. path.now) order.live)
  pub no_live : order.no_live ≡ has_flag (codes "no-live") rows
  pub exchange : HasName rows (option_map (λ name. name.now) order.exchange)
  pub trace : HasTrace rows order.trace
  pub console : option_map (λ address. address.now) order.console ≡ first_of (codes "console") rows
  pub quiet : order.quiet ≡ has_flag (codes "quiet") rows
  pub until_eof : order.until_eof ≡ has_flag (codes "until-eof") rows

-- what a console is asked for
abbrev pub verb_to : ConsoleRequest → Verb
verb_to requests.Status = Status
verb_to requests.Stop = Stop
verb_to requests.Reload = Reload

-- what a subcommand does
abbrev pub verb_of : Subcommand → Verb
verb_of (subcommands.Check order) = Check
verb_of (subcommands.Replay order) = Replay
verb_of (subcommands.Explain question) = Explain
verb_of (subcommands.Serve order) = Serve
verb_of (subcommands.Ask request) = verb_to request

-- the arguments that were found are those of this subcommand
abbrev pub Suits : List Row → Subcommand → Type 0
Suits rows (subcommands.Check order) = IsCheck rows order
Suits rows (subcommands.Replay order) = IsReplay rows order
Suits rows (subcommands.Explain question) = IsQuestion rows question
Suits rows (subcommands.Serve order) = IsOrder rows order
Suits rows (subcommands.Ask request) = Unit {0}

-- a command of this word, with its arguments as they were found, asks for this
abbrev pub IsSubcommand : Text → List Row → Subcommand → Type 0
IsSubcommand word rows subcommand = (word ≡ word_of (verb_of subcommand)) × Suits rows subcommand

-- A command, with its arguments as they were found, asks for this with this file or address.
pub record AsksFor (found : Option (Text × List Row)) (subcommand : Subcommand) (name : List ℕ) : Type 0 where
  pub word : Text
  pub rows : List Row
  pub found_is : found ≡ Some (word, rows)
  pub subcommand_is : IsSubcommand word rows subcommand
  pub named : first_of (operand_of (verb_of subcommand)) rows ≡ Some name

-- The words, of which the first is the program's own, are without fault, and ask for this with this file or address.
pub record Ask (words : List Text) (subcommand : Subcommand) (name : List ℕ) : Type 0 where
  pub faultless : fault_of program words ≡ []
  pub asked : AsksFor (subcommand_of program words) subcommand name

-- words that ask for something
abbrev pub AreRight : List Text → Type 0
AreRight words = (subcommand : Subcommand) × (name : List ℕ) × Ask words subcommand name

-- the kinds of the error that words may have: those of their first fault, or that they ask for nothing
abbrev pub kinds_of : List Text → Kinds
kinds_of words = or_else (fault_of program words) (InvalidValue ∷ [])
