-- The charging records of a history: one for each call that ended.
use Rattle.std.specs.Prelude.{◌≡◌, ℕ, ◌+◌, ◌<◌, ◌≤◌, ◌==◌, ◌⊎◌, if◌then◌else◌, is_some, Option, None, Some, List, [], ◌∷◌, ◌++◌, All, count_by, flat_map, length}
use Rattle.xp_channel.specs.declared.action.Action.TheVariants.{Answer, Collision, NewCall}
use Rattle.xp_charge.specs.declared.record.Record.{Record}
use Rattle.xp_packets.specs.declared.block.Block.{Block}
use Rattle.xp_packets.specs.declared.end.End.TheVariants.{Caller, Called}
use Rattle.xp_packets.specs.declared.packet.Packet.{Packet}
use Rattle.xp_packets.specs.declared.packet.Packet.TheVariants.{Clear}
use Rattle.xp_subs.specs.Tables.{Tables}
use Rattle.xp_step.specs.declared.entry.Entry.{Entry}
use Rattle.xp_step.specs.declared.outcome.Outcome.TheVariants.{Connected}
use Rattle.xp_step.specs.declared.output.Output.{Output}
use Rattle.xp_step.specs.declared.output.Put.{Put}
use Rattle.xp_step.specs.declared.output.Put.TheVariants.{Send}
use Rattle.xp_step.specs.Run.{Run}
use Rattle.xp_step.specs.Outcomes.{payer_of, taken_by}
use Rattle.xp_step.specs.Segments.{segments_if_live}
use Rattle.xp_step.specs.Step.{Step}
use Rattle.xp_step.specs.Table.{CallRequest, action_at, request_in}
use Rattle.xp_machine.specs.Channel.{Ringing}
use Rattle.xp_machine.specs.World.{Call, World, call_numbered, state_at}
use Rattle.xp_machine.specs.declared.agreement.Agreement.{Agreement}

-- a live call has this number
abbrev pub IsLive : World → ℕ → Type 0
IsLive world number = (call : Call) × (call_numbered world number ≡ Some call)

-- how many of these records have this number
abbrev pub count_of : ℕ → List Record → ℕ
count_of number records = count_by (λ charged. charged.number == number) records

-- the line that is told how the call ended: the end of the call that is not this line, or the caller if the call was
-- put to no line
abbrev pub told_end : ℕ → Option ℕ → ℕ → ℕ
told_end caller None line = caller
told_end caller (Some called) line = if caller == line then called else caller

-- a place of a history: its entry, the entries before and after it, and the two states between which it is a step
pub record Moment {A : Type 0} (tables : Tables) (history : List (Entry A)) : Type 0 where
  pub before : List (Entry A)
  pub entry : Entry A
  pub rest : List (Entry A)
  pub world : World
  pub next : World
  pub splits : history ≡ before ++ entry ∷ rest
  pub run : Run tables before world
  pub step : Step tables before world entry next

module _ {A : Type 0} where
  -- the clear packet in what is put out, if there is one and it is for this line
  abbrev pub clear_to : ℕ → ℕ → Put A → List (Packet A)
  clear_to line to (Send identifier (Clear cause diagnostic block)) = if to == line then Clear cause diagnostic block ∷ [] else []
  clear_to line to put = []

  -- the clear packets put out to a line
  abbrev pub clears_to : ℕ → List (Output A) → List (Packet A)
  clears_to line outputs = flat_map (λ output. clear_to line output.line output.outgoing.put) outputs

  -- the records of all entries, in order
  abbrev pub records_of : List (Entry A) → List Record
  records_of history = flat_map (λ entry. entry.records.items) history

  -- how many records and live calls have this number
  abbrev pub holders : List (Entry A) → World → ℕ → ℕ
  holders history world number =
      count_of number (records_of history) + (if is_some (call_numbered world number) then 1 else 0)

module _ {A : Type 0} {tables : Tables} {history : List (Entry A)} where
  -- the entry's call request is a new call, or collides with an incoming call, and its call got this number
  pub record Begins (moment : Moment tables history) (number : ℕ) (request : CallRequest A) : Type 0 where
    pub asks : request_in moment.entry.event.what ≡ Some request
    pub new : (action_at moment.world moment.entry.event ≡ NewCall) ⊎ (action_at moment.world moment.entry.event ≡ Collision)
    pub numbered : number ≡ moment.world.next

  -- the entry is the answer of the line that the call of this number was put to, and connects the call
  pub record Connects (moment : Moment tables history) (number : ℕ) : Type 0 where
    pub answers : action_at moment.world moment.entry.event ≡ Answer
    pub rings : state_at moment.world moment.entry.event.line ≡ Ringing number
    pub agreement : Agreement
    pub settled : moment.entry.outcome ≡ Connected agreement

  -- the call of this number was live before, or begins here, and is not live afterwards
  pub record Ends (moment : Moment tables history) (number : ℕ) : Type 0 where
    pub was : IsLive moment.world number ⊎ ((request : CallRequest A) × Begins moment number request)
    pub gone : IsLive moment.next number → ⊥

-- an entry of this history connected the call of this number, at this moment, or none did
abbrev pub WasConnected : {A : Type 0} → Tables → List (Entry A) → ℕ → Option ℕ → Type 0
WasConnected tables history number None = (moment : Moment tables history) → Connects moment number → ⊥
WasConnected tables history number (Some connected) =
    (moment : Moment tables history) × Connects moment number × (connected ≡ moment.entry.event.moment)

module _ {A : Type 0} {tables : Tables} {history : List (Entry A)} where
  -- This is the record of a call that this entry ends. It tells of the entry that began the call, of the one that
  -- connected it, and of the one clear indication in which this entry tells how the call ended. Its segments are those of
  -- the entries before.
  pub record IsRecordOf (ending : Moment tables history) (charged : Record) : Type 0 where
    pub ends : Ends ending charged.number
    pub beginning : Moment tables history
    pub request : CallRequest A
    pub begins : Begins beginning charged.number request
    pub caller : charged.caller ≡ beginning.entry.event.line
    pub called : charged.called ≡ taken_by beginning.entry.outcome
    pub dialled : charged.dialled ≡ request.block.called
    pub payer : charged.payer ≡ payer_of beginning.entry.outcome
    pub from_caller : charged.from_caller ≡ segments_if_live tables ending.before charged.number (call_numbered ending.world charged.number) Caller
    pub from_called : charged.from_called ≡ segments_if_live tables ending.before charged.number (call_numbered ending.world charged.number) Called
    pub requested : charged.requested ≡ beginning.entry.event.moment
    pub connected : WasConnected tables ending.before charged.number charged.connected
    pub ended : charged.ended ≡ ending.entry.event.moment
    pub block : Option (Block A)
    pub told : clears_to (told_end charged.caller charged.called ending.entry.event.line) ending.entry.outputs
        ≡ Clear charged.cause (Some charged.diagnostic) block ∷ []

-- the records of a history are one for each call that ended, and nothing else
pub record OneRecordEach {A : Type 0} (tables : Tables) (history : List (Entry A)) (world : World) : Type 0 where
  -- each place of the history is a moment
  pub places : (before : List (Entry A)) (entry : Entry A) (rest : List (Entry A)) → history ≡ before ++ entry ∷ rest
      → (moment : Moment tables history) × (moment.before ≡ before) × (moment.entry ≡ entry)
  -- each record of an entry is that of a call that the entry ends
  pub each : (moment : Moment tables history) → All (IsRecordOf moment) moment.entry.records.items
  -- each call that an entry ends has one record there
  pub ended : (moment : Moment tables history) (number : ℕ) → Ends moment number → count_of number moment.entry.records.items ≡ 1
  -- no number has two records, or a record and a live call
  pub once : (number : ℕ) → holders history world number ≤ 1
  -- each number given so far has a record or a live call
  pub kept : (number : ℕ) → 1 ≤ number → number < world.next → holders history world number ≡ 1
  -- no number from the next one on has a record or a live call, so no number is given twice
  pub fresh : (number : ℕ) → world.next ≤ number → holders history world number ≡ 0
  -- an entry has at most two: that of a call that was cancelled in a collision, and then that of the call that was
  -- refused there
  pub few : (moment : Moment tables history) → length moment.entry.records.items ≤ 2
