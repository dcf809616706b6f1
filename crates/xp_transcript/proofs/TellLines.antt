-- What is told of lines, one after the other.
use Rattle.std.proofs.Common.{◌≡◌, ℕ, ◌+◌, ◌<◌, ◌≤◌, List, [], ◌∷◌, ◌++◌, length, refl, sym, ap, ◌∙◌, inl, inr, subst, append-nil, take, Option, None, Some, Result, Ok, Err, arith}
use Rattle.std.proofs.Math.Seq.{take-append-add, take-length}
use Rattle.std.specs.Io.KnownBytes.{Appends}
use Rattle.xp_step.specs.declared.event.Event.{Event}
use Rattle.xp_exchange.specs.declared.fault.ReplayFault.{ReplayFault}
use Rattle.xp_exchange.specs.declared.fault.ReplayFault.TheVariants.{Script, Journal, Memory, Read, Write, Lay, Reload}
use Rattle.xp_exchange.specs.Play.{ActsOn, Brings, BringsLine, LineRead, MayCome, PlayState, Plays, PlaysAll, ReadsLine, RefusesLine, force_in, stalls_at}
use Rattle.xp_writing.proofs.Bytes.{appends_both, appends_nothing}
use Rattle.xp_exchange.proofs.Acts.{acts_on_both}
use Rattle.xp_exchange.proofs.TablesLines.{all_bring, front_brings, front_in_order, plays_tables}
use Rattle.xp_exchange.specs.declared.next_tables.NextTables.{NextTables}
use Rattle.xp_step.specs.Exchange.{Exchange}
use Rattle.xp_subs.specs.Tables.{Tables}
use Rattle.xp_core.specs.Reload.{reload_at}
use Rattle.xp_script.specs.declared.command.Command.TheVariants as commands
use Rattle.xp_transcript.specs.Transcript.{entry_told, teller_after}
use Rattle.xp_transcript.specs.declared.teller.Teller.{Teller}
use Rattle.xp_transcript.specs.Telling.{IsTold, IsToldInPart, StopsAt, TellState, TellsInPart, TellsScript, lines_of, onto}
use Rattle.xp_transcript.specs.steps.Telling.{TellsEach, TellsEvents, TellsLine, TellsNext, TellsWhole}
use Rattle.xp_transcript.proofs.Told.{told_both, told_front, told_in_no_part, told_nothing, told_one}

brings_nothing : (A : Type 0) (brought : Option Tables) → Brings {A = A} brought []
brings_nothing A None = tt
brings_nothing A (Some laid) = tt

module _ {A : Type 0} where
  -- the line is not read
  pub unread_line : (fault : ReplayFault) (old new : TellState A) (number : ℕ) (line : List ℕ) (known : Option (List ℕ)) → RefusesLine old.play number line fault
      → (text : List ℕ) × Appends known known text × TellsLine old number line (Err fault) new text
  unread_line fault old new number line known refused = ([], appends_nothing known, go fault refused)
    where
      go : (fault : ReplayFault) → RefusesLine old.play number line fault → StopsAt old number line fault []
      go (Script found) refused = (refused.0, refused.1, refl)
      go Memory refused = inl refl
      go Journal refused = record {
        command = refused.0.command;
        says = refused.0.says;
        events = refused.0.events;
        after = refused.0.after;
        brought = refused.0.brought;
        plays = refused.0.plays;
        part = told_in_no_part old.play.exchange old.teller refused.0.events;
        brings = brings_nothing A refused.0.brought;
      }
      go (Lay found tables) refused = (refused.0, refused.1, refused.2, refl)
      go (Reload found tables why) refused = (refused.0, refused.1, refused.2, refl)
      go Read refused = elim refused [ ]
      go Write refused = elim refused [ ]

  in_part : (old read : TellState A) (line own : List ℕ) (events : List (Event A)) → ReadsLine old.play line events read.play → read.teller ≡ old.teller
      → IsToldInPart read.play.exchange read.teller events own → TellsInPart old line own
  in_part old read line own events reads same part = let told_here = subst (λ teller. IsToldInPart old.play.exchange teller events own) same (subst (λ exchange. IsToldInPart exchange read.teller events own) reads.exchange part) in record {
    command = reads.command;
    says = reads.says;
    events = events;
    after = read.play.unfinished;
    brought = None;
    plays = reads.plays;
    part = told_here;
    brings = tt;
  }

  whole : (old read new : TellState A) (line text : List ℕ) (events : List (Event A)) → ReadsLine old.play line events read.play → read.teller ≡ old.teller
      → TellsEach read events new text → TellsWhole old line new text
  whole old read new line text events reads same told = let acts = subst (λ exchange. ActsOn exchange events new.play.exchange) reads.exchange told.acts in record {
    plays = record {
      command = reads.command;
      says = reads.says;
      events = events;
      brought = None;
      plays = subst (λ unfinished. Plays old.play reads.command events unfinished None) (sym (ap (λ (play : PlayState A). play.unfinished) told.kept)) reads.plays;
      moment = ap (λ (play : PlayState A). play.moment) told.kept ∙ reads.moment;
      acts = acts;
      brings = tt;
      named = ap (λ (play : PlayState A). play.named) told.kept ∙ reads.named;
    };
    told = subst (λ teller. IsTold old.play.exchange teller new.play.exchange new.teller text) same
        (subst (λ exchange. IsTold exchange read.teller new.play.exchange new.teller text) reads.exchange told.told);
  }

  -- the line is read, and its events are told
  pub read_line : (result : Result (Unit {0}) ReplayFault) (old read new : TellState A) (number : ℕ) (line : List ℕ) (events : List (Event A)) (text : List ℕ) → ReadsLine old.play line events read.play
      → read.teller ≡ old.teller → TellsEvents read events result new text → TellsLine old number line result new text
  read_line (Ok done) old read new number line events text reads same told = whole old read new line text events reads same told
  read_line (Err Journal) old read new number line events text reads same told = in_part old read line text events reads same told
  read_line (Err Memory) old read new number line events text reads same told = inr (in_part old read line text events reads same told)
  read_line (Err Write) old read new number line events text reads same told = in_part old read line text events reads same told
  read_line (Err Read) old read new number line events text reads same told = elim told [ ]
  read_line (Err (Script found)) old read new number line events text reads same told = elim told [ ]
  read_line (Err (Lay found tables)) old read new number line events text reads same told = elim told [ ]
  read_line (Err (Reload found tables why)) old read new number line events text reads same told = elim told [ ]

  -- the lines that go are given up in part
  brings_in_part : (old : TellState A) (line own : List ℕ) (events : List (Event A)) (next : NextTables) → BringsLine old.play line events next → IsToldInPart old.play.exchange old.teller events own
      → TellsInPart old line own
  brings_in_part old line own events next brings part = record {
    command = commands.Reload next.number;
    says = brings.says;
    events = stalls_at old.play.moment brings.going ++ reload_at old.play.moment ∷ [];
    after = old.play.unfinished;
    brought = Some next.subs;
    plays = (next.subs, brings.going, brings.lays, refl, refl, refl);
    part = record {
      first = part.first;
      later = part.later ++ reload_at old.play.moment ∷ [];
      in_order = front_in_order old.play line events part.first part.later next brings part.in_order;
      after = part.after;
      acts = part.acts;
      behind = part.behind;
      whole = part.whole;
      told = part.told;
      count = part.count;
      front = part.front;
    };
    brings = front_brings old.play line events part.first part.later next part.after brings part.in_order part.acts;
  }

  brings_broken : (fault : ReplayFault) (old new : TellState A) (number : ℕ) (line : List ℕ) (events : List (Event A)) (next : NextTables) (text : List ℕ) → BringsLine old.play line events next
      → TellsEvents old events (Err fault) new text → TellsLine old number line (Err fault) new text
  brings_broken Journal old new number line events next text brings told = brings_in_part old line text events next brings told
  brings_broken Memory old new number line events next text brings told = inr (brings_in_part old line text events next brings told)
  brings_broken Write old new number line events next text brings told = brings_in_part old line text events next brings told
  brings_broken Read old new number line events next text brings told = elim told [ ]
  brings_broken (Script found) old new number line events next text brings told = elim told [ ]
  brings_broken (Lay found tables) old new number line events next text brings told = elim told [ ]
  brings_broken (Reload found tables why) old new number line events next text brings told = elim told [ ]

  -- it stops at one of the events of a line that was read
  pub broken_line : (next : Option NextTables) (fault : ReplayFault) (old read new : TellState A) (number : ℕ) (line : List ℕ) (events : List (Event A)) (text : List ℕ) → LineRead old.play line events read.play next
      → read.teller ≡ old.teller → TellsEvents read events (Err fault) new text → TellsLine old number line (Err fault) new text
  broken_line None fault old read new number line events text reads same told = read_line (Err fault) old read new number line events text reads.0 same told
  broken_line (Some next) fault old read new number line events text reads same told =
      brings_broken fault old new number line events next text reads.0
      (subst (λ teller. TellsEvents (record { play = old.play; teller = teller }) events (Err fault) new text) same
      (subst (λ play. TellsEvents (record { play = play; teller = read.teller }) events (Err fault) new text) reads.1 told))

  -- the lines that go are given up, and then the tables come into force
  pub tell_brought : (result : Result (Unit {0}) ReplayFault) (old new : TellState A) (between : Exchange A) (teller : Teller) (number : ℕ) (line : List ℕ) (events : List (Event A)) (next : NextTables)
      (name one other : List ℕ) → BringsLine old.play line events next → TellsEach old events (record { play = record old.play { exchange = between }; teller = teller }) one
      → TellsNext (record { play = record old.play { exchange = between }; teller = teller }) next name result new other → TellsLine old number line result new (one ++ other)
  tell_brought (Ok done) old new between teller number line events next name one other brings told comes = record {
    plays = plays_tables old.play new.play line events next between brings told.acts comes.0 comes.2;
    told = told_both old.play.exchange between new.play.exchange old.teller teller new.teller one other told.acts.subs told.told
        (told_one between new.play.exchange teller new.teller name comes.0.entry other comes.0.enters.history comes.1 comes.3);
  }
  tell_brought (Err Memory) old new between teller number line events next name one other brings told none =
      let is : one ++ other ≡ take (length one) one = ap (λ rest. one ++ rest) none ∙ append-nil one ∙ sym (take-length one) in
      inr (brings_in_part old line (one ++ other) events next brings
      (told_front old.play.exchange between old.teller teller events one (one ++ other) (length one) told.acts told.told is))
  tell_brought (Err Write) old new between teller number line events next name one other brings told comes =
      let entry = comes.0.entry in
      let force : Tables = force_in between in
      record {
        command = commands.Reload next.number;
        says = brings.says;
        events = events ++ reload_at old.play.moment ∷ [];
        after = old.play.unfinished;
        brought = Some next.subs;
        plays = (next.subs, brings.going, brings.lays, ap (λ front. front ++ reload_at old.play.moment ∷ []) brings.gives_up, refl, refl);
        part = record {
          first = events ++ reload_at old.play.moment ∷ [];
          later = [];
          in_order = sym (append-nil (events ++ reload_at old.play.moment ∷ []));
          after = new.play.exchange;
          acts = acts_on_both old.play.exchange between new.play.exchange events (reload_at old.play.moment ∷ []) told.acts comes.0.enters.acts;
          behind = teller_after force teller entry;
          whole = one ++ entry_told force teller name entry;
          told = told_both old.play.exchange between new.play.exchange old.teller teller (teller_after force teller entry) one (entry_told force teller name entry) told.acts.subs told.told
              (told_one between new.play.exchange teller (teller_after force teller entry) name entry (entry_told force teller name entry) comes.0.enters.history refl refl);
          count = length one + comes.1;
          front = ap (λ rest. one ++ rest) comes.2 ∙ sym (take-append-add one (entry_told force teller name entry) comes.1);
        };
        brings = all_bring old.play line events next between new.play.exchange brings told.acts comes.0;
      }
  tell_brought (Err Journal) old new between teller number line events next name one other brings told comes = elim comes [ ]
  tell_brought (Err Read) old new between teller number line events next name one other brings told comes = elim comes [ ]
  tell_brought (Err (Script found)) old new between teller number line events next name one other brings told comes = elim comes [ ]
  tell_brought (Err (Lay found tables)) old new between teller number line events next name one other brings told comes = elim comes [ ]
  tell_brought (Err (Reload found tables why)) old new between teller number line events next name one other brings told comes = elim comes [ ]

  -- a line that was read, whose events are told
  told_of : (old read mid : TellState A) (line : List ℕ) (events : List (Event A)) (next : NextTables) (one : List ℕ) → LineRead old.play line events read.play (Some next) → read.teller ≡ old.teller
      → TellsEach read events mid one → TellsEach old events mid one
  told_of old read mid line events next one reads same told =
      subst (λ teller. TellsEach (record { play = old.play; teller = teller }) events mid one) same
      (subst (λ play. TellsEach (record { play = play; teller = read.teller }) events mid one) reads.1 told)

  -- the tables that it brings may come into force then
  pub next_known : (old read mid : TellState A) (line : List ℕ) (events : List (Event A)) (next : NextTables) (one : List ℕ) → LineRead old.play line events read.play (Some next) → read.teller ≡ old.teller
      → TellsEach read events mid one → next.number < length mid.play.named
  next_known old read mid line events next one reads same told =
      let named : mid.play.named ≡ old.play.named = ap (λ (play : PlayState A). play.named) (told_of old read mid line events next one reads same told).kept in
      subst (λ texts. next.number < length texts) (sym named) reads.0.known

  pub next_may : (old read mid : TellState A) (line : List ℕ) (events : List (Event A)) (next : NextTables) (one : List ℕ) → LineRead old.play line events read.play (Some next) → read.teller ≡ old.teller
      → TellsEach read events mid one → MayCome mid.play.exchange next.subs
  next_may old read mid line events next one reads same told = reads.0.comes mid.play.exchange (told_of old read mid line events next one reads same told).acts

  pub line_brought : (result : Result (Unit {0}) ReplayFault) (old read mid new : TellState A) (number : ℕ) (line : List ℕ) (events : List (Event A)) (next : NextTables) (name one other : List ℕ)
      → LineRead old.play line events read.play (Some next) → read.teller ≡ old.teller → TellsEach read events mid one → TellsNext mid next name result new other
      → TellsLine old number line result new (one ++ other)
  line_brought result old read mid new number line events next name one other reads same told then =
      let each = told_of old read mid line events next one reads same told in
      tell_brought result old new mid.play.exchange mid.teller number line events next name one other reads.0
      (subst (λ play. TellsEach old events (record { play = play; teller = mid.teller }) one) each.kept each)
      (subst (λ play. TellsNext (record { play = play; teller = mid.teller }) next name result new other) each.kept then)

  pub record LinesSoFar (first : TellState A) (script rest : List ℕ) (now : TellState A) (number : ℕ) (old new : Option (List ℕ)) : Type 0 where
    -- the latest first
    pub lines : List (List ℕ)
    pub all : lines_of script ≡ onto lines (lines_of rest)
    pub played : PlaysAll first.play lines now.play
    pub text : List ℕ
    pub puts : Appends old new text
    pub told : IsTold first.play.exchange first.teller now.play.exchange now.teller text
    pub subs : now.play.exchange.subs ≡ first.play.exchange.subs
    pub number_is : number ≡ length lines + 1
    pub enough : number + length rest ≤ length script + 1

  pub no_lines : (first : TellState A) (script : List ℕ) (known : Option (List ℕ)) → LinesSoFar first script script first 1 known known
  no_lines first script known = record {
    lines = [];
    all = refl;
    played = refl;
    text = [];
    puts = appends_nothing known;
    told = told_nothing first.play.exchange first.teller;
    subs = refl;
    number_is = refl;
    enough = omega arith;
  }

  told_more : (first now next : TellState A) (line one other : List ℕ) → IsTold first.play.exchange first.teller now.play.exchange now.teller one
      → now.play.exchange.subs ≡ first.play.exchange.subs → TellsWhole now line next other → IsTold first.play.exchange first.teller next.play.exchange next.teller (one ++ other)
  told_more first now next line one other told same more =
      told_both first.play.exchange now.play.exchange next.play.exchange first.teller now.teller next.teller one other same told more.told

  pub line_more : (first : TellState A) (script rest behind line : List ℕ) (now next : TellState A) (number : ℕ) (old between new : Option (List ℕ))
      → LinesSoFar first script rest now number old between → lines_of rest ≡ line ∷ lines_of behind → length behind + 1 ≤ length rest
      → (text : List ℕ) × Appends between new text × TellsLine now number line (Ok tt) next text
      → LinesSoFar first script behind next (number + 1) old new
  line_more first script rest behind line now next number old between new so_far cut shorter told = record {
    lines = line ∷ so_far.lines;
    all = so_far.all ∙ ap (onto so_far.lines) cut;
    played = (now.play, so_far.played, told.2.plays);
    text = so_far.text ++ told.0;
    puts = appends_both old between new so_far.text told.0 so_far.puts told.1;
    told = told_more first now next line so_far.text told.0 so_far.told so_far.subs told.2;
    subs = told.2.plays.acts.subs ∙ so_far.subs;
    number_is = omega (arith, so_far.number_is);
    enough = omega (arith, so_far.enough, shorter);
  }

  -- it stops at this line, and others may follow
  pub line_stops : (first : TellState A) (script rest line : List ℕ) (more : List (List ℕ)) (now next : TellState A) (number : ℕ) (old between new : Option (List ℕ)) (fault : ReplayFault)
      → LinesSoFar first script rest now number old between → lines_of rest ≡ line ∷ more
      → (text : List ℕ) × Appends between new text × TellsLine now number line (Err fault) next text
      → (text : List ℕ) × Appends old new text × TellsScript first script (Err fault) text
  line_stops first script rest line more now next number old between new fault so_far cut told = (
    so_far.text ++ told.0,
    appends_both old between new so_far.text told.0 so_far.puts told.1,
    record {
      lines = so_far.lines;
      line = line;
      more = more;
      all = so_far.all ∙ ap (onto so_far.lines) cut;
      at = now;
      played = so_far.played;
      earlier = so_far.text;
      told = so_far.told;
      own = told.0;
      text_is = refl;
      why = subst (λ count. StopsAt now count line fault told.0) so_far.number_is told.2;
    },
  )

  -- the last line
  pub last_line : (result : Result (Unit {0}) ReplayFault) (first : TellState A) (script rest : List ℕ) (now next : TellState A) (number : ℕ) (old between new : Option (List ℕ))
      → LinesSoFar first script rest now number old between → lines_of rest ≡ rest ∷ []
      → (text : List ℕ) × Appends between new text × TellsLine now number rest result next text
      → (text : List ℕ) × Appends old new text × TellsScript first script result text
  last_line (Err fault) first script rest now next number old between new so_far cut told = line_stops first script rest rest [] now next number old between new fault so_far cut told
  last_line (Ok done) first script rest now next number old between new so_far cut told = (
    so_far.text ++ told.0,
    appends_both old between new so_far.text told.0 so_far.puts told.1,
    record {
      lines = rest ∷ so_far.lines;
      all = so_far.all ∙ ap (onto so_far.lines) cut;
      after = next;
      played = (now.play, so_far.played, told.2.plays);
      told = told_more first now next rest so_far.text told.0 so_far.told so_far.subs told.2;
    },
  )
