-- One line that is played.
use Rattle.std.proofs.Common.{◌≡◌, ◌⊎◌, ◌<◌, ◌+◌, ℕ, List, [], ◌∷◌, length, Option, None, Some, Result, Ok, Err, inl, inr, refl, sym, ◌∙◌, subst, append-nil}
use Rattle.std.specs.Io.KnownBytes.{Appends, Keeps}
use Rattle.xp_step.specs.declared.event.Event.{Event}
use Rattle.xp_step.specs.Exchange.{Exchange}
use Rattle.xp_script.specs.declared.command.Command.{Command}
use Rattle.xp_script.specs.Command.{said}
use Rattle.xp_exchange.specs.declared.fault.ReplayFault.{ReplayFault}
use Rattle.xp_exchange.specs.declared.fault.ReplayFault.TheVariants.{Script, Journal, Memory, Read, Write, Lay, Reload}
use Rattle.xp_exchange.specs.steps.Acting.{Acted, ActsOnFirst}
use Rattle.xp_exchange.specs.Play.{BeginsLine, LacksPlaces, PlayState, Plays, ReadsLine, RefusesLine, force_in, moment_after}
use Rattle.xp_exchange.specs.WholeScript.{IsWritten}
use Rattle.xp_exchange.specs.steps.Playing.{Played}
use Rattle.xp_writing.proofs.Bytes.{appends_kept}
use Rattle.xp_exchange.proofs.Tellings.{told_nothing, told_whole}

module _ {A : Type 0} where
  abbrev begins : (old : PlayState A) (line : List ℕ) (command : Command A) (events : List (Event A)) (after : List (List ℕ)) (now : Exchange A)
      → said (force_in old.exchange) old.named line ≡ Some command → Plays old command events after None
      → ActsOnFirst old.exchange events now → BeginsLine old line now
  begins old line command events after now says plays acted = record {
    command = command;
    says = says;
    events = events;
    after = after;
    brought = None;
    plays = plays;
    first = acted.first;
    later = acted.later;
    in_order = acted.in_order;
    acts = acted.acts;
    brings = tt;
  }

  -- what came of its events is what came of the line
  pub played : (result : Result (Unit {0}) ReplayFault) (old new : PlayState A) (number : ℕ) (line : List ℕ) (command : Command A) (events : List (Event A)) (text : List ℕ)
      → said (force_in old.exchange) old.named line ≡ Some command → Plays old command events new.unfinished None → new.moment ≡ moment_after old.moment command
      → new.named ≡ old.named → Acted old.exchange events result new.exchange text → Played old number line result new text
  played (Ok done) old new number line command events text says plays then same acted = (
    record {
      command = command;
      says = says;
      events = events;
      brought = None;
      plays = plays;
      moment = then;
      acts = acted.0;
      brings = tt;
      named = same;
    },
    acted.1,
  )
  played (Err Journal) old new number line command events text says plays then same acted =
      (begins old line command events new.unfinished new.exchange says plays acted.0, acted.1, (acted.2, acted.3))
  played (Err Memory) old new number line command events text says plays then same acted =
      inr (begins old line command events new.unfinished new.exchange says plays acted.0, acted.1)
  played (Err Write) old new number line command events text says plays then same acted =
      (begins old line command events new.unfinished new.exchange says plays acted.0, acted.1)
  played (Err (Script found)) old new number line command events text says plays then same acted = elim acted [ ]
  played (Err Read) old new number line command events text says plays then same acted = elim acted [ ]
  played (Err (Lay found tables)) old new number line command events text says plays then same acted = elim acted [ ]
  played (Err (Reload found tables why)) old new number line command events text says plays then same acted = elim acted [ ]

  -- what came of its events is what came of the line that was read
  pub played_read : (result : Result (Unit {0}) ReplayFault) (old read new : PlayState A) (number : ℕ) (line : List ℕ) (events : List (Event A)) (text : List ℕ)
      → ReadsLine old line events read → new.unfinished ≡ read.unfinished → new.moment ≡ read.moment → new.named ≡ read.named
      → Acted read.exchange events result new.exchange text → Played old number line result new text
  played_read result old read new number line events text reads rest moment named acted =
      played result old new number line reads.command events text reads.says (subst (λ unfinished. Plays old reads.command events unfinished None) (sym rest) reads.plays) (moment ∙ reads.moment) (named ∙ reads.named)
      (subst (λ exchange. Acted exchange events result new.exchange text) reads.exchange acted)

  -- a line that is not read
  pub not_read : (fault : ReplayFault) (old new : PlayState A) (number : ℕ) (line : List ℕ) → RefusesLine old number line fault → new.exchange ≡ old.exchange
      → Played old number line (Err fault) new []
  not_read (Script found) old new number line refused same = (refused.0, refused.1, (same, refl))
  not_read Memory old new number line refused same = inl (same, refl)
  not_read Journal old new number line refused same =
      subst (λ exchange. (begun : BeginsLine old line exchange) × IsWritten old.exchange exchange [] × LacksPlaces begun.brought exchange begun.later) (sym same)
      (refused.0, told_nothing old.exchange, refused.1)
  not_read (Lay found tables) old new number line refused same = (refused.0, refused.1, refused.2, (same, refl))
  not_read (Reload found tables why) old new number line refused same = (refused.0, refused.1, refused.2, (same, refl))
  not_read Read old new number line refused same = elim refused [ ]
  not_read Write old new number line refused same = elim refused [ ]

  -- what was played to its end was also begun
  pub played_in_part : (old new : PlayState A) (number : ℕ) (line text : List ℕ) → Played old number line (Ok tt) new text → Played old number line (Err Write) new text
  played_in_part old new number line text done = (
    record {
      command = done.0.command;
      says = done.0.says;
      events = done.0.events;
      after = new.unfinished;
      brought = done.0.brought;
      plays = done.0.plays;
      first = done.0.events;
      later = [];
      in_order = sym (append-nil done.0.events);
      acts = done.0.acts;
      brings = done.0.brings;
    },
    told_whole old.exchange new.exchange text done.1,
  )

  -- The line was played, and the writer flushed or not.
  pub flushed : (result : Result (Unit {0}) ReplayFault) (old new : PlayState A) (number : ℕ) (line : List ℕ) (first between last : Option (List ℕ))
      → (result ≡ Ok tt) ⊎ (result ≡ Err Write)
      → (text : List ℕ) × Appends first between text × Played old number line (Ok tt) new text → Keeps between last
      → (text : List ℕ) × Appends first last text × Played old number line result new text
  flushed result old new number line first between last (inl ok) done keeps =
      subst (λ answer. (text : List ℕ) × Appends first last text × Played old number line answer new text) (sym ok)
      (done.0, appends_kept first between last done.0 done.1 keeps, done.2)
  flushed result old new number line first between last (inr err) done keeps =
      subst (λ answer. (text : List ℕ) × Appends first last text × Played old number line answer new text) (sym err)
      (done.0, appends_kept first between last done.0 done.1 keeps, played_in_part old new number line done.0 done.2)
