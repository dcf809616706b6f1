-- A line that was read, with what it asks for.
use Rattle.std.proofs.Common.{◌≡◌, ℕ, List, All, Option, None, Some, subst, sym}
use Rattle.xp_step.specs.declared.event.Event.{Event}
use Rattle.xp_exchange.specs.declared.fault.ReplayFault.{ReplayFault}
use Rattle.xp_exchange.specs.declared.next_tables.AskedTables.{AskedTables}
use Rattle.xp_exchange.specs.declared.next_tables.NextTables.{NextTables}
use Rattle.xp_exchange.specs.FrameEvents.{Fits}
use Rattle.xp_exchange.specs.Play.{LineRead, PlayState, RefusesLine}
use Rattle.xp_exchange.specs.steps.Acting.{IsNext, IsPrepared, RefusesAsked, RefusesReload}
use Rattle.xp_exchange.specs.steps.Playing.{IsRead}
use Rattle.xp_exchange.proofs.TablesLines.{brings_line, not_reloaded}

-- what was prepared, if the line asks for anything
abbrev pub given_of : Option AskedTables → Option NextTables → Option NextTables
given_of None next = None
given_of (Some asked) next = next

module _ {A : Type 0} where
  pub line_read : (asked : Option AskedTables) (old read : PlayState A) (number : ℕ) (line : List ℕ) (before events : List (Event A)) (next : Option NextTables) → IsRead old number line before read asked
      → IsPrepared read.exchange read.named asked read.moment before events next → LineRead old line events read (given_of asked next)
  line_read None old read number line before events next reads same = subst (λ list. LineRead old line list read None) (sym same) reads
  line_read (Some asked) old read number line before events next reads prepared =
      let kept : read ≡ old = reads.3 in
      let is : IsNext old.exchange old.named asked.tables old.moment events prepared.0 =
      subst (λ (state : PlayState A). IsNext state.exchange state.named asked.tables state.moment events prepared.0) kept prepared.2 in
      let fits : All (Fits old.exchange.subs) events = subst (λ (state : PlayState A). All (Fits state.exchange.subs) events) kept prepared.3 in
      subst (λ given. LineRead old line events read given) (sym prepared.1) (brings_line old line asked.tables events prepared.0 reads.0 reads.1 is, kept, fits)

  -- what it asks for is refused
  pub unprepared : (asked : Option AskedTables) (fault : ReplayFault) (old read : PlayState A) (number : ℕ) (line : List ℕ) (before : List (Event A)) → IsRead old number line before read asked
      → RefusesAsked read.exchange read.named asked fault → RefusesLine old number line fault
  unprepared None fault old read number line before reads refused = elim refused [ ]
  unprepared (Some asked) fault old read number line before reads refused =
      not_reloaded fault old number asked.tables line reads.0
      (subst (λ count. RefusesReload old.exchange old.named asked.tables count fault) reads.2
      (subst (λ (state : PlayState A). RefusesReload state.exchange state.named asked.tables asked.line fault) reads.3 refused))
