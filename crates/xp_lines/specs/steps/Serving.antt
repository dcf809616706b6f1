-- For private steps. What a line has gained so far, by its state, and how it ends.
use Rattle.std.specs.Prelude.{◌≡◌, ℕ, List, [], ◌∷◌, ◌++◌, Option, None, Some}
use Rattle.std.specs.List.{AllByRecursion}
use Rattle.std.specs.declared.alloc.Global.{Global as Alloc}
use Rattle.xp_packets.specs.declared.modulus.Modulus.{Modulus}
use Rattle.xp_subs.specs.Tables.{Tables, modulus_of}
use Rattle.xp_lock.specs.Passes.{Pass}
use Rattle.xp_lines.specs.Sessions.{AreMoved, AreSessions, IsGone, IsLineDown, IsLineServed, PastSession, left_at_last}
use Rattle.xp_lines.specs.steps.Sessions.{GoesOn, IsOn, here}
use Rattle.xp_lines.specs.declared.line.EndReason.{EndReason}
use Rattle.xp_lines.specs.declared.line.EndReason.TheVariants as reasons
use Rattle.xp_lines.specs.declared.line.LineEnd.{LineEnd}
use Rattle.xp_lines.specs.declared.line_state.LineState.{LineState}
use Rattle.xp_lines.specs.declared.line_state.LineState.TheVariants as states
use Rattle.xp_lines.specs.declared.session.Session.{Session}
use Rattle.xp_lines.specs.Wire.{Writes, WritesRest}

-- the pass with which a line began, of those that are noted
abbrev pub first_of : List (Pass Alloc) → Pass Alloc
first_of [] = record { line = 0; seen = []; taken = [] }
first_of (pass ∷ more) = pass

-- what is still to be written on a link, and these octets were pushed into it
abbrev pub IsLeft : {L : Type 0} → (L → Option (List ℕ)) → Session L Alloc → List ℕ → Option (List ℕ) → List ℕ → Option (Session L Alloc) → Type 0
IsLeft into rest left pushed lost None = Unit {0}
IsLeft into rest left pushed lost (Some more) = (more.connection ≡ rest.connection) × (more.unwritten.items ≡ left) × (into more.link ≡ pushed) × (lost ≡ [])

-- More of what waits for a link is written. Where something is left, nothing was lost.
pub record WritesOn {L : Type 0} (modulus : Modulus) (into : L → Option (List ℕ)) (rest : Session L Alloc) (old : Pass Alloc) (result : Option (Session L Alloc)) (new : Pass Alloc) : Type 0 where
  pub link : L
  pub left : List ℕ
  pub lost : List ℕ
  pub writes : Writes modulus rest.connection old rest.unwritten.items (into rest.link) new left (into link) lost
  pub is_left : IsLeft into rest left (into link) lost result

module _ (subs : Tables) (of_link : Option (List ℕ) → Option (List ℕ) → Type 0) where
  -- the line has ended for this reason: what it gained is what its links brought, and where it was stopped, it is down
  abbrev pub EndsFor : Pass Alloc → EndReason → Pass Alloc → Type 0
  EndsFor first why pass = IsLineServed subs of_link first pass × (why ≡ reasons.Stopped → IsLineDown subs of_link first pass)

  -- this is how the line with this pass ended
  abbrev pub EndsSo : {N : Type 0} → Pass Alloc → LineEnd N Alloc → Type 0
  EndsSo first end = EndsFor first end.why end.pass

module _ {L : Type 0} (subs : Tables) (pushed pulled : L → Option (List ℕ)) where
  -- The line was stopped: its last link went, and since then this is what the link got, and what is still to be written.
  pub record StopsWith (first : Pass Alloc) (rest : Session L Alloc) (pass : Pass Alloc) : Type 0 where
    pub sessions : List (PastSession Alloc)
    pub session : PastSession Alloc
    pub are : AreSessions subs (AreMoved pushed pulled) first (sessions ++ session ∷ []) session.gone
    pub gone : AllByRecursion IsGone (sessions ++ session ∷ [])
    pub line : session.gone.line ≡ first.line
    pub connection : rest.connection ≡ session.connection
    pub writes : WritesRest (modulus_of subs session.gone.line) session.connection session.gone (left_at_last session).seen.unwritten (left_at_last session).seen.pushed pass rest.unwritten.items (pushed rest.link) []

  -- what the line has gained since it had its first pass
  abbrev pub IsLineSo : Pass Alloc → LineState L → Pass Alloc → Type 0
  IsLineSo first (states.Open session) pass = (pass.line ≡ first.line) × IsOn subs (AreMoved pushed pulled) GoesOn first (here pushed pulled session) pass
  IsLineSo first (states.Stopped rest) pass = StopsWith first rest pass
  IsLineSo first (states.Ended why) pass = EndsFor subs (AreMoved pushed pulled) first why pass

  -- an open line goes on to another state
  abbrev pub GoesOnTo : Option (Session L Alloc) → Pass Alloc → LineState L → Pass Alloc → Type 0
  GoesOnTo session old state new = (first : Pass Alloc) → IsLineSo first (states.Open session) old → IsLineSo first state new

  -- a line in one state goes on to another
  abbrev pub StaysSo : LineState L → Pass Alloc → LineState L → Pass Alloc → Type 0
  StaysSo state old after new = (first : Pass Alloc) → IsLineSo first state old → IsLineSo first after new

-- this is why a line in this state has ended
abbrev pub IsWhy : {L : Type 0} → (L → Option (List ℕ)) → (L → Option (List ℕ)) → LineState L → EndReason → Type 0
IsWhy pushed pulled state why = (subs : Tables) (first pass : Pass Alloc) → IsLineSo subs pushed pulled first state pass → EndsFor subs (AreMoved pushed pulled) first why pass
