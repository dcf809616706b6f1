-- What a line has gained by its state, as it has turns, ends and drops outputs.
use Rattle.std.proofs.Common.{◌≡◌, ℕ, List, [], ◌∷◌, ◌++◌, refl, sym, ap, ◌∙◌, subst, Option, None, Some}
use Rattle.std.specs.declared.alloc.Global.{Global as Alloc}
use Rattle.xp_step.specs.declared.event.What.TheVariants.{Down}
use Rattle.xp_subs.specs.Tables.{Tables, modulus_of}
use Rattle.xp_lock.specs.Passes.{Pass}
use Rattle.xp_lines.specs.Offers.{Gains}
use Rattle.xp_lines.specs.Sessions.{AreMoved, AreSessions, Drops, PastSession, left_at_last}
use Rattle.xp_lines.specs.Wire.{Writes, WritesRest}
use Rattle.xp_lines.specs.steps.Serving.{EndsFor, GoesOnTo, IsLineSo, StaysSo, StopsWith, WritesOn}
use Rattle.xp_lines.specs.steps.Sessions.{Closes, IsOn, IsThere, here}
use Rattle.xp_lines.specs.Turns.{seen_on}
use Rattle.xp_lines.specs.declared.line.EndReason.{EndReason}
use Rattle.xp_lines.specs.declared.line.EndReason.TheVariants.{Stopped}
use Rattle.xp_lines.specs.declared.line_state.LineState.{LineState}
use Rattle.xp_lines.specs.declared.line_state.LineState.TheVariants as states
use Rattle.xp_lines.specs.declared.session.Session.{Session}
use Rattle.xp_lines.proofs.Sessions.{drops_both, ends_with, gone_with, goes_not, is_down, on_nothing, on_there, written_last}
use Rattle.xp_lines.proofs.Written.{rest_again, rest_more, rest_nothing}

module _ {A : Type 0} (subs : Tables) (of_link : Option (List ℕ) → Option (List ℕ) → Type 0) where
  -- outputs are dropped at the end
  sessions_drop : (first : Pass A) (sessions : List (PastSession A)) (pass new : Pass A) → AreSessions subs of_link first sessions pass → Drops pass new → AreSessions subs of_link first sessions new
  sessions_drop first [] pass new are drops = drops_both first pass new are drops
  sessions_drop first (session ∷ sessions) pass new are drops = (are.0, are.1, sessions_drop session.gone sessions pass new are.2 drops)

module _ (subs : Tables) (of_link : Option (List ℕ) → Option (List ℕ) → Type 0) where
  -- it is told for another reason
  pub ends_otherwise : (first : Pass Alloc) (why other : EndReason) (pass : Pass Alloc) → EndsFor subs of_link first why pass → (other ≡ Stopped → ⊥) → EndsFor subs of_link first other pass
  ends_otherwise first why other pass ends not_stopped = (ends.0, λ stopped. absurd (not_stopped stopped))

module _ {L : Type 0} (subs : Tables) (pushed pulled : L → Option (List ℕ)) where
  -- it has had no turn
  pub so_first : (pass : Pass Alloc) → IsLineSo subs pushed pulled pass (states.Open None) pass
  so_first pass = (refl, on_nothing subs (AreMoved pushed pulled) pass)

  -- its last link goes
  pub so_ended : (first : Pass Alloc) (session : Option (Session L Alloc)) (pass : Pass Alloc) (why : EndReason) (new : Pass Alloc)
      → pass.line ≡ first.line → IsOn subs (AreMoved pushed pulled) IsThere first (here pushed pulled session) pass
      → Closes (here pushed pulled session) why pass new → new.line ≡ pass.line → EndsFor subs (AreMoved pushed pulled) first why new
  so_ended first session pass why new line on closes same =
      let ends = ends_with subs (AreMoved pushed pulled) first (here pushed pulled session) pass why new on closes in
      ((same ∙ line, ends.0, ends.1), λ stopped. is_down subs (AreMoved pushed pulled) first why new ends stopped)

  -- an open line ends
  pub so_closes : (session : Option (Session L Alloc)) (pass : Pass Alloc) (why : EndReason) (new : Pass Alloc)
      → Closes (here pushed pulled session) why pass new → new.line ≡ pass.line → GoesOnTo subs pushed pulled session pass (states.Ended why) new
  so_closes session pass why new closes same first so =
      so_ended first session pass why new so.0 (on_there subs (AreMoved pushed pulled) first (here pushed pulled session) pass so.1) closes same

  -- an open line was stopped, and has still to write
  pub so_stops : (linked : Session L Alloc) (pass new : Pass Alloc)
      → Gains pass (Down ∷ []) new → new.line ≡ pass.line
      → GoesOnTo subs pushed pulled (Some linked) pass (states.Stopped linked) new
  so_stops linked pass new gains same first so =
      let here = seen_on pushed pulled linked in
      let gone = gone_with subs (AreMoved pushed pulled) first here.0 here.1 pass new (on_there subs (AreMoved pushed pulled) first (Some here) pass so.1) gains in
      let last = (left_at_last gone.session).seen in
      record {
        sessions = gone.sessions;
        session = gone.session;
        are = gone.are;
        gone = gone.all_gone;
        line = ap (λ (p : Pass Alloc). p.line) gone.gone_is ∙ same ∙ so.0;
        connection = sym gone.connection_is;
        writes =
            subst (λ (p : Pass Alloc). WritesRest (modulus_of subs gone.session.gone.line) gone.session.connection gone.session.gone last.unwritten last.pushed p linked.unwritten.items (pushed linked.link) []) gone.gone_is
            (subst (λ octets. WritesRest (modulus_of subs gone.session.gone.line) gone.session.connection gone.session.gone last.unwritten last.pushed gone.session.gone octets (pushed linked.link) [])
            (ap (λ s. s.unwritten) gone.seen_is)
            (subst (λ into. WritesRest (modulus_of subs gone.session.gone.line) gone.session.connection gone.session.gone last.unwritten last.pushed gone.session.gone last.unwritten into [])
            (ap (λ s. s.pushed) gone.seen_is)
            (rest_nothing (modulus_of subs gone.session.gone.line) gone.session.connection gone.session.gone last.unwritten last.pushed)));
      }

  -- a stopped line, once this link has got so much of what was owed to it
  ends_written : (first : Pass Alloc) (rest : Session L Alloc) (pass : Pass Alloc) → (so : StopsWith subs pushed pulled first rest pass) → (new : Pass Alloc) (link : L) (left lost : List ℕ)
      → WritesRest (modulus_of subs so.session.gone.line) so.session.connection so.session.gone (left_at_last so.session).seen.unwritten (left_at_last so.session).seen.pushed new left (pushed link) lost
      → EndsFor subs (AreMoved pushed pulled) first Stopped new
  ends_written first rest pass so new link left lost writes =
      let sessions = so.sessions ++ so.session ∷ [] in
      let are = sessions_drop subs (AreMoved pushed pulled) first sessions so.session.gone new so.are (writes.items, writes.took) in (
        (writes.took.line ∙ so.line, sessions, are),
        λ _. (
          sessions,
          are,
          so.gone,
          written_last subs (AreMoved pushed pulled) so.sessions so.session new
              (record { left = left; lost = lost; pushed = pushed link; pulled = pulled link; moved = (link, refl, refl); writes = writes }),
        ),
      )

  -- a stopped line, if no more is written
  pub ends_stopped : (first : Pass Alloc) (rest : Session L Alloc) (pass : Pass Alloc) → StopsWith subs pushed pulled first rest pass → EndsFor subs (AreMoved pushed pulled) first Stopped pass
  ends_stopped first rest pass so = ends_written first rest pass so pass rest.link rest.unwritten.items [] so.writes

  -- more is written, and something is left
  pub writes_more : (rest : Session L Alloc) (pass : Pass Alloc) (more : Session L Alloc) (new : Pass Alloc) → WritesOn (modulus_of subs pass.line) pushed rest pass (Some more) new
      → StaysSo subs pushed pulled (states.Stopped rest) pass (states.Stopped more) new
  writes_more rest pass more new on first so = record {
    sessions = so.sessions;
    session = so.session;
    are = so.are;
    gone = so.gone;
    line = so.line;
    connection = on.is_left.0 ∙ so.connection;
    writes =
        let last = (left_at_last so.session).seen in
        let all = rest_again (modulus_of subs so.session.gone.line) (modulus_of subs pass.line) so.session.connection so.session.gone last.unwritten last.pushed pass rest.unwritten.items (pushed rest.link)
        new on.left (pushed on.link) on.lost so.writes (ap (modulus_of subs) so.writes.took.line)
        (subst (λ connection. Writes (modulus_of subs pass.line) connection pass rest.unwritten.items (pushed rest.link) new on.left (pushed on.link) on.lost) so.connection on.writes) on.is_left.3 in
        subst (λ octets. WritesRest (modulus_of subs so.session.gone.line) so.session.connection so.session.gone last.unwritten last.pushed new octets (pushed more.link) []) (sym on.is_left.1)
        (subst (λ into. WritesRest (modulus_of subs so.session.gone.line) so.session.connection so.session.gone last.unwritten last.pushed new on.left into []) (sym on.is_left.2) all);
  }

  -- the last of it is written, or no more can be
  pub writes_all : (rest : Session L Alloc) (pass new : Pass Alloc) → WritesOn (modulus_of subs pass.line) pushed rest pass None new
      → StaysSo subs pushed pulled (states.Stopped rest) pass (states.Ended Stopped) new
  writes_all rest pass new on first so =
      let last = (left_at_last so.session).seen in
      ends_written first rest pass so new on.link on.left on.lost
      (rest_more (modulus_of subs so.session.gone.line) (modulus_of subs pass.line) so.session.connection so.session.gone last.unwritten last.pushed pass rest.unwritten.items (pushed rest.link)
      new on.left (pushed on.link) on.lost so.writes (ap (modulus_of subs) so.writes.took.line)
      (subst (λ connection. Writes (modulus_of subs pass.line) connection pass rest.unwritten.items (pushed rest.link) new on.left (pushed on.link) on.lost) so.connection on.writes))

  -- it is as it was
  pub so_stays : (session : Option (Session L Alloc)) (pass new : Pass Alloc) → new ≡ pass → GoesOnTo subs pushed pulled session pass (states.Open session) new
  so_stays session pass new same first so = subst (IsLineSo subs pushed pulled first (states.Open session)) (sym same) so

  -- it has ended, or its Down is owed, and that is told for another reason than that it was stopped
  pub so_otherwise : (first : Pass Alloc) (state : LineState L) (pass : Pass Alloc) (why : EndReason) → (why ≡ Stopped → ⊥)
      → IsLineSo subs pushed pulled first state pass → EndsFor subs (AreMoved pushed pulled) first why pass
  so_otherwise first (states.Open None) pass why not_stopped so =
      so_ended first None pass why pass so.0 (on_there subs (AreMoved pushed pulled) first None pass so.1) refl refl
  so_otherwise first (states.Open (Some session)) pass why not_stopped so =
      so_ended first (Some session) pass why pass so.0 (on_there subs (AreMoved pushed pulled) first (here pushed pulled (Some session)) pass so.1)
      (goes_not pass why pass refl not_stopped) refl
  so_otherwise first (states.Stopped rest) pass why not_stopped so =
      ends_otherwise subs (AreMoved pushed pulled) first Stopped why pass (ends_stopped first rest pass so) not_stopped
  so_otherwise first (states.Ended old) pass why not_stopped so = ends_otherwise subs (AreMoved pushed pulled) first old why pass so not_stopped
