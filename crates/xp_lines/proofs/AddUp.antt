-- That the links of a line add up, one after the other.
use Rattle.std.proofs.Common.{◌≡◌, ◌⊎◌, ℕ, List, [], ◌∷◌, ◌++◌, refl, sym, ap, ◌∙◌, append_assoc, append-nil, flat_map, map, subst, inl, inr}
use Rattle.std.proofs.lemmas.List.{map-append}
use Rattle.xp_packets.specs.declared.modulus.Modulus.{Modulus}
use Rattle.xp_subs.specs.Tables.{Tables, modulus_of}
use Rattle.xp_step.specs.declared.entry.Entry.{Entry}
use Rattle.xp_step.specs.declared.event.Event.{Event}
use Rattle.xp_step.specs.declared.event.What.{What}
use Rattle.xp_step.specs.declared.event.What.TheVariants.{Up, Down}
use Rattle.xp_lock.specs.Passes.{Pass, own_entries}
use Rattle.xp_lines.specs.AddUp.{Brings, LinksAddUp}
use Rattle.xp_links.specs.Pairs.{AreEach}
use Rattle.xp_lines.specs.Offers.{Gains, happened, on_line}
use Rattle.xp_lines.specs.Sessions.{AreSessions, ComesUp, Drops, Goes, IsAnyLink, IsSession, PastSession, left_at_last}
use Rattle.xp_lines.specs.Together.{IsLeftSo, Left}
use Rattle.xp_lines.specs.declared.turning.TurnOutcome.{TurnOutcome}
use Rattle.xp_lines.specs.declared.turning.TurnOutcome.TheVariants.{Linked, Dropped, DownOwed, Halted, Journal}
use Rattle.xp_lines.proofs.Together.{IsLeft, left_by, none_closed, together_of, took_mine}

is_dropped : (after : TurnOutcome) → (after ≡ Dropped) ⊎ (after ≡ Dropped → ⊥)
is_dropped Linked = inr (λ is. let both : Linked ≡ Dropped = is in cc)
is_dropped Dropped = inl refl
is_dropped DownOwed = inr (λ is. let both : DownOwed ≡ Dropped = is in cc)
is_dropped Halted = inr (λ is. let both : Halted ≡ Dropped = is in cc)
is_dropped Journal = inr (λ is. let both : Journal ≡ Dropped = is in cc)

module _ {A : Type 0} where
  -- the pass gained these events of its line, as entries of its own
  pub record Grows (line : ℕ) (old : Pass A) (whats : List (What A)) (new : Pass A) : Type 0 where
    pub entries : List (Entry A)
    pub own_entries_are : own_entries new ≡ own_entries old ++ entries
    pub events : map happened entries ≡ map (on_line line) whats
    pub line_is : new.line ≡ line

  grows_both : (line : ℕ) (old now new : Pass A) (whats others : List (What A)) → Grows line old whats now → Grows line now others new → Grows line old (whats ++ others) new
  grows_both line old now new whats others a b = record {
    entries = a.entries ++ b.entries;
    own_entries_are = b.own_entries_are ∙ ap (λ xs. xs ++ b.entries) a.own_entries_are ∙ append_assoc (own_entries old) a.entries b.entries;
    events =
        map-append happened a.entries b.entries ∙ ap (λ xs. xs ++ map happened b.entries) a.events ∙ ap (λ xs. map (on_line line) whats ++ xs) b.events
        ∙ sym (map-append (on_line line) whats others);
    line_is = b.line_is;
  }

  grows_same : (line : ℕ) (old new : Pass A) → own_entries new ≡ own_entries old → new.line ≡ line → Grows line old [] new
  grows_same line old new same is = record { entries = []; own_entries_are = same ∙ sym (append-nil (own_entries old)); events = refl; line_is = is }

  grows_by : (line : ℕ) (old : Pass A) (whats : List (What A)) (new : Pass A) → old.line ≡ line → Gains old whats new → Grows line old whats new
  grows_by line old whats new is gains = record {
    entries = gains.entries;
    own_entries_are = gains.own_entries_are;
    events = gains.events ∙ ap (λ l. map (on_line l) whats) is;
    line_is = gains.line ∙ is;
  }

  grows_drops : (line : ℕ) (old new : Pass A) → old.line ≡ line → Drops old new → Grows line old [] new
  grows_drops line old new is drops = grows_same line old new (took_mine old drops.0 new drops.1) (drops.1.line ∙ is)

  -- the Up of a link
  grows_up : (subs : Tables) (line : ℕ) (old : Pass A) (connection : ℕ) (came : Pass A) → old.line ≡ line → ComesUp subs old connection came → Grows line old (Up ∷ []) came
  grows_up subs line old connection came is comes =
      let before : comes.before.line ≡ line = comes.drops.1.line ∙ is in
      record {
        entries = comes.gains.entered.forcing.entry ∷ [];
        own_entries_are = comes.gains.own_entries_are ∙ ap (λ xs. xs ++ comes.gains.entered.forcing.entry ∷ []) (took_mine old comes.drops.0 comes.before comes.drops.1);
        events = ap (λ (e : Event A). on_line e.line e.what ∷ []) comes.gains.entered.event_is ∙ ap (λ l. on_line l Up ∷ []) before;
        line_is = comes.gains.line ∙ before;
      }

  not_dropped : (after : TurnOutcome) (last gone : Pass A) → (after ≡ Dropped → ⊥) → Goes after last gone → Gains last (Down ∷ []) gone ⊎ (gone ≡ last)
  not_dropped Linked last gone there goes = goes
  not_dropped Dropped last gone there goes = absurd (there refl)
  not_dropped DownOwed last gone there goes = goes
  not_dropped Halted last gone there goes = goes
  not_dropped Journal last gone there goes = goes

  -- what one link brought
  abbrev pub BroughtBy : Modulus → ℕ → Pass A → PastSession A → Type 0
  BroughtBy modulus line old session = (events : List (What A)) × Brings modulus session events × Grows line old events session.gone

module _ {A : Type 0} (subs : Tables) (old : Pass A) (session : PastSession A) (is : IsSession subs IsAnyLink old session) where
  modulus : Modulus
  modulus = modulus_of subs old.line

  last : Left A
  last = left_at_last session

  next : IsLeft modulus session.connection session.came session.seen last
  unfolding modulus last
  next = left_by A modulus session.connection session.came session.seen session.turns is.fresh is.turns

  together : IsLeftSo modulus session.connection session.came session.seen last
  unfolding modulus last
  together = together_of modulus session.connection session.came session.seen last.after last.pass last.seen next

  up : Grows old.line old (Up ∷ []) session.came
  up = grows_up subs old.line old session.connection session.came refl is.comes

  turns : Grows old.line session.came (together.whats ++ together.closing) last.pass
  unfolding last
  turns = record {
    entries = together.entries;
    own_entries_are = together.own_entries_are;
    events = together.events ∙ ap (λ line. map (on_line line) (together.whats ++ together.closing)) up.line_is;
    line_is = together.line ∙ up.line_is;
  }

  -- the last turn took the Down, or none was taken
  closed : last.pass ≡ session.gone → BroughtBy modulus old.line old session
  unfolding modulus last
  closed same = (
    Up ∷ (together.whats ++ together.closing),
    record { together = together; closing = together.closing; is_closing = together.is_closing; events_are = refl },
    subst (Grows old.line old (Up ∷ (together.whats ++ together.closing))) same (grows_both old.line old session.came last.pass (Up ∷ []) (together.whats ++ together.closing) up turns),
  )

  -- the Down was taken as the line ended
  closed_last : together.closing ≡ [] → Gains last.pass (Down ∷ []) session.gone → BroughtBy modulus old.line old session
  unfolding modulus last
  closed_last none gains =
      let before : Grows old.line session.came together.whats last.pass =
      subst (λ whats. Grows old.line session.came whats last.pass) (ap (λ closing. together.whats ++ closing) none ∙ append-nil together.whats) turns in (
        Up ∷ (together.whats ++ Down ∷ []),
        record { together = together; closing = Down ∷ []; is_closing = inr refl; events_are = refl },
        grows_both old.line old session.came session.gone (Up ∷ []) (together.whats ++ Down ∷ []) up
            (grows_both old.line session.came last.pass session.gone together.whats (Down ∷ []) before (grows_by old.line last.pass (Down ∷ []) session.gone turns.line_is gains)),
      )

  by_end : together.closing ≡ [] → Gains last.pass (Down ∷ []) session.gone ⊎ (session.gone ≡ last.pass) → BroughtBy modulus old.line old session
  by_end none (inl gains) = closed_last none gains
  by_end none (inr same) = closed (sym same)

  by_last : (last.after ≡ Dropped) ⊎ (last.after ≡ Dropped → ⊥) → BroughtBy modulus old.line old session
  unfolding last together
  by_last (inl dropped) = closed (sym (subst (λ after. Goes after last.pass session.gone) dropped is.goes))
  by_last (inr there) =
      by_end (none_closed modulus session.connection session.came session.seen last.after last.pass last.seen there next) (not_dropped last.after last.pass session.gone there is.goes)

  pub session_brings : BroughtBy (modulus_of subs old.line) old.line old session
  unfolding modulus last
  session_brings = by_last (is_dropped last.after)

module _ {A : Type 0} (subs : Tables) where
  links_from : (line : ℕ) (old : Pass A) (sessions : List (PastSession A)) (new : Pass A) → old.line ≡ line → AreSessions subs IsAnyLink old sessions new
      → (brought : List (List (What A))) × AreEach (Brings (modulus_of subs line)) sessions brought × Grows line old (flat_map (λ whats. whats) brought) new
  links_from line old [] new is are = ([], tt, grows_drops line old new is are)
  links_from line old (session ∷ sessions) new is are =
      let here : BroughtBy (modulus_of subs line) line old session = subst (λ l. BroughtBy (modulus_of subs l) l old session) is (session_brings subs old session are.0) in
      let rest = links_from line session.gone sessions new here.2.line_is are.2 in
      (here.0 ∷ rest.0, (here.1, rest.1), grows_both line old session.gone new here.0 (flat_map (λ whats. whats) rest.0) here.2 rest.2)

pub links_add_up : (A : Type 0) → LinksAddUp A
links_add_up A subs old sessions new are =
    let from = links_from subs old.line old sessions new refl are in
    record { brought = from.0; each = from.1; entries = from.2.entries; own_entries_are = from.2.own_entries_are; events = from.2.events }
