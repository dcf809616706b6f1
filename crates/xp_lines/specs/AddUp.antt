-- What a line gains of its own is what its links brought (`LinksAddUp`).
use Rattle.std.specs.Prelude.{◌≡◌, List, ◌∷◌, ◌++◌, flat_map, map}
use Rattle.xp_packets.specs.declared.modulus.Modulus.{Modulus}
use Rattle.xp_subs.specs.Tables.{Tables, modulus_of}
use Rattle.xp_step.specs.declared.entry.Entry.{Entry}
use Rattle.xp_step.specs.declared.event.What.{What}
use Rattle.xp_step.specs.declared.event.What.TheVariants.{Up}
use Rattle.xp_lock.specs.Passes.{Pass, own_entries}
use Rattle.xp_lines.specs.Offers.{happened, on_line}
use Rattle.xp_links.specs.Pairs.{AreEach}
use Rattle.xp_lines.specs.Sessions.{AreSessions, IsAnyLink, PastSession, left_at_last}
use Rattle.xp_lines.specs.Together.{IsClosing, IsLeftSo}

module _ {A : Type 0} where
  -- The events of a link in order: its Up, those of its turns, which add up, and its Down, if the exchange accepted that.
  pub record Brings (modulus : Modulus) (session : PastSession A) (events : List (What A)) : Type 0 where
    pub together : IsLeftSo modulus session.connection session.came session.seen (left_at_last session)
    pub closing : List (What A)
    pub is_closing : IsClosing closing
    pub events_are : events ≡ Up ∷ (together.whats ++ closing)

  -- The entries that the line gained of its own are the events of its links, one link after the other.
  pub record AddUp (modulus : Modulus) (old : Pass A) (sessions : List (PastSession A)) (new : Pass A) : Type 0 where
    pub brought : List (List (What A))
    pub each : AreEach (Brings modulus) sessions brought
    pub entries : List (Entry A)
    pub own_entries_are : own_entries new ≡ own_entries old ++ entries
    pub events : map happened entries ≡ map (on_line old.line) (flat_map (λ whats. whats) brought)

-- all links of a line add up
abbrev pub LinksAddUp : Type 0 → Type 0
LinksAddUp A = (subs : Tables) (old : Pass A) (sessions : List (PastSession A)) (new : Pass A) → AreSessions subs IsAnyLink old sessions new → AddUp (modulus_of subs old.line) old sessions new
