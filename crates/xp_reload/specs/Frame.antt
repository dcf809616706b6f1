-- What may change of the subscriptions while the exchange serves, and what stays: their frame.
use Rattle.std.specs.Prelude.{◌≡◌, ◌<◌, ℕ}
use Rattle.xp_subs.specs.Tables.{Tables, line_count, modulus_of}
use Rattle.xp_subs.specs.declared.line.Line.{Line}
use Rattle.xp_reload.specs.declared.frame.FrameChange.{FrameChange}
use Rattle.xp_reload.specs.declared.frame.FrameChange.TheVariants as changes

-- a place keeps its line: the line has the same name, and the same port or router, or the place is spare as before
pub record KeepsLine (old new : Line) : Type 0 where
  pub name : new.name ≡ old.name
  pub access : new.access ≡ old.access

-- the limits of segments and of history entries, where the exchange listens, and its name
pub record HasSameSettings (old new : Tables) : Type 0 where
  pub segment_limit : new.segment_limit ≡ old.segment_limit
  pub journal : new.journal ≡ old.journal
  pub host : new.host ≡ old.host
  pub xot_port : new.xot_port ≡ old.xot_port
  pub name : new.name ≡ old.name

-- there are as many places for lines, and each place has its modulus, also a spare one
pub record IsSameFrame (old new : Tables) : Type 0 where
  pub count : line_count new ≡ line_count old
  pub moduli : (line : ℕ) → line < line_count old → modulus_of new line ≡ modulus_of old line
  pub settings : HasSameSettings old new

-- what differs
abbrev pub Differs : Tables → Tables → FrameChange → Type 0
Differs old new changes.LineCount = line_count new ≡ line_count old → ⊥
Differs old new (changes.Modulus line) = (line < line_count old) × (modulus_of new line ≡ modulus_of old line → ⊥)
Differs old new changes.SegmentLimit = new.segment_limit ≡ old.segment_limit → ⊥
Differs old new changes.Journal = new.journal ≡ old.journal → ⊥
Differs old new changes.Host = new.host ≡ old.host → ⊥
Differs old new changes.XotPort = new.xot_port ≡ old.xot_port → ⊥
Differs old new changes.Name = new.name ≡ old.name → ⊥
