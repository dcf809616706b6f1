-- What is told of a history, in each form.
use Rattle.std.specs.Prelude.{ℕ, List, [], ◌∷◌, ◌++◌, None, map, replicate}
use Rattle.xp_capture.specs.Capture.{first_flow}
use Rattle.xp_capture.specs.FileHeader.{file_header}
use Rattle.xp_subs.specs.Tables.{Tables}
use Rattle.xp_step.specs.declared.entry.Entry.{Entry}
use Rattle.xp_transcript.specs.declared.form.Form.{Form}
use Rattle.xp_transcript.specs.declared.form.Form.TheVariants as forms
use Rattle.xp_transcript.specs.declared.teller.Teller.{Teller}
use Rattle.xp_transcript.specs.declared.teller.Teller.TheVariants as tellers
use Rattle.xp_transcript.specs.Places.{alone}
use Rattle.xp_step.specs.InForce.{last_of}
use Rattle.xp_transcript.specs.Changed.{gone_lines, new_lines}
use Rattle.xp_transcript.specs.Rows.{after_entry, entry_rows, reload_row, renewed_ladder}
use Rattle.xp_transcript.specs.Segments.{entry_segments, flows_by_entry}
use Rattle.xp_transcript.specs.Words.{entry_words, reload_words}

-- what stands in front of all entries: the header of a capture file
abbrev pub front_of : Form → List ℕ
front_of forms.Words = []
front_of forms.Ladder = []
front_of forms.Capture = file_header

-- how the first entry is told of an exchange of so many lines
unfoldable pub first_teller : Form → ℕ → Teller
first_teller forms.Words count = tellers.Words
first_teller forms.Ladder count = tellers.Ladder (record { places = replicate count alone; headed = None })
first_teller forms.Capture count = tellers.Capture (replicate count first_flow)

-- what is told where tables of this name come into force after others; a capture file has the packets alone
unfoldable pub reload_told : ℕ → List ℕ → Tables → Tables → Teller → List ℕ
reload_told moment name old next tellers.Words = reload_words moment name (new_lines old next) (gone_lines old next)
reload_told moment name old next (tellers.Ladder ladder) = reload_row moment name (new_lines old next) (gone_lines old next)
reload_told moment name old next (tellers.Capture flows) = []

-- how the next entry is told then
unfoldable pub teller_renewed : Tables → Tables → Teller → Teller
teller_renewed old next tellers.Words = tellers.Words
teller_renewed old next (tellers.Ladder ladder) = tellers.Ladder (renewed_ladder old next ladder)
teller_renewed old next (tellers.Capture flows) = tellers.Capture flows

-- An entry, and the name under which it is told of the tables that it brings, if it brings some.
pub record ToldEntry (A : Type 0) : Type 0 where
  pub entry : Entry A
  pub name : List ℕ

module _ {A : Type 0} where
  abbrev pub entries_of : List (ToldEntry A) → List (Entry A)
  entries_of told = map (λ (one : ToldEntry A). one.entry) told

  -- of an entry that brings no tables
  unfoldable pub plain_told : Tables → Teller → Entry A → List ℕ
  plain_told tables tellers.Words entry = entry_words tables entry
  plain_told tables (tellers.Ladder ladder) entry = entry_rows tables ladder entry
  plain_told tables (tellers.Capture flows) entry = entry_segments tables flows entry

  unfoldable pub teller_on : Tables → Teller → Entry A → Teller
  teller_on tables tellers.Words entry = tellers.Words
  teller_on tables (tellers.Ladder ladder) entry = tellers.Ladder (after_entry ladder entry)
  teller_on tables (tellers.Capture flows) entry = tellers.Capture (flows_by_entry tables flows entry)

  -- of any entry, where these tables are in force before it, by those that it brings
  abbrev pub told_by : Tables → Teller → List ℕ → Entry A → List Tables → List ℕ
  told_by force teller name entry [] = plain_told force teller entry
  told_by force teller name entry (next ∷ none) = reload_told entry.event.moment name force next teller

  abbrev pub entry_told : Tables → Teller → List ℕ → Entry A → List ℕ
  entry_told force teller name entry = told_by force teller name entry entry.tables.items

  abbrev pub teller_by : Tables → Teller → Entry A → List Tables → Teller
  teller_by force teller entry [] = teller_on force teller entry
  teller_by force teller entry (next ∷ none) = teller_renewed force next teller

  -- how the next entry is told
  abbrev pub teller_after : Tables → Teller → Entry A → Teller
  teller_after force teller entry = teller_by force teller entry entry.tables.items

  -- the entries, each told in turn, where these tables are in force before the first of them
  abbrev pub transcript : Tables → Teller → List (ToldEntry A) → List ℕ
  transcript force teller [] = []
  transcript force teller (one ∷ told) =
      entry_told force teller one.name one.entry
      ++ transcript (last_of force one.entry.tables.items) (teller_after force teller one.entry) told

  abbrev pub teller_behind : Tables → Teller → List (ToldEntry A) → Teller
  teller_behind force teller [] = teller
  teller_behind force teller (one ∷ told) =
      teller_behind (last_of force one.entry.tables.items) (teller_after force teller one.entry) told
