-- For private steps. What a keeper of call detail records always keeps, how further records are given to the writer of its file, and
-- how that puts them on the disk.
use Rattle.std.specs.Prelude.{◌≡◌, ◌⊎◌, ◌<◌, List, Bool, true, false, length}
use Rattle.xp_cdr.specs.Ledger.{HasAll, IsWhole, Ledger, Takes, with_given}
use Rattle.xp_cdr.specs.declared.ended.EndedCall.{EndedCall}
use Rattle.xp_keeping.specs.Details.{IsFirstOf, Keeping}

-- The writer of the file was given all records, or a front of them where memory was wanting.
pub record IsGivenAs (keeping : Keeping) : Type 0 where
  pub front : IsFirstOf keeping.ledger.given keeping.given
  pub all : keeping.is_short ≡ false → keeping.ledger.given ≡ keeping.given

-- memory is wanting, and the writer is as it was, or it was given the records
abbrev pub Gives : Bool → Ledger → List EndedCall → Bool → Ledger → Type 0
Gives was_short old records is_short new =
    ((is_short ≡ true) × (new ≡ old)) ⊎ ((was_short ≡ false) × (is_short ≡ false) × (new ≡ with_given old records))

-- All is on the disk, or some octets wait.
pub record PutsOnDisk (old : Ledger) (is_on_disk : Bool) (new : Ledger) : Type 0 where
  pub takes : Takes old new
  pub whole : IsWhole new
  pub all : is_on_disk ≡ true → HasAll new
  pub lacks : is_on_disk ≡ false → 0 < length new.waiting
