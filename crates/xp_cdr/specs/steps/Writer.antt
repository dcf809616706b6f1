-- For private steps. What a writer of details keeps.
use Rattle.std.specs.Prelude.{◌≡◌, ℕ, ◌<◌, ◌≤◌, List, [], ◌∷◌, ◌++◌, All, Option, None, Some, Result, Ok, Err, drop, flat_map, length, take}
use Rattle.xp_cdr.specs.declared.cut.Cut.{Cut}
use Rattle.xp_cdr.specs.declared.ended.EndedCall.{EndedCall}
use Rattle.xp_cdr.specs.declared.giving.Giving.{Giving}
use Rattle.xp_cdr.specs.declared.progress.Progress.{Progress}
use Rattle.xp_cdr.specs.Details.{detail_text}
use Rattle.xp_cdr.specs.Files.{HasFront}
use Rattle.xp_cdr.specs.Parts.{BeginLater, EndedBefore, EndedBy, OpenFile}
use Rattle.xp_cdr.specs.steps.Batch.{Texts, end_of_all, first_cut}

-- the call detail record of a call
abbrev pub told_text : Giving → EndedCall → List ℕ
told_text giving call = detail_text giving.run call

-- Behind what it has on the disk, the file has taken so many of these octets. Where it is not known how many, it has taken a front
-- of them.
abbrev pub IsAt : List ℕ → List ℕ → List ℕ → Option ℕ → Type 0
IsAt synced octets taken None = HasFront synced octets taken
IsAt synced octets taken (Some count) = (count ≤ length octets) × (taken ≡ synced ++ take count octets)

-- After a cut, where one was wanted, it is known that the file has taken the first `start` octets behind what it has on the disk.
abbrev pub IsSettled : List ℕ → List ℕ → List ℕ → Option ℕ → ℕ → Type 0
IsSettled synced old new None start = (start ≡ 0) × (new ≡ synced)
IsSettled synced old new (Some count) start = (start ≡ count) × (new ≡ old)

-- All of the octets are on the disk, or none of them is known to be.
abbrev pub IsPut : {E : Type 0} → List ℕ → List ℕ → List ℕ → List ℕ → Option ℕ → Result (Unit {0}) E → Type 0
IsPut before octets synced taken place (Ok done) = (synced ≡ before ++ octets) × (taken ≡ synced) × (place ≡ Some 0)
IsPut before octets synced taken place (Err fault) = (synced ≡ before) × IsAt synced octets taken place

-- The octets before an end are on the disk, or none of them is known to be.
abbrev pub IsPutUntil : {E : Type 0} → List ℕ → List ℕ → Progress → Cut → List ℕ → List ℕ → Progress → Result (Unit {0}) E → Type 0
IsPutUntil before octets old end synced taken new (Ok done) =
    (synced ≡ before ++ octets) × (taken ≡ synced) × (new ≡ record { octets = end.octets; records = end.count; cuts = old.cuts; taken = Some 0 })
IsPutUntil before octets old end synced taken new (Err fault) =
    (synced ≡ before) × IsAt synced octets taken new.taken × (new ≡ record old { taken = new.taken })

-- More of a batch is on the disk.
pub record Advances (octets synced : List ℕ) (old : Progress) (synced_now : List ℕ) (new : Progress) : Type 0 where
  pub more : List ℕ
  pub synced_is : synced_now ≡ synced ++ more
  pub rest_is : drop old.octets octets ≡ more ++ drop new.octets octets

-- the next end of a batch: the next cut, or the end of all
abbrev pub end_of : Texts → Progress → Cut
end_of batch progress = first_cut (drop progress.cuts batch.cuts) (end_of_all batch)

-- In calls, the text of a later part begins at this cut. The calls from `from` on up to it ended in this part, or in an earlier one, and
-- the call behind it ended in a later part.
pub record IsCutAt (part_of : ℕ → ℕ) (text : EndedCall → List ℕ) (calls : List EndedCall) (part from : ℕ) (cut : Cut) : Type 0 where
  pub behind : from ≤ cut.count
  pub within : cut.count < length calls
  pub octets_are : cut.octets ≡ length (flat_map text (take cut.count calls))
  pub own : All (EndedBy part_of part) (drop from (take cut.count calls))
  pub later : part < cut.part
  pub next : BeginLater part_of part (drop cut.count calls)

module _ (part_of : ℕ → ℕ) (text : EndedCall → List ℕ) where
  -- The cuts in calls, of which those from `from` on are of this part. The last of the parts is `last`.
  abbrev pub AreCut : List EndedCall → ℕ → ℕ → ℕ → List Cut → Type 0
  AreCut calls last part from [] = (last ≡ part) × All (EndedBy part_of part) (drop from calls)
  AreCut calls last part from (cut ∷ cuts) = IsCutAt part_of text calls part from cut × AreCut calls last cut.part cut.count cuts

  -- The records of these calls are on the disk. Those of the calls that ended before the part of the open file are in the files before it.
  pub record AreOnDisk (current : OpenFile) (calls : List EndedCall) : Type 0 where
    pub earlier : List EndedCall
    pub here : List EndedCall
    pub calls_are : calls ≡ earlier ++ here
    pub before_is : current.before ≡ flat_map text earlier
    pub are_earlier : All (EndedBefore part_of current.part) earlier
    pub are_here : All (EndedBy part_of current.part) here

  -- The records of all calls before the batch are on the disk, and so are those of the batch as far as it has come. Behind them, the open
  -- file has taken some octets of the records before the next cut, or a front of them.
  pub record IsSent (given : List EndedCall) (synced taken : List ℕ) (current : OpenFile) (batch : Texts) (progress : Progress) : Type 0 where
    pub before : List EndedCall
    pub all : List EndedCall
    pub given_are : given ≡ before ++ all
    pub octets_are : batch.octets ≡ flat_map text all
    pub count_is : batch.count ≡ length all
    pub records_within : progress.records ≤ length all
    pub cuts_within : progress.cuts ≤ length batch.cuts
    pub octets_is : progress.octets ≡ length (flat_map text (take progress.records all))
    pub synced_is : synced ≡ flat_map text (before ++ take progress.records all)
    pub on_disk : AreOnDisk current (before ++ take progress.records all)
    pub cuts_are : AreCut all batch.part current.part progress.records (drop progress.cuts batch.cuts)
    pub at : IsAt synced (drop progress.octets (take (end_of batch progress).octets batch.octets)) taken progress.taken

  -- The records of all calls are on the disk, and no file is to be begun: the last part is that of the open one.
  pub record IsSentWhole (given : List EndedCall) (synced taken : List ℕ) (current : OpenFile) (part : ℕ) : Type 0 where
    pub synced_is : synced ≡ flat_map text given
    pub taken_is : taken ≡ synced
    pub on_disk : AreOnDisk current given
    pub part_is : part ≡ current.part
