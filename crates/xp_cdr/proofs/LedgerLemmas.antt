-- What a writer shows of what it keeps.
use Rattle.std.proofs.Common.{ℕ, ◌-◌, List, [], ◌++◌, append-nil, drop, refl, sym, take, ◌∙◌}
use Rattle.xp_cdr.specs.declared.ended.EndedCall.{EndedCall}
use Rattle.xp_cdr.specs.declared.progress.Progress.{Progress}
use Rattle.xp_cdr.specs.declared.run.ExchangeRun.{ExchangeRun}
use Rattle.xp_cdr.specs.Details.{detail_text}
use Rattle.xp_cdr.specs.Ledger.{IsUnfinished, IsWhole, LacksLast, Ledger}
use Rattle.xp_cdr.specs.Parts.{OpenFile}
use Rattle.xp_cdr.specs.steps.Batch.{Texts}
use Rattle.xp_cdr.specs.steps.Writer.{IsSent, IsSentWhole}
use Rattle.xp_cdr.proofs.SentLemmas.{all_told, count_left, front_is, given_apart, waiting_is}

module _ (part_of : ℕ → ℕ) (run : ExchangeRun) (given : List EndedCall) (synced taken : List ℕ) (current : OpenFile) (failures : ℕ) where
  -- the ledger of a writer, of which this waits
  abbrev pub told : List ℕ → Ledger
  told waiting = record { run = run; given = given; taken = taken; synced = synced; waiting = waiting; failures = failures }

  module _ (batch : Texts) (progress : Progress) (sent : IsSent part_of (detail_text run) given synced taken current batch progress) where
    pub is_whole : IsWhole (told (drop progress.octets batch.octets))
    is_whole = record {
      all = all_told part_of (detail_text run) given synced taken current batch progress sent;
      front = front_is part_of (detail_text run) given synced taken current batch progress sent;
    }

    pub is_unfinished : IsUnfinished (told (drop progress.octets batch.octets)) (drop progress.octets batch.octets)
    is_unfinished = record {
      whole = sent.before ++ take progress.records sent.all;
      rest = drop progress.records sent.all;
      given_are = given_apart part_of (detail_text run) given synced taken current batch progress sent;
      lines_are = waiting_is part_of (detail_text run) given synced taken current batch progress sent;
      synced_is = sent.synced_is;
    }

    pub lacks_last : LacksLast (told (drop progress.octets batch.octets)) (batch.count - progress.records)
    lacks_last = record {
      whole = sent.before ++ take progress.records sent.all;
      rest = drop progress.records sent.all;
      given_are = given_apart part_of (detail_text run) given synced taken current batch progress sent;
      count_is = count_left part_of (detail_text run) given synced taken current batch progress sent;
      synced_is = sent.synced_is;
    }

  pub whole_at_end : (part : ℕ) → IsSentWhole part_of (detail_text run) given synced taken current part → IsWhole (told [])
  whole_at_end part whole = record {
    all = sym whole.synced_is ∙ sym (append-nil synced);
    front = record { front = []; rest = []; octets_are = refl; taken_is = whole.taken_is ∙ sym (append-nil synced) };
  }
