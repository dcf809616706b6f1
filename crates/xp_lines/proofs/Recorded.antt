-- Records that go from a recorder to a sink, in one turn after the other.
use Rattle.std.proofs.Common.{◌≡◌, List, [], ◌++◌, sym, ap, subst, ◌∙◌, append_assoc, append-nil}
use Rattle.std.specs.declared.alloc.Global.{Global as Alloc}
use Rattle.xp_charge.specs.declared.record.Record.{Record}
use Rattle.xp_core.specs.Records.{records_of}
use Rattle.xp_lock.specs.Passes.{IsLegal}
use Rattle.xp_seats.specs.Recording.{Recording}
use Rattle.xp_sink.specs.InForce.{AreInForce}
use Rattle.xp_sink.specs.Seen.{IsSeen}
use Rattle.xp_reload.specs.Frame.{IsSameFrame}
use Rattle.xp_step.proofs.InForce.{run_frame}
use Rattle.xp_step.specs.InForce.{in_force}
use Rattle.xp_step.specs.Worlds.{world_after}
use Rattle.xp_subs.specs.Tables.{Tables}
use Rattle.xp_view.specs.Views.{Shows}
use Rattle.xp_view.specs.declared.view.ExchangeView.{ExchangeView}
use Rattle.xp_lines.specs.Recorded.{HandsOn}

module _ {A S : Type 0} (received : S → List Record) (keeps : S → S → Type 0) where
  -- nothing was taken, and nothing given
  pub nothing_handed : (recorder : Recording A) (sink : S) → keeps sink sink → HandsOn received keeps recorder sink recorder sink
  nothing_handed recorder sink kept = record {
    more = [];
    taken = sym (append-nil recorder.received);
    given = sym (append-nil (received sink));
    seen = ([], sym (append-nil recorder.seen));
    kept = kept;
  }

  -- one turn after the other
  pub handed_both : ((first second third : S) → keeps first second → keeps second third → keeps first third)
      → (old : Recording A) (before : S) (between : Recording A) (mid : S) (new : Recording A) (after : S)
      → HandsOn received keeps old before between mid → HandsOn received keeps between mid new after → HandsOn received keeps old before new after
  handed_both on old before between mid new after first second = record {
    more = first.more ++ second.more;
    taken = second.taken ∙ ap (λ xs. xs ++ second.more) first.taken ∙ append_assoc old.received first.more second.more;
    given = second.given ∙ ap (λ xs. xs ++ second.more) first.given ∙ append_assoc (received before) first.more second.more;
    seen = (
      first.seen.0 ++ second.seen.0,
      second.seen.1 ∙ ap (λ xs. xs ++ second.seen.0) first.seen.1 ∙ append_assoc old.seen first.seen.0 second.seen.0,
    );
    kept = on before mid after first.kept second.kept;
  }

  -- the sink was called, and given nothing
  pub handed_ticked : ((first second third : S) → keeps first second → keeps second third → keeps first third)
      → (old : Recording A) (before : S) (new : Recording A) (mid after : S)
      → HandsOn received keeps old before new mid → received after ≡ received mid → keeps mid after → HandsOn received keeps old before new after
  handed_ticked on old before new mid after handed same kept = record {
    more = handed.more;
    taken = handed.taken;
    given = same ∙ handed.given;
    seen = handed.seen;
    kept = on before mid after handed.kept kept;
  }

  -- the sink was called before, and given nothing
  pub handed_from : ((first second third : S) → keeps first second → keeps second third → keeps first third)
      → (old : Recording A) (before mid : S) (new : Recording A) (after : S)
      → keeps before mid → received mid ≡ received before → HandsOn received keeps old mid new after → HandsOn received keeps old before new after
  handed_from on old before mid new after kept same handed = record {
    more = handed.more;
    taken = handed.taken;
    given = handed.given ∙ ap (λ xs. xs ++ handed.more) same;
    seen = handed.seen;
    kept = on before mid after kept handed.kept;
  }

  -- the sink was given what the recorder took, and so it was after a turn
  pub still_received : (old : Recording A) (before : S) (new : Recording A) (after : S) → received before ≡ old.received
      → HandsOn received keeps old before new after → received after ≡ new.received
  still_received old before new after same handed = handed.given ∙ ap (λ xs. xs ++ handed.more) same ∙ sym handed.taken

-- what the recorder saw is seen by a sink that was given what the recorder took
pub seen_by : (tables own : Tables) (recorder : Recording Alloc) (given : List Record) (view : ExchangeView Alloc) → own ≡ tables
    → given ≡ recorder.received → recorder.received ≡ records_of recorder.seen → IsLegal tables recorder.seen → Shows tables recorder.seen view
    → IsSeen own given view
seen_by tables own recorder given view same taken each legal shows =
    subst (λ shown. IsSeen shown given view) (sym same) (record {
      history = recorder.seen;
      legal = legal;
      records_are = taken ∙ each;
      shows = shows;
    })

-- subscriptions that came into force are so for a sink that was given what the recorder took, and that handed them out
pub in_force_by : (Handed : Tables → Type 0) (tables own : Tables) (recorder : Recording Alloc) (given : List Record) (next : Tables)
    → in_force tables recorder.seen ≡ next → own ≡ tables → given ≡ recorder.received → recorder.received ≡ records_of recorder.seen → IsLegal tables recorder.seen → Handed next
    → (asked : Tables) × Handed asked × AreInForce own given asked
in_force_by Handed tables own recorder given next comes same taken each legal handed = (
  next,
  handed,
  subst (λ opening. AreInForce opening given next) (sym same) (record {
    history = recorder.seen;
    legal = legal;
    records_are = taken ∙ each;
    in_force = comes;
    frame = subst (IsSameFrame tables) comes (run_frame tables recorder.seen (world_after tables recorder.seen) legal);
  }),
)
