use Rattle.std.proofs.Common.{◌≡◌, ap, drop, refl, sym, take, ◌∙◌}
use Rattle.std.proofs.lemmas.List.{take-append-drop}
use Rattle.xp_cdr.specs.Files.{LosesAnEnd}
use Rattle.xp_cdr_tests.proofs.failing.FailingFileRecordFile.sync.Goals as goal

pub returns-then-fails-clause-lost : goal.returns-then-fails-clause-lost
returns-then-fails-clause-lost c =
    let behind = c.args.self.now.behind.items in
    let left = c.min-left.result in
    let synced : c.failure.new.self.synced.items ≡ c.args.self.now.synced.items =
    ap (λ octets. octets.items) (c.failure.ensures.synced ∙ c.fails.ensures.synced) in
    let rest : c.failure.new.self.behind.items ≡ take left behind =
    ap (λ octets. octets.items) c.failure.ensures.behind
    ∙ c.truncate.ensures.items
    ∙ ap (λ octets. take left octets.items) c.fails.ensures.behind in
    record {
      behind = behind;
      had = refl;
      has = record { front = take left behind; rest = drop left behind; octets_are = sym (take-append-drop left behind); taken_is = rw (synced, rest) refl };
    }
