-- What a file tells to have taken, and the front of it that is on the disk.
use Rattle.std.proofs.Common.{◌≡◌, ℕ, List, [], ◌++◌, append-nil, ap, drop, length, refl, sym, ◌∙◌}
use Rattle.std.proofs.lemmas.List.{take-append-drop}
use Rattle.std.specs.Io.{StartsWith}
use Rattle.xp_cdr.specs.Files.{LosesAnEnd}

-- nothing is left of what was not on the disk
pub loses_all : (synced old new : List ℕ) → StartsWith old synced → new ≡ synced → LosesAnEnd synced old new
loses_all synced old new starts cut =
    let behind = drop (length synced) old in
    record {
      behind = behind;
      had = sym (take-append-drop (length synced) old) ∙ ap (λ front. front ++ behind) starts;
      has = record { front = []; rest = behind; octets_are = refl; taken_is = cut ∙ sym (append-nil synced) };
    }
