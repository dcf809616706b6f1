-- A deframer's calls, in any order.
use Rattle.std.specs.Prelude.{◌↔◌}
use Rattle.std.proofs.Common.{Result, ◌≡◌, ℕ, true, false, List, [], ◌∷◌, ◌++◌, None, Some, Ok, Err, refl, sym, ap, subst, ◌∙◌, append_assoc}
use Rattle.xp_frames.specs.declared.fault.FrameFault.{FrameFault}
use Rattle.xp_frames.specs.declared.fault.FrameFault.TheVariants.{Version, Length, Failed, Memory}
use Rattle.xp_frames.specs.Frame.{Stream, BadHeader}
use Rattle.xp_frames.specs.Deframer.{DeframerState, Takes}
use Rattle.xp_frames.specs.Laws.{Call, Run, taken, fetched_packets, IsDeframed, HasFailed}
use Rattle.xp_frames.specs.Laws.Call.{Fed, Fetched}
use Rattle.xp_frames.proofs.Frames.{joined}

-- a piece that was taken
after_piece : (octets piece : List ℕ) (out : List (List ℕ)) (before now : DeframerState) → Stream octets (out ++ before.waiting) before.rest → Takes before piece now → Stream (octets ++ piece) (out ++ now.waiting) now.rest
after_piece octets piece out before now stream takes =
    let waits : (out ++ before.waiting) ++ takes.packets ≡ out ++ now.waiting =
    append_assoc out before.waiting takes.packets ∙ ap (λ packets. out ++ packets) (sym takes.waiting) in
    subst (λ packets. Stream (octets ++ piece) packets now.rest) waits (joined octets piece (out ++ before.waiting) takes.packets before.rest now.rest stream takes.stream)

pub deframed : (calls : List Call) (now : DeframerState) → Run calls now → IsDeframed calls now
deframed [] now new =
    let start : DeframerState = record { waiting = []; rest = []; failed = false } in
    subst (IsDeframed []) (sym new) (record {
      stream = record { whole = refl; each = tt; partial = λ packet more is e. cc };
      failed = (λ e. cc, λ w. absurd w.1);
    })
deframed (Fed piece (Ok done) ∷ earlier) now run =
    let before : DeframerState = run.0 in
    let past : IsDeframed earlier before = deframed earlier before run.1 in
    record {
      stream = after_piece (taken earlier) piece (fetched_packets earlier) before now past.stream run.2.2;
      failed = ((λ e. let no : now.failed ≡ false = run.2.1 in cc), λ w. absurd (run.2.3 w.0 w.1));
    }
deframed (Fed piece (Err (Version v)) ∷ earlier) now run =
    let before : DeframerState = run.0 in
    let past : IsDeframed earlier before = deframed earlier before run.1 in
    record {
      stream = after_piece (taken earlier) piece (fetched_packets earlier) before now past.stream run.2.2;
      failed = ((λ _. (Version v, run.2.3)), λ _. run.2.1);
    }
deframed (Fed piece (Err (Length n)) ∷ earlier) now run =
    let before : DeframerState = run.0 in
    let past : IsDeframed earlier before = deframed earlier before run.1 in
    record {
      stream = after_piece (taken earlier) piece (fetched_packets earlier) before now past.stream run.2.2;
      failed = ((λ _. (Length n, run.2.3)), λ _. run.2.1);
    }
deframed (Fed piece (Err Failed) ∷ earlier) now run =
    let past : IsDeframed earlier run.0 = deframed earlier run.0 run.1 in
    let same : IsDeframed earlier now = subst (IsDeframed earlier) (sym run.2.1) past in
    record { stream = same.stream; failed = same.failed }
deframed (Fed piece (Err Memory) ∷ earlier) now run =
    let past : IsDeframed earlier run.0 = deframed earlier run.0 run.1 in
    let same : IsDeframed earlier now = subst (IsDeframed earlier) (sym run.2.1) past in
    record { stream = same.stream; failed = same.failed }
deframed (Fetched None ∷ earlier) now run =
    let past : IsDeframed earlier run.0 = deframed earlier run.0 run.1 in
    let same : IsDeframed earlier now = subst (IsDeframed earlier) (sym run.2.1) past in
    record { stream = same.stream; failed = same.failed }
deframed (Fetched (Some packet) ∷ earlier) now run =
    let before : DeframerState = run.0 in
    let past : IsDeframed earlier before = deframed earlier before run.1 in
    let moved : fetched_packets earlier ++ before.waiting ≡ (fetched_packets earlier ++ packet ∷ []) ++ now.waiting =
    ap (λ packets. fetched_packets earlier ++ packets) run.2.0 ∙ sym (append_assoc (fetched_packets earlier) (packet ∷ []) now.waiting) in
    let stream : Stream (taken earlier) ((fetched_packets earlier ++ packet ∷ []) ++ now.waiting) before.rest =
    subst (λ packets. Stream (taken earlier) packets before.rest) moved past.stream in
    record {
      stream = subst (λ rest. Stream (taken earlier) ((fetched_packets earlier ++ packet ∷ []) ++ now.waiting) rest) (sym run.2.1) stream;
      failed = subst (λ rest. (now.failed ≡ true) ↔ ((fault : FrameFault) × BadHeader rest fault)) (sym run.2.1)
          (subst (λ failed. (failed ≡ true) ↔ ((fault : FrameFault) × BadHeader before.rest fault)) (sym run.2.2) past.failed);
    }

-- a deframer has failed exactly where a piece had a bad head
failed_by_head : (calls : List Call) (now : DeframerState) → Run calls now → (now.failed ≡ true) ↔ HasFailed calls
failed_by_head [] now new = ((λ e. let no : now.failed ≡ false = ap (λ h. h.failed) new in cc), λ w. absurd w)
failed_by_head (Fed piece (Ok done) ∷ earlier) now run =
    let past : (run.0.failed ≡ true) ↔ HasFailed earlier = failed_by_head earlier run.0 run.1 in
    ((λ e. let no : now.failed ≡ false = run.2.1 in cc), λ w. let no : run.0.failed ≡ false = run.2.0 in let yes : run.0.failed ≡ true = past.1 w in cc)
failed_by_head (Fed piece (Err (Version v)) ∷ earlier) now run = ((λ _. tt), λ _. run.2.1)
failed_by_head (Fed piece (Err (Length n)) ∷ earlier) now run = ((λ _. tt), λ _. run.2.1)
failed_by_head (Fed piece (Err Failed) ∷ earlier) now run = subst (λ held. (held.failed ≡ true) ↔ HasFailed earlier) (sym run.2.1) (failed_by_head earlier run.0 run.1)
failed_by_head (Fed piece (Err Memory) ∷ earlier) now run = subst (λ held. (held.failed ≡ true) ↔ HasFailed earlier) (sym run.2.1) (failed_by_head earlier run.0 run.1)
failed_by_head (Fetched None ∷ earlier) now run = subst (λ held. (held.failed ≡ true) ↔ HasFailed earlier) (sym run.2.1) (failed_by_head earlier run.0 run.1)
failed_by_head (Fetched (Some packet) ∷ earlier) now run = subst (λ failed. (failed ≡ true) ↔ HasFailed earlier) (sym run.2.2) (failed_by_head earlier run.0 run.1)

-- an answer other than `Failed` comes where no piece had a bad head
not_failed : (answer : Result (Unit {0}) FrameFault) (before : DeframerState) (earlier : List Call) → (before.failed ≡ true) ↔ HasFailed earlier → before.failed ≡ false → (answer ≡ Err Failed → ⊥) → (answer ≡ Err Failed) ↔ HasFailed earlier
not_failed answer before earlier past unfailed other = ((λ e. absurd (other e)), λ w. let yes : before.failed ≡ true = past.1 w in cc)

pub failed_after : (piece : List ℕ) (answer : Result (Unit {0}) FrameFault) (earlier : List Call) (now : DeframerState) → Run (Fed piece answer ∷ earlier) now → (answer ≡ Err Failed) ↔ HasFailed earlier
failed_after piece (Ok done) earlier now run = not_failed (Ok done) run.0 earlier (failed_by_head earlier run.0 run.1) run.2.0 (λ e. cc)
failed_after piece (Err (Version v)) earlier now run = not_failed (Err (Version v)) run.0 earlier (failed_by_head earlier run.0 run.1) run.2.0 (λ e. cc)
failed_after piece (Err (Length n)) earlier now run = not_failed (Err (Length n)) run.0 earlier (failed_by_head earlier run.0 run.1) run.2.0 (λ e. cc)
failed_after piece (Err Memory) earlier now run = not_failed (Err Memory) run.0 earlier (failed_by_head earlier run.0 run.1) run.2.0 (λ e. cc)
failed_after piece (Err Failed) earlier now run =
    let past : (run.0.failed ≡ true) ↔ HasFailed earlier = failed_by_head earlier run.0 run.1 in
    ((λ _. past.0 run.2.0), λ _. refl)
