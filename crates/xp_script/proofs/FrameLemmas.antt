-- A frame in memory.
use Rattle.std.proofs.Common.{◌≡◌, ℕ, ◌-◌, Ok, List, ◌++◌, length, drop, take, sym, ap, subst, ◌∙◌}
use Rattle.std.proofs.lemmas.List.{take_rest, take_at}
use Rattle.std.proofs.Math.Seq.{drop-append_seam}
use Rattle.xp_frames.specs.Frame.{frame, IsHeader}

-- octets in the place of as many
rewritten : (count : ℕ) (old new : List ℕ) → length new ≡ length old → length old ≡ count → take count (new ++ drop (length new) old) ≡ new
rewritten count old new same all = take_at new (drop (length new) old) count (same ∙ all)

-- the head in the place that was left for it
pub headed : (count : ℕ) (octets place packet head now : List ℕ) → octets ≡ place ++ packet → length place ≡ 4 → length octets ≡ count
    → IsHeader (take (length octets - 4) (drop 4 octets)) (Ok head)
    → now ≡ head ++ drop 4 octets → length now ≡ length octets → take count (now ++ drop (length now) octets) ≡ frame packet
headed count octets place packet head now whole four all framed put same =
    let behind : drop 4 octets ≡ packet = ap (drop 4) whole ∙ ap (λ n. drop n (place ++ packet)) (sym four) ∙ drop-append_seam place packet in
    let heads = subst (λ rest. IsHeader rest (Ok head)) (take_rest octets 4) framed in
    rewritten count octets now same all ∙ put ∙ sym heads.1 ∙ ap frame behind
