-- Cutting whole frames off a stream, one at a time.
use Rattle.std.proofs.Common.{◌≡◌, ℕ, ◌+◌, ◌≤◌, List, [], ◌∷◌, ◌++◌, length, map, take, drop, refl, sym, ap, subst, ◌∙◌, append_assoc, append-nil, arith, ◌-◌}
use Rattle.std.specs.List.{AllByRecursion}
use Rattle.std.proofs.lemmas.List.{map_push, take_rest, drop-drop, length-drop, length-take-le}
use Rattle.xp_frames.specs.Frame.{IsPacketLength, IsPacket, frame, frames}
use Rattle.xp_frames.specs.steps.DeframerSteps.{BeginsWithFrame}
use Rattle.xp_frames.proofs.Frames.{frames-append, packets-append}

-- The packets of the frames so far, `count` octets in all, stand behind those that waited.
pub record CutSoFar (octets : List ℕ) (before : List (List ℕ)) (count : ℕ) (now : List (List ℕ)) : Type 0 where
  pub packets : List (List ℕ)
  pub waiting : now ≡ before ++ packets
  pub whole : octets ≡ frames packets ++ drop count octets
  pub each : AllByRecursion IsPacket packets
  pub within : count ≤ length octets

-- one more frame
pub one_more : (octets : List ℕ) (before now : List (List ℕ)) (count n next : ℕ) (packet : List ℕ) → CutSoFar octets before count now → BeginsWithFrame (drop count octets) n →
    packet ≡ take n (drop 4 (drop count octets)) → next ≡ count + (4 + n) → CutSoFar octets before next (now ++ packet ∷ [])
one_more octets before now count n next packet so_far front cut moved =
    let body : List ℕ = take n (drop 4 (drop count octets)) in
    let past : drop (4 + n) (drop count octets) ≡ drop next octets = drop-drop (4 + n) count octets ∙ ap (λ k. drop k octets) (sym moved) in
    let here : length body ≡ n = length-take-le n (drop 4 (drop count octets)) (omega (arith, front.within, length-drop 4 (drop count octets))) in
    let is : IsPacket body = subst IsPacketLength (sym here) front.packet in
    let begins : drop count octets ≡ frame body ++ drop next octets = front.begins ∙ ap (λ rest. frame body ++ rest) past in
    let row : frames so_far.packets ++ drop count octets ≡ frames (so_far.packets ++ body ∷ []) ++ drop next octets =
    ap (λ rest. frames so_far.packets ++ rest) begins ∙ (sym (append_assoc (frames so_far.packets) (frame body) (drop next octets))
    ∙ ap (λ front. (frames so_far.packets ++ front) ++ drop next octets) (sym (append-nil (frame body)))
    ∙ ap (λ front. front ++ drop next octets) (sym (frames-append so_far.packets (body ∷ [])))) in
    let cut_off : CutSoFar octets before next (now ++ body ∷ []) = record {
      packets = so_far.packets ++ body ∷ [];
      waiting = ap (λ xs. xs ++ body ∷ []) so_far.waiting ∙ append_assoc before so_far.packets (body ∷ []);
      whole = so_far.whole ∙ row;
      each = packets-append so_far.packets (body ∷ []) so_far.each (is, tt);
      within = omega (arith, front.within, so_far.within, length-drop count octets);
    } in
    subst (λ p. CutSoFar octets before next (now ++ p ∷ [])) (sym cut) cut_off

-- The same from what the steps of the loop say: the front is a slice up to the stream's end, and the packet a slice of that.
pub one_more_sliced : (octets : List ℕ) (before now after : List (List ℕ)) (count n : ℕ) (packet : List ℕ) → CutSoFar octets before count now → BeginsWithFrame (take (length octets - count) (drop count octets)) n →
    packet ≡ take (4 + n - 4) (drop 4 (take (length octets - count) (drop count octets))) → after ≡ now ++ packet ∷ [] → CutSoFar octets before (count + (4 + n)) after
one_more_sliced octets before now after count n packet so_far front cut pushed =
    let left : take (length octets - count) (drop count octets) ≡ drop count octets = take_rest octets count in
    let begins : BeginsWithFrame (drop count octets) n = subst (λ xs. BeginsWithFrame xs n) left front in
    let whole : 4 + n - 4 ≡ n = omega arith in
    let copied : packet ≡ take n (drop 4 (drop count octets)) = cut ∙ (ap (λ xs. take (4 + n - 4) (drop 4 xs)) left ∙ ap (λ k. take k (drop 4 (drop count octets))) whole) in
    subst (CutSoFar octets before (count + (4 + n))) (sym pushed) (one_more octets before now count n (count + (4 + n)) packet so_far begins copied refl)

-- the packets behind one more element
pub map_pushed : {X : Type 0} (f : X → List ℕ) (old new : List X) (x : X) → new ≡ old ++ x ∷ [] → map f new ≡ map f old ++ f x ∷ []
map_pushed f old new x e = ap (map f) e ∙ map_push f old x
