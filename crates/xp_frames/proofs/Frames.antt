-- Frames in a row: where two begin alike, and how streams are joined.
use Rattle.std.proofs.Common.{◌≡◌, ℕ, ◌/◌, ◌%◌, List, [], ◌∷◌, ◌++◌, length, refl, sym, ap, ◌∙◌, append_assoc, arith}
use Rattle.std.specs.List.{AllByRecursion}
use Rattle.xp_frames.specs.Frame.{IsPacket, frame, frames, HasNoFrame, Stream}

-- lists that begin with parts of one length
pub same_parts : (xs ys more rest : List ℕ) → length xs ≡ length ys → xs ++ more ≡ ys ++ rest → (xs ≡ ys) × (more ≡ rest)
same_parts [] [] more rest l e = (refl, e)
same_parts [] (y ∷ ys) more rest l e = absurd (omega arith)
same_parts (x ∷ xs) [] more rest l e = absurd (omega arith)
same_parts (x ∷ xs) (y ∷ ys) more rest l e =
    let first : x ≡ y = cc in
    let tails : xs ++ more ≡ ys ++ rest = cc in
    let both : (xs ≡ ys) × (more ≡ rest) = same_parts xs ys more rest (omega arith) tails in
    let front : xs ≡ ys = both.0 in
    (cc, both.1)

pub same_frames : (packet other more rest : List ℕ) → frame packet ++ more ≡ frame other ++ rest → (packet ≡ other) × (more ≡ rest)
same_frames packet other more rest e =
    let high : length packet / 256 ≡ length other / 256 = cc in
    let low : length packet % 256 ≡ length other % 256 = cc in
    let tails : packet ++ more ≡ other ++ rest = cc in
    same_parts packet other more rest (omega arith) tails

pub frames-append : (packets others : List (List ℕ)) → frames (packets ++ others) ≡ frames packets ++ frames others
frames-append [] others = refl
frames-append (packet ∷ packets) others = ap (λ octets. frame packet ++ octets) (frames-append packets others) ∙ sym (append_assoc (frame packet) (frames packets) (frames others))

pub packets-append : (packets others : List (List ℕ)) → AllByRecursion IsPacket packets → AllByRecursion IsPacket others → AllByRecursion IsPacket (packets ++ others)
packets-append [] others each all = all
packets-append (packet ∷ packets) others each all = (each.0, packets-append packets others each.1 all)

-- one stream, read twice
pub read_alike : (packets others : List (List ℕ)) (rest left : List ℕ) → AllByRecursion IsPacket packets → AllByRecursion IsPacket others → HasNoFrame rest → HasNoFrame left →
    frames packets ++ rest ≡ frames others ++ left → (packets ≡ others) × (rest ≡ left)
read_alike [] [] rest left each all partial part e = (refl, e)
read_alike [] (other ∷ others) rest left each all partial part e = absurd (partial other (frames others ++ left) all.0 (e ∙ append_assoc (frame other) (frames others) left))
read_alike (packet ∷ packets) [] rest left each all partial part e = absurd (part packet (frames packets ++ rest) each.0 (sym e ∙ append_assoc (frame packet) (frames packets) rest))
read_alike (packet ∷ packets) (other ∷ others) rest left each all partial part e =
    let joined : frame packet ++ (frames packets ++ rest) ≡ frame other ++ (frames others ++ left) =
    sym (append_assoc (frame packet) (frames packets) rest) ∙ (e ∙ append_assoc (frame other) (frames others) left) in
    let first : (packet ≡ other) × (frames packets ++ rest ≡ frames others ++ left) = same_frames packet other (frames packets ++ rest) (frames others ++ left) joined in
    let further : (packets ≡ others) × (rest ≡ left) = read_alike packets others rest left each.1 all.1 partial part first.1 in
    let heads : packet ≡ other = first.0 in
    let tails : packets ≡ others = further.0 in
    (cc, further.1)

-- A stream that goes on: what the rest and the next piece make is read behind what was read before.
pub joined : (octets piece : List ℕ) (packets others : List (List ℕ)) (rest left : List ℕ) → Stream octets packets rest → Stream (rest ++ piece) others left → Stream (octets ++ piece) (packets ++ others) left
joined octets piece packets others rest left before after = record {
  whole = ap (λ xs. xs ++ piece) before.whole ∙ (append_assoc (frames packets) rest piece ∙ (ap (λ xs. frames packets ++ xs) after.whole ∙
      (sym (append_assoc (frames packets) (frames others) left) ∙ ap (λ xs. xs ++ left) (sym (frames-append packets others)))));
  each = packets-append packets others before.each after.each;
  partial = after.partial;
}
