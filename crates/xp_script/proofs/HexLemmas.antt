-- Text in hexadecimal, one part after the other.
use Rattle.std.proofs.Common.{◌≡◌, ℕ, ◌/◌, ◌%◌, List, [], ◌∷◌, ◌++◌, refl, sym, ap, ◌∙◌, append_assoc}
use Rattle.std.specs.Prelude.{slice_index}
use Rattle.hex.specs.Hex.{encode_with, encode_lower, lower_digits}
use Rattle.xp_frames.specs.Frame.{frame}

encoded-append : (digits octets more : List ℕ) → encode_with digits (octets ++ more) ≡ encode_with digits octets ++ encode_with digits more
unfolding encode_with
encoded-append digits [] more = refl
encoded-append digits (octet ∷ octets) more =
    ap (λ text. slice_index digits (octet / 16) ∷ slice_index digits (octet % 16) ∷ text) (encoded-append digits octets more)

-- the head of a frame, and then its packet
pub framed : (text between now head octets packet : List ℕ) → octets ≡ packet → frame octets ≡ head ++ octets
    → between ≡ text ++ encode_lower head → now ≡ between ++ encode_lower octets → now ≡ text ++ encode_lower (frame packet)
framed text between now head octets packet same whole first second =
    second ∙ ap (λ front. front ++ encode_lower octets) first ∙ append_assoc text (encode_lower head) (encode_lower octets)
    ∙ ap (λ more. text ++ more) (sym (encoded-append lower_digits head octets))
    ∙ ap (λ more. text ++ encode_lower more) (sym whole)
    ∙ ap (λ more. text ++ encode_lower (frame more)) same
