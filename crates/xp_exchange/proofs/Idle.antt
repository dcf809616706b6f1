-- Streams between frames.
use Rattle.std.proofs.Common.{◌≡◌, ℕ, ◌+◌, ◌<◌, List, [], ◌∷◌, ◌++◌, length, map, replicate, get_or, set, refl, sym, ap, subst, ◌∙◌, All}
use Rattle.std.proofs.lemmas.List.{map_push, map-set, replicate_more, get_or-map, get_or-set_same, length-set, length-map}
use Rattle.std.proofs.lemmas.List.Elements.{All-append, All-nil, All-cons}
use Rattle.xp_frames.specs.Deframer.{DeframerState, IsNew}
use Rattle.xp_step.specs.declared.event.Event.{Event}
use Rattle.xp_exchange.specs.steps.Acting.{IsBetweenFrames}
use Rattle.xp_packets.specs.declared.modulus.Modulus.{Modulus}
use Rattle.xp_exchange.specs.FrameEvents.{ReadsEvents}
use Rattle.xp_exchange.specs.Play.{unfinished_at}

abbrev pub rests : List DeframerState → List (List ℕ)
rests streams = map (λ held. held.rest) streams

-- each of so many streams has nothing
abbrev pub AreNew : ℕ → List DeframerState → Type 0
AreNew count streams = (map (λ stream. stream.rest) streams ≡ replicate count []) × All IsBetweenFrames streams

pub idle_none : AreNew 0 []
idle_none = (refl, All-nil IsBetweenFrames)

pub is_between : (stream : DeframerState) → IsNew stream → IsBetweenFrames stream
is_between stream new = (ap (λ held. held.waiting) new, ap (λ held. held.failed) new)

pub idle_more : (count : ℕ) (streams after : List DeframerState) (stream : DeframerState) → AreNew count streams → IsNew stream → after ≡ streams ++ stream ∷ [] → AreNew (count + 1) after
idle_more count streams after stream so_far new pushed =
    let rests = map_push (λ held. held.rest) streams stream ∙ ap (λ front. front ++ stream.rest ∷ []) so_far.0
    ∙ ap (λ last. replicate count [] ++ last ∷ []) (ap (λ held. held.rest) new) ∙ replicate_more count [] in
    subst (AreNew (count + 1)) (sym pushed)
    (rests, All-append IsBetweenFrames streams (stream ∷ []) so_far.1 (All-cons IsBetweenFrames stream [] (is_between stream new) (All-nil IsBetweenFrames)))

-- one stream is begun anew
pub idle_set : (streams : List DeframerState) (line at : ℕ) (stream : DeframerState) → IsNew stream → at ≡ line → map (λ held. held.rest) (set streams at stream) ≡ set (map (λ held. held.rest) streams) line []
idle_set streams line at stream new same =
    map-set (λ held. held.rest) streams at stream
    ∙ ap (λ rest. set (map (λ held. held.rest) streams) at rest) (ap (λ held. held.rest) new)
    ∙ ap (λ place. set (map (λ held. held.rest) streams) place []) same

-- what was heard on a stream was heard on its line
pub heard_at : {A : Type 0} (modulus : Modulus) (moment : ℕ) (streams : List DeframerState) (line at : ℕ) (taken kept : DeframerState) (octets : List ℕ) (events : List (Event A)) → at < length streams → at ≡ line
    → taken ≡ get_or streams at taken → ReadsEvents modulus line moment taken.rest octets events kept.rest
    → ReadsEvents modulus line moment (unfinished_at (rests streams) line) octets events (unfinished_at (rests (set streams at kept)) line)
heard_at modulus moment streams line at taken kept octets events within here read heard =
    let first : unfinished_at (rests streams) line ≡ taken.rest = (
    ap (λ i. get_or (rests streams) i []) (sym here)
    ∙ get_or-map (λ held. held.rest) streams at taken [] within
    ∙ ap (λ held. held.rest) (sym read)
    ) in
    let last : unfinished_at (rests (set streams at kept)) line ≡ kept.rest = (
    ap (λ i. get_or (rests (set streams at kept)) i []) (sym here)
    ∙ get_or-map (λ held. held.rest) (set streams at kept) at kept [] (subst (λ n. at < n) (sym (length-set streams at kept)) within)
    ∙ ap (λ held. held.rest) (get_or-set_same streams at kept kept within)
    ) in
    subst (λ before. ReadsEvents modulus line moment before octets events (unfinished_at (rests (set streams at kept)) line)) (sym first)
    (subst (λ after. ReadsEvents modulus line moment taken.rest octets events after) (sym last) heard)

-- the other lines' octets stay
pub kept_at : (streams : List DeframerState) (line at : ℕ) (kept : DeframerState) → at < length streams → at ≡ line
    → rests (set streams at kept) ≡ set (rests streams) line (unfinished_at (rests (set streams at kept)) line)
kept_at streams line at kept within here =
    let put : rests (set streams at kept) ≡ set (rests streams) line kept.rest = (
    map-set (λ held. held.rest) streams at kept ∙ ap (λ place. set (rests streams) place kept.rest) here
    ) in
    let rest : unfinished_at (rests (set streams at kept)) line ≡ kept.rest = (
    ap (λ list. get_or list line []) put
    ∙ get_or-set_same (rests streams) line kept.rest [] (subst (λ n. line < n) (sym (length-map streams (λ held. held.rest))) (subst (λ i. i < length streams) here within))
    ) in
    put ∙ ap (set (rests streams) line) (sym rest)

pub within_rests : (streams : List DeframerState) (unfinished : List (List ℕ)) (line at : ℕ) → rests streams ≡ unfinished → at ≡ line → line < length unfinished → at < length streams
within_rests streams unfinished line at same here within =
    subst (λ n. at < n) (length-map streams (λ held. held.rest)) (subst (λ list. at < length list) (sym same) (subst (λ i. i < length unfinished) (sym here) within))

-- there are as many streams as before
pub lines_kept : (streams : List DeframerState) (unfinished : List (List ℕ)) (at : ℕ) (kept : DeframerState) → rests streams ≡ unfinished → length (rests (set streams at kept)) ≡ length unfinished
lines_kept streams unfinished at kept same =
    length-map (set streams at kept) (λ held. held.rest) ∙ length-set streams at kept ∙ sym (length-map streams (λ held. held.rest)) ∙ ap length same

-- each of the streams is between frames
pub between_at : (streams : List DeframerState) (at : ℕ) (taken : DeframerState) → at < length streams → All IsBetweenFrames streams → taken ≡ get_or streams at taken → IsBetweenFrames taken
between_at streams at taken within all read = subst IsBetweenFrames (sym read) (all at taken within)
