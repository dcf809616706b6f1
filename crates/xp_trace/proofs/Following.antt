-- Octets that pass one by one, and in two parts.
use Rattle.std.proofs.Common.{◌≡◌, ◌<◌, ◌≤◌, ◌+◌, ◌-◌, ◌%◌, ◌++◌, ◌∷◌, [], List, ℕ, Bool, false, true, Option, None, Some, IfSome, inl, inr, refl, ap, sym, ◌∙◌, subst, length, take, drop, get_or, append_assoc, append-nil, arith}
use Rattle.std.proofs.Math.Seq.{drop-length, take-length}
use Rattle.std.proofs.lemmas.Bool.{false≢true, true≢false}
use Rattle.std.proofs.lemmas.List.{length-drop, length-take-le, take-append-drop, take_all, take_more}
use Rattle.std.specs.List.{AllByRecursion}
use Rattle.xp_clearing.specs.Calls.{joined}
use Rattle.xp_clearing.specs.Frames.{IsUnfinished, IsWhole, passed_by}
use Rattle.xp_clearing.specs.declared.frame_watch.PassedFrame.{PassedFrame}
use Rattle.xp_trace.specs.Streams.{EndsFrame, Follows, Hands, Stream}
use Rattle.xp_trace.specs.steps.Finishing.{Skips}

joined_append : (frames more : List (List ℕ)) → joined (frames ++ more) ≡ joined frames ++ joined more
joined_append [] more = refl
joined_append (first ∷ frames) more = ap (λ l. first ++ l) (joined_append frames more) ∙ sym (append_assoc first (joined frames) (joined more))

each_append : (frames more : List (List ℕ)) → AllByRecursion IsWhole frames → AllByRecursion IsWhole more → AllByRecursion IsWhole (frames ++ more)
each_append [] more each each_more = each_more
each_append (first ∷ frames) more each each_more = (each.0, each_append frames more each.1 each_more)

-- octets that pass in two parts
pub follows_on : (part first left second rest : List ℕ) → Follows part first left → Follows left second rest → Follows part (first ++ second) rest
follows_on part first left second rest one two = record {
  frames = one.frames ++ two.frames;
  whole =
      sym (append_assoc part first second) ∙ ap (λ l. l ++ second) one.whole ∙ append_assoc (joined one.frames) left second
      ∙ ap (λ l. joined one.frames ++ l) two.whole ∙ sym (append_assoc (joined one.frames) (joined two.frames) rest)
      ∙ ap (λ l. l ++ rest) (sym (joined_append one.frames two.frames));
  each = each_append one.frames two.frames one.each two.each;
  rest = two.rest;
}

-- no octet
pub follows_none : (part : List ℕ) → IsUnfinished part → Follows part [] part
follows_none part unfinished = record { frames = []; whole = append-nil part; each = tt; rest = unfinished }

-- octets by which no frame is whole
pub follows_part : (part octets left : List ℕ) → left ≡ part ++ octets → IsUnfinished left → Follows part octets left
follows_part part octets left is unfinished = record { frames = []; whole = sym is; each = tt; rest = unfinished }

-- octets by which one frame is whole
pub follows_frame : (part octets left : List ℕ) → left ≡ [] → IsWhole (part ++ octets) → IsUnfinished left → Follows part octets left
follows_frame part octets left is whole unfinished = record {
  frames = (part ++ octets) ∷ [];
  whole = sym (append-nil (part ++ octets)) ∙ ap (λ l. l ++ []) (sym (append-nil (part ++ octets))) ∙ ap (λ l. ((part ++ octets) ++ []) ++ l) (sym is);
  each = (whole, tt);
  rest = unfinished;
}

-- the octet at a place passes
pub follows_more : (part octets : List ℕ) (place : ℕ) (left new : List ℕ) → Follows part (take place octets) left → place < length octets → Follows left (get_or octets place 0 ∷ []) new → Follows part (take (place + 1) octets) new
follows_more part octets place left new before lt next =
    subst (λ passed. Follows part passed new) (sym (take_more octets place 0 lt)) (follows_on part (take place octets) left (get_or octets place 0 ∷ []) new before next)

-- what was left out in front
pub skip_follows : (is_cut : Bool) (part octets : List ℕ) (count : ℕ) (left : List ℕ) → Skips is_cut part octets count left → IsUnfinished left → Follows part (take count octets) left
skip_follows false part octets count left skips unfinished =
    rw (skips.0, skips.1) (follows_none part (subst IsUnfinished skips.1 unfinished))
skip_follows true part octets count left (inl skips) unfinished =
    rw (skips.1, skips.2) (follows_none part (subst IsUnfinished skips.2 unfinished))
skip_follows true part octets count left (inr (inl skips)) unfinished = follows_frame part (take count octets) left skips.1 skips.2 unfinished
skip_follows true part octets count left (inr (inr skips)) unfinished =
    rw (skips.1, take-length octets) (follows_part part octets left skips.2 unfinished)

behind : (octets : List ℕ) (count : ℕ) → take (length octets - count) (drop count octets) ≡ drop count octets
behind octets count = take_all (length octets - count) (drop count octets) (rw (length-drop count octets) (omega arith))

-- all octets, of which so many were left out in front
pub pass_follows : (is_cut : Bool) (part octets : List ℕ) (count : ℕ) (left rest : List ℕ) → Skips is_cut part octets count left → IsUnfinished left → Follows left (take (length octets - count) (drop count octets)) rest → Follows part octets rest
pass_follows is_cut part octets count left rest skips unfinished follows =
    subst (λ all. Follows part all rest) (take-append-drop count octets)
    (follows_on part (take count octets) left (drop count octets) rest (skip_follows is_cut part octets count left skips unfinished)
    (subst (λ handed. Follows left handed rest) (behind octets count) follows))

skips_all : (is_cut : Bool) (part octets : List ℕ) (count : ℕ) (left : List ℕ) → Skips is_cut part octets count left → is_cut ≡ false → take count octets ≡ []
skips_all false part octets count left skips is = rw skips.0 refl
skips_all true part octets count left skips is = absurd (true≢false is)

ends_frame : (is_cut : Bool) (part octets : List ℕ) (count : ℕ) (left : List ℕ) → Skips is_cut part octets count left → IsUnfinished left → is_cut ≡ true → EndsFrame part (take count octets) (drop count octets)
ends_frame false part octets count left skips unfinished is = absurd (false≢true is)
ends_frame true part octets count left (inl skips) unfinished is = inl (skips.0, rw skips.1 refl)
ends_frame true part octets count left (inr (inl skips)) unfinished is = inr (inl (skips.0, skips.2))
ends_frame true part octets count left (inr (inr skips)) unfinished is =
    inr (inr (rw skips.1 (drop-length octets), rw (skips.1, take-length octets) (subst IsUnfinished skips.2 unfinished)))

-- what is handed on behind those that were left out
pub hands : (stream : Stream) (octets : List ℕ) (count : ℕ) (left : List ℕ) → count ≤ length octets → Skips stream.is_cut stream.part octets count left → IsUnfinished left
    → Hands stream octets ((stream.sequence + count) % 4294967296) (take (length octets - count) (drop count octets))
hands stream octets count left within skips unfinished =
    rw (behind octets count) (record {
      skipped = take count octets;
      split = sym (take-append-drop count octets);
      place = ap (λ n. (stream.sequence + n) % 4294967296) (sym (length-take-le count octets within));
      all = skips_all stream.is_cut stream.part octets count left skips;
      from_frame = ends_frame stream.is_cut stream.part octets count left skips unfinished;
    })

-- one octet passes, and a frame is whole by it or none is
pub passes_one : (left : List ℕ) (octet : ℕ) (new : List ℕ) (whole : Option PassedFrame) → (whole ≡ None → new ≡ left ++ octet ∷ [])
    → IfSome whole (λ frame. (new ≡ []) × IsWhole (left ++ octet ∷ []) × (frame ≡ passed_by (left ++ octet ∷ []))) → IsUnfinished new → Follows left (octet ∷ []) new
passes_one left octet new None part whole rest = follows_part left (octet ∷ []) new (part refl) rest
passes_one left octet new (Some frame) part whole rest = follows_frame left (octet ∷ []) new whole.0 whole.1 rest
