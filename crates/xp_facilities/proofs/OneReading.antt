-- Every field means one thing or is faulty one way.
use Rattle.std.proofs.Common.{◌≡◌, ℕ, zero, suc, ◌≤◌, ◌<◌, Bool, true, false, List, [], ◌∷◌, length, Option, Some, None, refl, sym, ap, ◌∙◌, subst, arith, ◌⊎◌, inl, inr, ⊎_elim}
use Rattle.std.proofs.lemmas.Bool.{false≢true}
use Rattle.std.proofs.lemmas.Option.{none-some, same_Some}
use Rattle.std.proofs.lemmas.List.{nil_from_length}
use Rattle.xp_facilities.specs.Items.{Item, IsField}
use Rattle.xp_facilities.specs.steps.Items.{first_item}
use Rattle.xp_facilities.specs.Requested.{Means, IsFaulty, HasWrongParameter, HasOneReading, has_accepted_codes, selection_of, packet_of, window_of, dte_of, last_of, octet_of, fast_of, first_bit, before_marker}
use Rattle.xp_facilities.specs.declared.requested.RequestedFacilities.{RequestedFacilities}
use Rattle.xp_facilities.specs.declared.fault.FacilityFault.{FacilityFault}
use Rattle.xp_facilities.specs.declared.fault.FacilityFault.TheVariants.{Length, Code, Param, Memory}
use Rattle.xp_facilities.specs.declared.direction_sizes.DirectionSizes.{DirectionSizes}
use Rattle.xp_facilities.specs.declared.selection.Selection.{Selection}
use Rattle.xp_facilities.proofs.Reading.{IsField-unique, IsField-more, IsField-less, IsField-none, first_item-shorter}

-- octets are a field or they are none
abbrev pub Decided : List ℕ → Type 0
Decided octets = ((items : List Item) × IsField octets items) ⊎ ((items : List Item) → IsField octets items → ⊥)

pub decided-more : (octets : List ℕ) (item : Item) (rest : List ℕ) → first_item octets ≡ Some (item, rest) → Decided rest → Decided octets
decided-more octets item rest e (inl found) = inl (item ∷ found.0, IsField-more octets item rest found.0 e found.1)
decided-more octets item rest e (inr none) =
    inr (λ items is. let less = IsField-less octets item rest items e is in none less.0 less.2)

pub decided-within : (most : ℕ) (octets : List ℕ) → length octets ≤ most → Decided octets
decided-within zero octets few = inl ([], record { each = tt; whole = nil_from_length octets (omega arith) })
decided-within (suc most) [] few = inl ([], record { each = tt; whole = refl })
decided-within (suc most) (octet ∷ octets) few =
    by_front (octet ∷ octets) most few (first_item (octet ∷ octets)) refl (λ e. cc) (λ rest h. decided-within most rest h)
  where
    by_front : (octets : List ℕ) (most : ℕ) → length octets ≤ suc most → (front : Option (Item × List ℕ)) → first_item octets ≡ front → (octets ≡ [] → ⊥)
        → ((rest : List ℕ) → length rest ≤ most → Decided rest) → Decided octets
    by_front octets most few None e some again = inr (λ items is. some (IsField-none octets items e is))
    by_front octets most few (Some front) e some again =
        let shorter : length front.1 < length octets = first_item-shorter octets front.0 front.1 e in
        decided-more octets front.0 front.1 e (again front.1 (omega (arith, shorter, few)))

pub decided : (octets : List ℕ) → Decided octets
decided octets = decided-within (length octets) octets (omega arith)

-- a field of items with accepted codes means something, or has a wrong parameter
pub read : {A : Type 0} (field : List ℕ) (items : List Item) → IsField field items → has_accepted_codes items ≡ true
    → (selection : Option Selection) → selection_of items ≡ selection
    → (packet : Option (Option DirectionSizes)) → packet_of items ≡ packet
    → (window : Option (Option DirectionSizes)) → window_of items ≡ window
    → (dte : Option (List ℕ)) → dte_of items ≡ dte
    → ((asked : RequestedFacilities A) × Means field asked) ⊎ HasWrongParameter items
read field items is codes None s packet p window w dte d = inr (inl s)
read field items is codes (Some selection) s None p window w dte d = inr (inr (inl p))
read field items is codes (Some selection) s (Some packet) p None w dte d = inr (inr (inr (inl w)))
read field items is codes (Some selection) s (Some packet) p (Some window) w None d = inr (inr (inr (inr d)))
read field items is codes (Some selection) s (Some packet) p (Some window) w (Some dte) d =
    inl (
      record {
        selection = selection;
        fast = fast_of (octet_of (last_of (0x01 ∷ []) (before_marker items)));
        reverse = first_bit (octet_of (last_of (0x01 ∷ []) (before_marker items)));
        throughput = octet_of (last_of (0x02 ∷ []) (before_marker items));
        charging = first_bit (octet_of (last_of (0x04 ∷ []) (before_marker items)));
        packet = packet;
        window = window;
        dte = dte;
      },
      record {
        items = items;
        whole = is;
        accepted = codes;
        selection = s;
        fast = refl;
        reverse = refl;
        throughput = refl;
        charging = refl;
        packet = p;
        window = w;
        dte = d;
      },
    )

pub some_reading : {A : Type 0} (field : List ℕ) → ((asked : RequestedFacilities A) × Means field asked) ⊎ ((fault : FacilityFault) × IsFaulty field fault)
some_reading {A} field = by_items (decided field)
  where
    by_codes : (items : List Item) → IsField field items → (codes : Bool) → has_accepted_codes items ≡ codes
        → ((asked : RequestedFacilities A) × Means field asked) ⊎ ((fault : FacilityFault) × IsFaulty field fault)
    by_codes items is false e = inr (Code, (items, is, e))
    by_codes items is true e =
        ⊎_elim (λ means. inl means) (λ wrong. inr (Param, (items, is, e, wrong)))
        (read field items is e (selection_of items) refl (packet_of items) refl (window_of items) refl (dte_of items) refl)

    by_items : Decided field → ((asked : RequestedFacilities A) × Means field asked) ⊎ ((fault : FacilityFault) × IsFaulty field fault)
    by_items (inl found) = by_codes found.0 found.1 (has_accepted_codes found.0) refl
    by_items (inr none) = inr (Length, none)

-- what a field means is one
pub same_asked : {A : Type 0} (a b : RequestedFacilities A) → a.selection ≡ b.selection → a.fast ≡ b.fast → a.reverse ≡ b.reverse → a.throughput ≡ b.throughput
    → a.charging ≡ b.charging → a.packet ≡ b.packet → a.window ≡ b.window → a.dte ≡ b.dte → a ≡ b
same_asked a b s f r t c p w d =
    λ i. record {
      selection = s i;
      fast = f i;
      reverse = r i;
      throughput = t i;
      charging = c i;
      packet = p i;
      window = w i;
      dte = d i;
    }

pub Means-unique : {A : Type 0} (field : List ℕ) (a b : RequestedFacilities A) → Means field a → Means field b → a ≡ b
Means-unique field a b m n =
    let e : m.items ≡ n.items = IsField-unique field m.items n.items m.whole n.whole in
    same_asked a b
    (same_Some a.selection b.selection (sym m.selection ∙ ap selection_of e ∙ n.selection))
    (m.fast ∙ ap (λ x. fast_of (octet_of (last_of (0x01 ∷ []) (before_marker x)))) e ∙ sym n.fast)
    (m.reverse ∙ ap (λ x. first_bit (octet_of (last_of (0x01 ∷ []) (before_marker x)))) e ∙ sym n.reverse)
    (m.throughput ∙ ap (λ x. octet_of (last_of (0x02 ∷ []) (before_marker x))) e ∙ sym n.throughput)
    (m.charging ∙ ap (λ x. first_bit (octet_of (last_of (0x04 ∷ []) (before_marker x)))) e ∙ sym n.charging)
    (same_Some a.packet b.packet (sym m.packet ∙ ap packet_of e ∙ n.packet))
    (same_Some a.window b.window (sym m.window ∙ ap window_of e ∙ n.window))
    (same_Some a.dte b.dte (sym m.dte ∙ ap dte_of e ∙ n.dte))

-- a field that means something is not faulty
pub Means-wrong : {A : Type 0} (field : List ℕ) (asked : RequestedFacilities A) (m : Means field asked) → HasWrongParameter m.items → ⊥
Means-wrong field asked m (inl s) = none-some asked.selection (sym s ∙ m.selection)
Means-wrong field asked m (inr (inl p)) = none-some asked.packet (sym p ∙ m.packet)
Means-wrong field asked m (inr (inr (inl w))) = none-some asked.window (sym w ∙ m.window)
Means-wrong field asked m (inr (inr (inr d))) = none-some asked.dte (sym d ∙ m.dte)

pub Means-faultless : {A : Type 0} (field : List ℕ) (asked : RequestedFacilities A) (fault : FacilityFault) → Means field asked → IsFaulty field fault → ⊥
Means-faultless field asked Length m faulty = faulty m.items m.whole
Means-faultless field asked Code m faulty =
    false≢true (sym faulty.2 ∙ ap has_accepted_codes (IsField-unique field faulty.0 m.items faulty.1 m.whole) ∙ m.accepted)
Means-faultless field asked Param m faulty =
    Means-wrong field asked m (subst HasWrongParameter (IsField-unique field faulty.0 m.items faulty.1 m.whole) faulty.3)
Means-faultless field asked Memory m faulty = faulty

-- a faulty field is so in one way
pub IsFaulty-codes : (field : List ℕ) (items others : List Item) → IsField field items → IsField field others → has_accepted_codes items ≡ false
    → has_accepted_codes others ≡ true → ⊥
IsFaulty-codes field items others is also no_codes codes =
    false≢true (sym no_codes ∙ ap has_accepted_codes (IsField-unique field items others is also) ∙ codes)

pub IsFaulty-unique : (field : List ℕ) (a b : FacilityFault) → IsFaulty field a → IsFaulty field b → a ≡ b
IsFaulty-unique field Length Length f g = refl
IsFaulty-unique field Length Code f g = absurd (f g.0 g.1)
IsFaulty-unique field Length Param f g = absurd (f g.0 g.1)
IsFaulty-unique field Length Memory f g = absurd g
IsFaulty-unique field Code Length f g = absurd (g f.0 f.1)
IsFaulty-unique field Code Code f g = refl
IsFaulty-unique field Code Param f g = absurd (IsFaulty-codes field f.0 g.0 f.1 g.1 f.2 g.2)
IsFaulty-unique field Code Memory f g = absurd g
IsFaulty-unique field Param Length f g = absurd (g f.0 f.1)
IsFaulty-unique field Param Code f g = absurd (IsFaulty-codes field g.0 f.0 g.1 f.1 g.2 f.2)
IsFaulty-unique field Param Param f g = refl
IsFaulty-unique field Param Memory f g = absurd g
IsFaulty-unique field Memory b f g = absurd f

pub one_reading : {A : Type 0} (field : List ℕ) → HasOneReading A field
one_reading {A} field = record {
  items = IsField-unique field;
  some = some_reading field;
  meaning = Means-unique field;
  fault = IsFaulty-unique field;
  never_both = Means-faultless field;
}
