-- What the decision tells a line can be written.
use Rattle.std.proofs.Common.{◌≡◌, ℕ, ◌≤◌, ◌&&◌, min, true, leb, length, List, Option, None, Some, Ok, Err, refl, sym, ◌∙◌, ap, subst, arith}
use Rattle.std.proofs.Math.Nat.{le-min, min-le_left, min-le_right}
use Rattle.std.proofs.lemmas.Bool.{and_parts, and_from, leb-true, le-leb}
use Rattle.std.proofs.lemmas.List.Elements.{All-contains}
use Rattle.std.specs.Prelude.{IfSome}
use Rattle.xp_facilities.proofs.Bounds.{told-length, told-exchange}
use Rattle.xp_facilities.proofs.Meant.{AsksInRange, asks_in_range}
use Rattle.xp_facilities.specs.Items.{octets_of_all}
use Rattle.xp_facilities.specs.Limits.{largest_window}
use Rattle.xp_facilities.specs.Octets.{is_within}
use Rattle.xp_facilities.specs.Indicated as indicated
use Rattle.xp_facilities.specs.Indicated.{index_fits, sizes_fit, duration_fits, counts_fit, is_in_range, indicated_items, Indicates, Writes}
use Rattle.xp_facilities.specs.declared.requested.RequestedFacilities.{RequestedFacilities}
use Rattle.xp_facilities.specs.declared.fault.FacilityFault.{FacilityFault}
use Rattle.xp_facilities.specs.declared.fault.FacilityFault.TheVariants.{Length, Code, Param, Memory}
use Rattle.xp_facilities.specs.declared.direction_sizes.DirectionSizes.{DirectionSizes}
use Rattle.xp_facilities.specs.declared.indicated.IndicatedFacilities.{IndicatedFacilities}
use Rattle.xp_facilities.specs.declared.redirection.Reason.{Reason}
use Rattle.xp_facilities.specs.declared.selection.Selection.TheVariants.{Nothing, Closed, WithOutsideAccess}
use Rattle.xp_groups.proofs.Joined.{part_held}
use Rattle.xp_groups.specs.Admits.{Admits}
use Rattle.xp_groups.specs.Admits as admits
use Rattle.xp_groups.specs.Groups.{membership_in}
use Rattle.xp_groups.specs.declared.admission.Admission.{Admission}
use Rattle.xp_groups.specs.declared.intention.Intent.{Intent}
use Rattle.xp_hunt.specs.declared.lines.LineState.{LineState}
use Rattle.xp_packets.specs.declared.block.Block.{Block}
use Rattle.xp_packets.specs.declared.modulus.Modulus.{Modulus}
use Rattle.xp_packets.specs.declared.modulus.Modulus.TheVariants.{Eight, Long}
use Rattle.xp_subs.specs.Sound.{IsSound, HasShortIndexes}
use Rattle.xp_subs.specs.Tables.{Tables, modulus_of, station_of}
use Rattle.xp_subs.specs.declared.station.Membership.{Membership}
use Rattle.xp_subs.specs.declared.station.Station.{Station}
use Rattle.xp_decide.proofs.Joined.{is_placed}
use Rattle.xp_decide.specs.Asks.{windows_fit, Asks, wanted_of}
use Rattle.xp_decide.specs.Decided.{Decided}
use Rattle.xp_decide.specs.Decided as decided
use Rattle.xp_decide.specs.IncomingCalls.{reduced_to, indicated_packet, indicated_window, notified, told_of, incoming_call_of}
use Rattle.xp_decide.specs.Routes.{first_reason, Reaches, TakesAt}
use Rattle.xp_decide.specs.Routes as routes
use Rattle.xp_decide.specs.LinesForCaller.{state_for_caller}
use Rattle.xp_decide.specs.Indicated.{largest_window_on, TellsWithin, IndicatesSizes, IndicatesSizesForBoth}
use Rattle.xp_decide.specs.Written.{CanBeWritten}
use Rattle.xp_decide.specs.declared.acceptance.Wanted.{Wanted}
use Rattle.xp_decide.specs.declared.request.Request.{Request}
use Rattle.xp_decide.specs.declared.route.Destination.{Destination}
use Rattle.xp_decide.specs.declared.verdict.IncomingCall.{IncomingCall}
use Rattle.xp_decide.specs.declared.verdict.Verdict.TheVariants.{Take}

part_short : (station : Station) (group : Option ℕ) (held : Membership) → HasShortIndexes station
    → membership_in station group ≡ Some held → held.index ≤ 9_999
part_short station group held short is =
    All-contains (λ (m : Membership). m.index ≤ 9_999) station.memberships.items held short (part_held station group held is).0

index_told : (intent : Intent) (station : Station) (admission : Admission) → HasShortIndexes station
    → Admits intent station (Ok admission) → index_fits admission.indicated ≡ true
unfolding index_fits
index_told intent station admission short (admits.no_groups _ _ e) =
    let same : admission ≡ record { indicated = Nothing } = cc in ap (λ (a : Admission). index_fits a.indicated) same
index_told intent station admission short (admits.no_groups_to_share _ _ e) = cc
index_told intent station admission short (admits.within_group held _ enters _ e) =
    let same : admission ≡ record { indicated = Closed held.index } = cc in
    ap (λ (a : Admission). index_fits a.indicated) same ∙ le-leb held.index 9_999 (part_short station intent.group held short enters.0)
index_told intent station admission short (admits.within_group_open held _ enters _ e) =
    let same : admission ≡ record { indicated = WithOutsideAccess held.index } = cc in
    ap (λ (a : Admission). index_fits a.indicated) same ∙ le-leb held.index 9_999 (part_short station intent.group held short enters.0)
index_told intent station admission short (admits.incoming_access _ _ _ e) =
    let same : admission ≡ record { indicated = Nothing } = cc in ap (λ (a : Admission). index_fits a.indicated) same
index_told intent station admission short (admits.no_way_in _ _ _ e) = cc

-- a line that takes a call is told an index of its station, which stands in the tables
taker_short : (tables : Tables) (states : ℕ → LineState) (wanted : Wanted) (address : List ℕ) (line : ℕ) (admission : Admission) → IsSound tables
    → TakesAt tables states wanted address line admission → index_fits admission.indicated ≡ true
taker_short tables states wanted address line admission sound takes =
    let placed = is_placed tables address takes.place line sound takes.known takes.idle.0 in
    let short = sound.indexes (station_of tables line) placed.is_there in
    index_told wanted.intent takes.place.station admission (subst HasShortIndexes (sym placed.station) short) takes.accepts.admitted

-- a size that is in its range, reduced to at most `bound`
size_reduced : (least bound most size : ℕ) → least ≤ bound → (leb least size && leb size most) ≡ true
    → (leb least (min size bound) && leb (min size bound) bound) ≡ true
size_reduced least bound most size low fits =
    and_from _ _
    (le-leb least (min size bound) (le-min (leb-true least size (and_parts _ _ fits).0) low))
    (le-leb (min size bound) bound (min-le_right size bound))

sizes_reduced : (least bound most : ℕ) (sizes : DirectionSizes) → least ≤ bound → is_within least most sizes ≡ true
    → is_within least bound (reduced_to bound sizes) ≡ true
sizes_reduced least bound most sizes low fits =
    let parts = and_parts _ _ fits in
    and_from _ _ (size_reduced least bound most sizes.from_called low parts.0) (size_reduced least bound most sizes.from_calling low parts.1)

packet_indicated : (asked : Option DirectionSizes) → sizes_fit 4 12 asked ≡ true → is_within 4 10 (indicated_packet asked) ≡ true
unfolding sizes_fit
packet_indicated None fits = refl
packet_indicated (Some sizes) fits = sizes_reduced 4 10 12 sizes (omega arith) fits

-- a line has a window of 1, and none over the largest
some_window : (modulus : Modulus) → 1 ≤ largest_window_on modulus
some_window Eight = omega arith
some_window Long = omega arith

largest_of_all : (modulus : Modulus) → largest_window_on modulus ≤ largest_window
largest_of_all Eight = omega arith
largest_of_all Long = omega arith

-- what a line may not have over, it is not told
window_indicated : (modulus : Modulus) (asked : Option DirectionSizes) → sizes_fit 1 largest_window asked ≡ true
    → is_within 1 (largest_window_on modulus) (indicated_window modulus asked) ≡ true
unfolding sizes_fit
window_indicated Eight None fits = refl
window_indicated Long None fits = refl
window_indicated modulus (Some sizes) fits = sizes_reduced 1 (largest_window_on modulus) largest_window sizes (some_window modulus) fits

-- a range that is wider
size_wider : (least most more size : ℕ) → most ≤ more → (leb least size && leb size most) ≡ true → (leb least size && leb size more) ≡ true
size_wider least most more size wide fits =
    let parts = and_parts _ _ fits in
    and_from _ _ parts.0 (le-leb size more (omega (arith, leb-true size most parts.1)))

sizes_wider : (least most more : ℕ) (sizes : DirectionSizes) → most ≤ more → is_within least most sizes ≡ true → is_within least more sizes ≡ true
sizes_wider least most more sizes wide fits =
    let parts = and_parts _ _ fits in
    and_from _ _ (size_wider least most more sizes.from_called wide parts.0) (size_wider least most more sizes.from_calling wide parts.1)

-- so a field can tell them
packet_told : (asked : Option DirectionSizes) → sizes_fit 4 12 asked ≡ true → is_within 4 12 (indicated_packet asked) ≡ true
packet_told asked fits = sizes_wider 4 10 12 (indicated_packet asked) (omega arith) (packet_indicated asked fits)

window_told : (modulus : Modulus) (asked : Option DirectionSizes) → sizes_fit 1 largest_window asked ≡ true
    → is_within 1 largest_window (indicated_window modulus asked) ≡ true
window_told modulus asked fits =
    sizes_wider 1 (largest_window_on modulus) largest_window (indicated_window modulus asked) (largest_of_all modulus) (window_indicated modulus asked fits)

-- what the caller's line may not have over, it may not ask for; and the windows are not made larger
size_kept : (bound most size : ℕ) → leb size most ≡ true → leb (min size bound) most ≡ true
size_kept bound most size few =
    let less = min-le_left size bound in
    le-leb (min size bound) most (omega (arith, leb-true size most few, less))

window_kept : (caller modulus : Modulus) (asked : Option DirectionSizes) → windows_fit caller asked ≡ true → sizes_fit 1 largest_window asked ≡ true
    → is_within 1 (largest_window_on caller) (indicated_window modulus asked) ≡ true
window_kept Eight Eight None few fits = refl
window_kept Eight Long None few fits = refl
window_kept Long Eight None few fits = refl
window_kept Long Long None few fits = refl
window_kept caller modulus (Some sizes) few fits =
    let within = and_parts _ _ (window_indicated modulus (Some sizes) fits) in
    let called = and_parts _ _ within.0 in
    let calling = and_parts _ _ within.1 in
    let parts = and_parts _ _ few in
    let bound = largest_window_on modulus in
    let most = largest_window_on caller in
    and_from _ _
    (and_from _ _ called.0 (size_kept bound most sizes.from_called parts.0))
    (and_from _ _ calling.0 (size_kept bound most sizes.from_calling parts.1))

dialled_few : (reason : Option Reason) (dialled : List ℕ) → length dialled ≤ 15 → IfSome (notified reason dialled) (λ r. length r.dialled ≤ 15)
dialled_few None dialled few = tt
dialled_few (Some reason) dialled few = few

-- what a field tells is refused for want of memory alone
for_memory : {A : Type 0} (told : IndicatedFacilities A) (field : List ℕ) → Indicates told field
    → (fault : FacilityFault) → Writes told (Err fault) → fault ≡ Memory
for_memory told field tells Length none = absurd (none tells.carried tells.dte)
for_memory told field tells Code never = absurd never
for_memory told field tells Param (carried, items, wrong) = let is = tells.in_range in cc
for_memory told field tells Memory _ = refl

-- bounds of both sizes, one after the other
within_bounds : (least most : ℕ) (sizes : DirectionSizes) → is_within least most sizes ≡ true → TellsWithin least most (Some sizes)
within_bounds least most sizes fits =
    let parts = and_parts _ _ fits in
    let called = and_parts _ _ parts.0 in
    let calling = and_parts _ _ parts.1 in
    record {
      sizes = sizes;
      told_are = refl;
      called_least = leb-true least sizes.from_called called.0;
      called_most = leb-true sizes.from_called most called.1;
      calling_least = leb-true least sizes.from_calling calling.0;
      calling_most = leb-true sizes.from_calling most calling.1;
    }

module _ {A : Type 0} (modulus : Modulus) (asked : RequestedFacilities A) (admission : Admission) (reason : Option Reason) (dialled : List ℕ) where
  told_in_range : index_fits admission.indicated ≡ true → AsksInRange asked → is_in_range (told_of modulus asked admission reason dialled) ≡ true
  unfolding is_in_range sizes_fit duration_fits counts_fit
  told_in_range index asks =
      let few = le-leb (length asked.dte) 80 asks.dte.few in
      rw (index, packet_told asked.packet asks.packet, window_told modulus asked.window asks.window, few) refl

  told_written : index_fits admission.indicated ≡ true → AsksInRange asked → length dialled ≤ 15
      → CanBeWritten (told_of modulus asked admission reason dialled)
  told_written index asks few =
      let told = told_of modulus asked admission reason dialled in
      let field = octets_of_all (indicated_items told asks.dte.carried) in
      let tells : Indicates told field = record {
        carried = asks.dte.carried;
        dte = asks.dte.is_carried;
        in_range = told_in_range index asks;
        whole = refl;
      } in
      record {
        field = field;
        tells = tells;
        most = λ other also. told-exchange told (length other) (told-length told other also (dialled_few reason dialled few)) (indicated.incoming refl refl refl);
        refused = for_memory told field tells;
      }

module _ {A : Type 0} (tables : Tables) (states : ℕ → LineState) (from : ℕ) (block : Block A) (sound : IsSound tables) (few : length block.called ≤ 15) where
  by_way : (request : Request A) (end : Destination) → Asks tables from block request
      → Reaches tables (state_for_caller from states) (wanted_of request) block.called (Ok end)
      → CanBeWritten (told_of (modulus_of tables end.line) request.asked end.admission end.reason block.called)
  by_way request end asks (routes.taken hops last line admission _ _ _ takes e) =
      let same : end ≡ record { line = line; admission = admission; reason = first_reason hops } = cc in
      let index = taker_short tables (state_for_caller from states) (wanted_of request) last line admission sound takes in
      let P : Destination → Type 0 = λ r. CanBeWritten (told_of (modulus_of tables r.line) request.asked r.admission r.reason block.called) in
      subst P (sym same) (
      told_written (modulus_of tables line) request.asked admission (first_reason hops) block.called index (asks_in_range block.facilities request.asked asks.means) few
      )
  by_way request end asks (routes.refused _ _ _ _ _ _ _ e) = cc
  by_way request end asks (routes.too_many _ _ _ _ e) = cc

  pub told_can_be_written : (ring : IncomingCall A) → Decided tables states from block (Take ring) → CanBeWritten ring.told
  told_can_be_written ring (decided.not_asked _ _ e) = cc
  told_can_be_written ring (decided.not_reached _ _ _ _ e) = cc
  told_can_be_written ring (decided.reached request end asks way e) =
      let same : ring ≡ incoming_call_of (modulus_of tables end.line) request.asked end block.called = cc in
      let P : IncomingCall A → Type 0 = λ r. CanBeWritten r.told in
      subst P (sym same) (by_way request end asks way)

module _ {A : Type 0} (tables : Tables) (states : ℕ → LineState) (from : ℕ) (block : Block A) where
  sizes_for : (modulus : Modulus) (request : Request A) (end : Destination) → Asks tables from block request
      → is_within 1 (largest_window_on modulus) (indicated_window (modulus_of tables end.line) request.asked.window) ≡ true
      → IndicatesSizes modulus (told_of (modulus_of tables end.line) request.asked end.admission end.reason block.called)
  sizes_for modulus request end asks windows =
      let range = asks_in_range block.facilities request.asked asks.means in
      record {
        packet = within_bounds 4 10 (indicated_packet request.asked.packet) (packet_indicated request.asked.packet range.packet);
        window = within_bounds 1 (largest_window_on modulus) (indicated_window (modulus_of tables end.line) request.asked.window) windows;
      }

  pub told_sizes : (ring : IncomingCall A) → Decided tables states from block (Take ring) → IndicatesSizesForBoth tables from ring
  told_sizes ring (decided.not_asked _ _ e) = cc
  told_sizes ring (decided.not_reached _ _ _ _ e) = cc
  told_sizes ring (decided.reached request end asks way e) =
      let same : ring ≡ incoming_call_of (modulus_of tables end.line) request.asked end block.called = cc in
      let range = asks_in_range block.facilities request.asked asks.means in
      let caller = modulus_of tables from in
      let called = modulus_of tables end.line in
      subst (IndicatesSizesForBoth tables from) (sym same) (
        sizes_for caller request end asks (window_kept caller called request.asked.window asks.window range.window),
        sizes_for called request end asks (window_indicated called request.asked.window range.window),
      )
