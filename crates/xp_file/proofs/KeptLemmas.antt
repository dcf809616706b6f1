-- What holds of all lines and groups that are read of a file.
use Rattle.std.proofs.Common.{◌≡◌, ℕ, ◌<◌, List, [], Bool, Option, Result, Ok, Err, All, length, map, ap, arith}
use Rattle.std.proofs.lemmas.List.{length-map}
use Rattle.toml.specs.Data.{Members}
use Rattle.xp_file.specs.declared.entry.Access.{Access}
use Rattle.xp_file.specs.declared.entry.LineEntry.{LineEntry}
use Rattle.xp_file.specs.declared.entry.GroupEntry.{GroupEntry}
use Rattle.xp_file.specs.declared.fault.SubscriptionFault.{SubscriptionFault}
use Rattle.xp_file.specs.declared.key.Key.TheVariants as keys
use Rattle.xp_file.specs.Entries.{IsLineEntry, IsGroupEntry}
use Rattle.xp_file.specs.SubscriptionFile.{port_of, access_of, line_of, group_of, lines_of, groups_of}
use Rattle.xp_file.specs.Reading.{◌>>=◌, line_name_in, group_name_in, number_in, address_in, modulus_in, sources_in, required, optional, defaulted, flag, each, examined}
use Rattle.xp_packets.specs.declared.modulus.Modulus.{Modulus}
use Rattle.xp_packets.specs.declared.modulus.Modulus.TheVariants.{Eight}
use Rattle.xp_file.proofs.Choices.{err_is_ok}
use Rattle.xp_file.proofs.EachLemmas.{All-each, length-each, line_name_form}
use Rattle.xp_file.proofs.Ranges.{required_range}
use Rattle.xp_file.proofs.AccessLemmas.{access_form}
use Rattle.xp_file.proofs.SourceLemmas.{sources_form}

line_parts : (name : Result (List ℕ) SubscriptionFault) (access : Result Access SubscriptionFault) (address : Result (Option (List ℕ)) SubscriptionFault)
    (modulus : Result Modulus SubscriptionFault) (from : Result (List (List ℕ)) SubscriptionFault) (line : LineEntry)
    → (name >>= λ n. access >>= λ p. address >>= λ a. modulus >>= λ m. from >>= λ f. Ok (record { name = n; access = p; address = a; modulus = m; from = f })) ≡ Ok line
    → (name ≡ Ok line.name) × (access ≡ Ok line.access) × (from ≡ Ok line.from)
line_parts (Ok n) (Ok p) (Ok a) (Ok m) (Ok f) line e =
    let is : record { name = n; access = p; address = a; modulus = m; from = f } ≡ line = cc in (
      ap (λ (l : LineEntry). let r : Result (List ℕ) SubscriptionFault = Ok l.name in r) is,
      ap (λ (l : LineEntry). let r : Result Access SubscriptionFault = Ok l.access in r) is,
      ap (λ (l : LineEntry). let r : Result (List (List ℕ)) SubscriptionFault = Ok l.from in r) is,
    )
line_parts (Ok n) (Ok p) (Ok a) (Ok m) (Err fault) line e = absurd (err_is_ok e)
line_parts (Ok n) (Ok p) (Ok a) (Err fault) from line e = absurd (err_is_ok e)
line_parts (Ok n) (Ok p) (Err fault) modulus from line e = absurd (err_is_ok e)
line_parts (Ok n) (Err fault) address modulus from line e = absurd (err_is_ok e)
line_parts (Err fault) access address modulus from line e = absurd (err_is_ok e)

line_kept : (table : Members) (line : LineEntry) → line_of table ≡ Ok line → IsLineEntry line
unfolding line_of
line_kept table line e =
    let (named, reached, sourced) = line_parts (required line_name_in keys.Name table) (access_of table)
    (optional address_in keys.Address table) (defaulted modulus_in Eight keys.Modulus table) (defaulted sources_in [] keys.From table) line e in
    record { spelled = line_name_form table line.name named; access = access_form table line.access reached; sources = sources_form table line.from sourced }

group_parts : (name : Result (List ℕ) SubscriptionFault) (index : Result ℕ SubscriptionFault) (outgoing incoming : Result Bool SubscriptionFault) (group : GroupEntry)
    → (name >>= λ n. index >>= λ i. outgoing >>= λ o. incoming >>= λ p. Ok (record { name = n; index = i; outgoing_barred = o; incoming_barred = p })) ≡ Ok group
    → index ≡ Ok group.index
group_parts (Ok n) (Ok i) (Ok o) (Ok p) group e =
    let is : record { name = n; index = i; outgoing_barred = o; incoming_barred = p } ≡ group = cc in
    ap (λ (g : GroupEntry). let r : Result ℕ SubscriptionFault = Ok g.index in r) is
group_parts (Ok n) (Ok i) (Ok o) (Err fault) group e = absurd (err_is_ok e)
group_parts (Ok n) (Ok i) (Err fault) incoming group e = absurd (err_is_ok e)
group_parts (Ok n) (Err fault) outgoing incoming group e = absurd (err_is_ok e)
group_parts (Err fault) index outgoing incoming group e = absurd (err_is_ok e)

group_kept : (table : Members) (group : GroupEntry) → group_of table ≡ Ok group → IsGroupEntry group
unfolding group_of
group_kept table group e =
    (required_range 0 9999 keys.Index table group.index
    (group_parts (required group_name_in keys.Name table) (required (number_in 0 9999) keys.Index table) (flag keys.OutgoingBarred table)
    (flag keys.IncomingBarred table) group e)).1

-- what comes after an examination
after : {A B : Type 0} (r : Result A SubscriptionFault) (next : Result B SubscriptionFault) (y : B) → (r >>= λ x. next) ≡ Ok y → next ≡ Ok y
after (Ok x) next y e = e
after (Err fault) next y e = absurd (err_is_ok e)

pub lines_kept : (tables : List Members) (lines : List LineEntry) → lines_of tables ≡ Ok lines → (length lines ≡ length tables) × All IsLineEntry lines
unfolding lines_of
lines_kept tables lines e =
    let ports = examined port_of tables in
    let accesses = examined access_of tables in
    let addresses = examined (optional address_in keys.Address) tables in
    let moduli = examined (defaulted modulus_in Eight keys.Modulus) tables in
    let reached = after ports (accesses >>= λ r. addresses >>= λ a. moduli >>= λ m. each line_of tables) lines
    (after (examined (required line_name_in keys.Name) tables) _ lines e) in
    let addressed = after accesses (addresses >>= λ a. moduli >>= λ m. each line_of tables) lines reached in
    let read = after moduli (each line_of tables) lines (after addresses (moduli >>= λ m. each line_of tables) lines addressed) in
    (length-each line_of tables lines read, All-each IsLineEntry line_of line_kept tables lines read)

pub groups_kept : (tables : List Members) (groups : List GroupEntry) → groups_of tables ≡ Ok groups → All IsGroupEntry groups
unfolding groups_of
groups_kept tables groups e =
    let outgoing = examined (flag keys.OutgoingBarred) tables in
    let indexed = after (examined (required (number_in 0 9999) keys.Index) tables) (outgoing >>= λ o. each group_of tables) groups
    (after (examined (required group_name_in keys.Name) tables) _ groups e) in
    All-each IsGroupEntry group_of group_kept tables groups (after outgoing (each group_of tables) groups indexed)

-- as many values as tables, of which there is one
pub as_many : {X Y B : Type 0} (shown : X → Y) (all tables : List X) (values : List B) → tables ≡ all → 0 < length all
    → length values ≡ length (map shown tables) → 0 < length values
as_many shown all tables values same_tables some long =
    let shown_long : length (map shown tables) ≡ length tables = length-map tables shown in
    let same_long : length tables ≡ length all = ap length same_tables in
    omega arith
