-- The port or the router that is read of a line is valid.
use Rattle.std.proofs.Common.{◌≡◌, ℕ, List, Option, None, Some, Ok, Err, option_and_then, refl}
use Rattle.std.specs.Option.{is_none}
use Rattle.toml.specs.Data.{Data, Members, as_str, get_member}
use Rattle.xp_file.specs.declared.entry.Access.{Access}
use Rattle.xp_file.specs.declared.entry.Access.TheVariants.{Port, Router}
use Rattle.xp_file.specs.declared.fault.SubscriptionFault.TheVariants as faults
use Rattle.xp_file.specs.declared.key.Key.TheVariants as keys
use Rattle.xp_file.specs.Entries.{IsAccess}
use Rattle.xp_file.specs.Keys.{key_text}
use Rattle.xp_file.specs.Reading.{◌>>=◌, number_in, router_in, ok_at, required}
use Rattle.xp_file.specs.Routers.{RouterData, IsPort, IsRouter, router_spelled}
use Rattle.xp_file.specs.SubscriptionFile.{port_of, access_beside, access_of}
use Rattle.xp_file.proofs.Choices.{err_is_ok, bind_ok, checked_ok}
use Rattle.xp_file.proofs.Ranges.{required_range, optional_range}
use Rattle.xp_file.proofs.RouterLemmas.{spelled_form}

port_of_form : (table : Members) (port : ℕ) → port_of table ≡ Ok (Some port) → IsPort port
port_of_form table port e = by (get_member (key_text keys.Router) table) refl
  where
    alone : (required (number_in 1 65535) keys.Port table >>= λ p. Ok (Some p)) ≡ Ok (Some port) → IsPort port
    alone e =
        let (p, is, made) = bind_ok (required (number_in 1 65535) keys.Port table) (λ p. Ok (Some p)) (Some port) e in
        let this : p ≡ port = cc in
        rw (← this) (required_range 1 65535 keys.Port table p is)

    by : (router : Option Data) → get_member (key_text keys.Router) table ≡ router → IsPort port
    by None none = alone (rw none at e)
    by (Some router) is = optional_range 1 65535 keys.Port table port (rw is at e)

router_of_form : (table : Members) (router : RouterData) → required router_in keys.Router table ≡ Ok router → IsRouter router
router_of_form table router e = by (get_member (key_text keys.Router) table) e
  where
    text : (value : Option (List ℕ)) → ok_at keys.Router (option_and_then router_spelled value) ≡ Ok router → IsRouter router
    text None e = let never : Err (faults.Field keys.Router) ≡ Ok router = e in absurd (err_is_ok never)
    text (Some letters) e = spelled_form letters router (some_of (router_spelled letters) e)
      where
        some_of : (found : Option RouterData) → ok_at keys.Router found ≡ Ok router → found ≡ Some router
        some_of None e = let never : Err (faults.Field keys.Router) ≡ Ok router = e in absurd (err_is_ok never)
        some_of (Some r) e = let made : Ok r ≡ Ok router = e in cc

    by : (value : Option Data) → ok_at keys.Router (option_and_then router_in value) ≡ Ok router → IsRouter router
    by None e = let never : Err (faults.Field keys.Router) ≡ Ok router = e in absurd (err_is_ok never)
    by (Some value) e = text (as_str value) e

pub access_form : (table : Members) (access : Access) → access_of table ≡ Ok access → IsAccess access
access_form table access e =
    let (port, read, beside) = bind_ok (port_of table) (access_beside table) access e in
    by port read beside
  where
    by : (port : Option ℕ) → port_of table ≡ Ok port → access_beside table port ≡ Ok access → IsAccess access
    by None read e =
        let (router, is, made) = bind_ok (required router_in keys.Router table) (λ router. Ok (Router router)) access e in
        let this : Router router ≡ access = cc in
        rw (← this) (router_of_form table router is)
    by (Some port) read e =
        let made = checked_ok (is_none (get_member (key_text keys.Router) table)) (faults.Field keys.Router) (Ok (Port port)) access e in
        let this : Port port ≡ access = cc in
        rw (← this) (port_of_form table port read)
