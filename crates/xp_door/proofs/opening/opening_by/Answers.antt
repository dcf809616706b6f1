use Rattle.std.proofs.Common.{Err, subst}
use Rattle.xp_frames.specs.Deframer.{Feeds}
use Rattle.xp_door.proofs.Openings.{opens_badly, opens_well}
use Rattle.xp_door.proofs.opening.opening_by.Goals as goal

pub returns-in-Ok : goal.returns-in-Ok
returns-in-Ok c =
    opens_well c.args.frames.now c.feed.new.self c.args.octets.now c.first_in.result c.requires c.in-Ok.ensures.2 c.in-Ok.ensures.3 c.first_in.ensures

pub returns-in-Err-Version : goal.returns-in-Err-Version
returns-in-Err-Version c =
    let fed = subst (λ fault. Feeds c.args.frames.now c.args.octets.now (Err fault) c.feed.new.self) c.in-Err-Version.field-0-is c.in-Err-Version.ensures in
    opens_badly c.args.frames.now c.feed.new.self c.args.octets.now c.first_in-in-Err-Version.result _ c.requires fed.2 fed.3 c.first_in-in-Err-Version.ensures

pub returns-in-Err-Length : goal.returns-in-Err-Length
returns-in-Err-Length c =
    let fed = subst (λ fault. Feeds c.args.frames.now c.args.octets.now (Err fault) c.feed.new.self) c.in-Err-Length.field-0-is c.in-Err-Length.ensures in
    opens_badly c.args.frames.now c.feed.new.self c.args.octets.now c.first_in-in-Err-Length.result _ c.requires fed.2 fed.3 c.first_in-in-Err-Length.ensures
