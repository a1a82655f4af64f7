use Rattle.std.proofs.Common.{rules, ◌≡◌, ◌<◌, true, length, arith}
use Rattle.mw_base.specs.Permissions.{permission_number}
use Rattle.mw_protocol.specs.Commands.{is_allowed}
use Rattle.mw_protocol.specs.Standing.{status_in}
use Rattle.mw_effects.specs.Given.{asking}
use Rattle.mw_effects.specs.Parts.{standing_of}
use Rattle.mw_effects.proofs.Gifts.{gift_effect}
use Rattle.mw_room.proofs.speaking.giving.Goals as goal

pub returns : goal.returns
returns c =
    let s = c.args.standing.now in
    let m = c.args.member.now in
    let told = c.in_ok-effect-3.ensures in
    let given = c.in_ok-given.given in
    let allowed : is_allowed (permission_number c.args.permission) (status_in (standing_of s) m.team m.slot) ≡ true = search rules in
    let some : 0 < length given.records = grind arith in
    gift_effect c.in_ok-effect-3.effect s m (permission_number c.args.permission) (status_in (standing_of s) m.team m.slot) (asking c.args.giving m.team m.slot) given allowed
    c.in_ok-given.ensures.given c.in_ok-given.ensures.records some
    told.records told.team told.new told.status told.hints told.payer told.stored (search rules)
