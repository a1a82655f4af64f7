use Rattle.mw_protocol.specs.Storing.{changing}
use Rattle.mw_effects.specs.Parts.{standing_of}
use Rattle.mw_effects.proofs.Effects.{quiet_effect}
use Rattle.mw_effects.proofs.storing.changing.Goals as goal

pub returns-in_ok-effect-in-Err : goal.returns-in_ok-effect-in-Err
returns-in_ok-effect-in-Err c =
    let s = c.args.standing.now in
    let m = c.args.member.now in
    let set = c.args.set.now in
    let made = c.in_ok-effect-in-Err in
    quiet_effect made.effect s (changing (standing_of s) m set) made.ensures.quiet (made.ensures.is (standing_of s) m set c.in-Err.ensures.answer)
