use Rattle.std.proofs.Common.{◌≡◌, false, map, arith}
use Rattle.mw_effects.specs.Parts.{paid_by}
use Rattle.mw_effects.specs.Views.{announced_view}
use Rattle.mw_owed.specs.Concerned.{hears_some, is_finder}
use Rattle.mw_owed.specs.Receivers.{owns_one, receivers_in}
use Rattle.mw_owed.proofs.Concerned.{nothing_owed}
use Rattle.mw_owed.proofs.concerning.may_owe_member.Goals as goal

pub returns : goal.returns
returns c = λ calm.
    let s = c.args.standing.now in
    let e = c.args.effect.now in
    let m = c.args.member.now in
    let told = c.requires.shared.told in
    let received = c.requires.shared.received in
    let silent : hears_some s.log.seed (map announced_view e.announced) m ≡ false = grind arith in
    let receives : owns_one s.log.seed (receivers_in s.log.seed e.new) m.slot ≡ false = grind arith in
    let unpaid : paid_by e m.team m.slot ≡ 0 = grind arith in
    let finds : is_finder e.new m.slot ≡ false = grind arith in
    nothing_owed s e m silent receives finds unpaid c.requires.logged
