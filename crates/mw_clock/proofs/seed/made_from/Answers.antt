use Rattle.std.proofs.Common.{codes, sym, subst}
use Rattle.mw_clock.specs.Seeds.{IsSeedless}
use Rattle.mw_clock.proofs.Seeded.{joint_is, stands_for_joint, clock_seed, seedless}
use Rattle.mw_clock.proofs.seed.made_from.Goals as goal

pub make_seed_by-requires-clause-rules : goal.make_seed_by-requires-clause-rules
make_seed_by-requires-clause-rules g c =
    let a = c.args in
    let h = c.requires in
    let is = joint_is a.gears (codes "clockwork.json") a.worlds.now a.players.now c.in-Ok.joint h.size h.worlds h.players c.in-Ok.ensures in
    stands_for_joint (g.R.Ruling.stands_for a.rules.now) a.gears c.in-Ok.joint is h.rules

pub returns-in-Ok-make_seed_by-clause-ok : goal.returns-in-Ok-make_seed_by-clause-ok
returns-in-Ok-make_seed_by-clause-ok g c =
    let a = c.args in
    let h = c.requires in
    let is = joint_is a.gears (codes "clockwork.json") a.worlds.now a.players.now c.in-Ok.joint h.size h.worlds h.players c.in-Ok.ensures in
    clock_seed a.gears a.seed c.in-Ok.joint _ _ h.size is c.in-Ok-make_seed_by.ensures.ok

pub returns-clause-err : goal.returns-clause-err
returns-clause-err g c =
    let a = c.args in
    let h = c.requires in
    let is = joint_is a.gears (codes "clockwork.json") a.worlds.now a.players.now c.in-Ok.joint h.size h.worlds h.players c.in-Ok.ensures in
    subst (IsSeedless a.gears a.seed) (sym c.refusal_stop.ensures) (seedless a.gears a.seed c.in-Ok.joint c.in-Err.error h.size is c.in-Err.ensures.err)
