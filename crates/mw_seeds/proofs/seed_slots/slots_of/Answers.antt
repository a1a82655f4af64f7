use Rattle.mw_seeds.specs.SeedFile.{file_slot}
use Rattle.mw_seeds.proofs.Pushed.{mapped}
use Rattle.mw_seeds.proofs.seed_slots.slots_of.Goals as goal

pub loop-slot-preserved : goal.loop-slot-preserved
loop-slot-preserved c =
    let l = c.loop-slot in
    mapped file_slot c.as_slice-slot-items.result.now l.slots c.push.new.self l.slot-index c.in_ok-slot_of.field-0 c.slot-item.result c.loop-slot-test.true c.slot-item.is c.in_ok-push.ensures.ok l.invariant
    c.in_ok-slot_of.ensures
