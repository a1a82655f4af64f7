use Rattle.std.proofs.Common.{ℕ, List, Option, ◌++◌, sym, subst, arith}
use Rattle.std.specs.Prelude.{OnOk, All}
use Rattle.mw_multi.specs.Placement.{Put as PlainPut}
use Rattle.mw_multi.specs.Placement.{PutKept, IsPlaced}
use Rattle.mw_multi.specs.Events.{event_at}
use Rattle.mw_multi.proofs.Owners.{slot_numbers_le}
use Rattle.mw_multi.proofs.events.put_event.Goals as goal

pub put-requires-clause-kept : goal.put-requires-clause-kept
put-requires-clause-kept c =
    let a = c.args in
    (subst (λ (o : Option ℕ). All (PutKept a.joint.now) (event_at a.receiver a.place o)) c.in-Some.is c.requires.kept) 0
    record { place = a.place; receiver = a.receiver; item = c.in-Some.item } (omega arith)

pub put-requires-clause-room : goal.put-requires-clause-room
put-requires-clause-room c =
    omega (arith, c.requires.room, slot_numbers_le c.args.joint.now record { place = c.args.place; receiver = c.args.receiver; item = c.in-Some.item } c.requires.slot)

pub returns-in-Some-clause-more : goal.returns-in-Some-clause-more
returns-in-Some-clause-more c =
    omega (arith, c.put.ensures.more, slot_numbers_le c.args.joint.now record { place = c.args.place; receiver = c.args.receiver; item = c.in-Some.item } c.requires.slot)

pub returns-in-Some-clause-put : goal.returns-in-Some-clause-put
returns-in-Some-clause-put c =
    let a = c.args in
    subst (λ (o : Option ℕ). OnOk c.put.result ((puts : List PlainPut) → IsPlaced a.joint.now puts a.placed.now → IsPlaced a.joint.now (puts ++ event_at a.receiver a.place o) c.put.new.self))
    (sym c.in-Some.is) c.put.ensures.ok
