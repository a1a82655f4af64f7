use Rattle.std.proofs.Common.{arith}
use Rattle.std.proofs.lemmas.Grind.{common_steps}
use Rattle.mw_disk.specs.declared.calls.MadeCall.{MadeCall}
use Rattle.mw_disk.specs.declared.calls.DiskCall.TheVariants.{Cut}
use Rattle.mw_disk.specs.Laws.{uncut}
use Rattle.mw_disk.proofs.Recorded.{grew, grew_image, grew_bytes, grew_elapses, grew_held, kept_image}
use Rattle.mw_disk.proofs.memory.MemDiskDisk.cut.Goals as goal

pub returns-then-is_err-clause-crash : goal.returns-then-is_err-clause-crash
returns-then-is_err-clause-crash c image now =
    let was = kept_image c.args.self.now c.self.inside.start c.self.inside.calls.items c.reserve.new.self.items c.self.inside.failing image c.self.view_is c.reserve.ensures.items now in
    (image, was, uncut c.args.len image)

pub invariant_of-self-2 : goal.invariant_of-self-2
invariant_of-self-2 c =
    let made : MadeCall = record { call = Cut c.args.len; answer = c.planned-plan.result } in
    let g = grew c.args.self.now c.self.inside.start c.self.inside.calls.items c.reserve.new.self.items c.note.new.calls.items c.self.inside.failing made c.self.view_is c.reserve.ensures.items c.note.ensures in
    grew_held c.args.self.now c.self.inside.start c.self.inside.calls.items c.note.new.calls.items c.self.inside.failing made c.self.inside.bytes.items c.cut_planned.new.bytes.items c.self.view_is g c.self.invariant c.cut_planned.ensures

pub returns-clause-cut : goal.returns-clause-cut
returns-clause-cut c =
    let made : MadeCall = record { call = Cut c.args.len; answer = c.planned-plan.result } in
    let g = grew c.args.self.now c.self.inside.start c.self.inside.calls.items c.reserve.new.self.items c.note.new.calls.items c.self.inside.failing made c.self.view_is c.reserve.ensures.items c.note.ensures in
    grind (arith, common_steps, grew_bytes c.args.self.now c.self.inside.start c.note.new.calls.items made g)

pub returns-clause-crash : goal.returns-clause-crash
returns-clause-crash c image now =
    let made : MadeCall = record { call = Cut c.args.len; answer = c.planned-plan.result } in
    let g = grew c.args.self.now c.self.inside.start c.self.inside.calls.items c.reserve.new.self.items c.note.new.calls.items c.self.inside.failing made c.self.view_is c.reserve.ensures.items c.note.ensures in
    grew_image c.args.self.now c.self.inside.start c.note.new.calls.items made image g now

pub returns-clause-time : goal.returns-clause-time
returns-clause-time c =
    let made : MadeCall = record { call = Cut c.args.len; answer = c.planned-plan.result } in
    let g = grew c.args.self.now c.self.inside.start c.self.inside.calls.items c.reserve.new.self.items c.note.new.calls.items c.self.inside.failing made c.self.view_is c.reserve.ensures.items c.note.ensures in
    grew_elapses c.args.self.now c.self.inside.start c.note.new.calls.items made g
