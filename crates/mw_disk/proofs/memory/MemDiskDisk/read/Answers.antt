use Rattle.std.proofs.Common.{◌≡◌, ℕ, List, length, refl, arith, Bool, true, false}
use Rattle.std.specs.Prelude.{is_ok, if◌then◌else◌}
use Rattle.std.proofs.lemmas.Grind.{common_steps}
use Rattle.mw_disk.specs.declared.calls.MadeCall.{MadeCall}
use Rattle.mw_disk.specs.declared.calls.DiskCall.TheVariants.{Read}
use Rattle.mw_disk.proofs.Recorded.{grew, grew_image, grew_bytes, grew_elapses, grew_held}
use Rattle.mw_disk.proofs.memory.MemDiskDisk.read.Goals as goal

unchanged : (ok : Bool) (bytes : List ℕ) → bytes ≡ (if ok then bytes else bytes)
unchanged true bytes = refl
unchanged false bytes = refl

pub invariant_of-self-2 : goal.invariant_of-self-2
invariant_of-self-2 c =
    let made : MadeCall = record { call = Read c.args.at (length c.args.into.now); answer = c.planned-plan.result } in
    let g = grew c.args.self.now c.self.inside.start c.self.inside.calls.items c.reserve.new.self.items c.note.new.calls.items c.self.inside.failing made c.self.view_is c.reserve.ensures.items c.note.ensures in
    grew_held c.args.self.now c.self.inside.start c.self.inside.calls.items c.note.new.calls.items c.self.inside.failing made c.self.inside.bytes.items c.self.inside.bytes.items c.self.view_is g c.self.invariant (unchanged (is_ok c.planned-plan.result) c.self.inside.bytes.items)

pub returns-clause-same : goal.returns-clause-same
returns-clause-same c =
    let made : MadeCall = record { call = Read c.args.at (length c.args.into.now); answer = c.planned-plan.result } in
    let g = grew c.args.self.now c.self.inside.start c.self.inside.calls.items c.reserve.new.self.items c.note.new.calls.items c.self.inside.failing made c.self.view_is c.reserve.ensures.items c.note.ensures in
    grind (arith, common_steps, grew_bytes c.args.self.now c.self.inside.start c.note.new.calls.items made g)

pub returns-clause-crash : goal.returns-clause-crash
returns-clause-crash c image now =
    let made : MadeCall = record { call = Read c.args.at (length c.args.into.now); answer = c.planned-plan.result } in
    let g = grew c.args.self.now c.self.inside.start c.self.inside.calls.items c.reserve.new.self.items c.note.new.calls.items c.self.inside.failing made c.self.view_is c.reserve.ensures.items c.note.ensures in
    grew_image c.args.self.now c.self.inside.start c.note.new.calls.items made image g now

pub returns-clause-time : goal.returns-clause-time
returns-clause-time c =
    let made : MadeCall = record { call = Read c.args.at (length c.args.into.now); answer = c.planned-plan.result } in
    let g = grew c.args.self.now c.self.inside.start c.self.inside.calls.items c.reserve.new.self.items c.note.new.calls.items c.self.inside.failing made c.self.view_is c.reserve.ensures.items c.note.ensures in
    grew_elapses c.args.self.now c.self.inside.start c.note.new.calls.items made g
