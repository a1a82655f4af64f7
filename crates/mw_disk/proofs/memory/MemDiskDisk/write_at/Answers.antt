use Rattle.std.proofs.Common.{[], ◌∷◌, ◌++◌, ℕ, List, length, ap, ◌∙◌, arith}
use Rattle.std.proofs.lemmas.Grind.{common_steps}
use Rattle.mw_disk.specs.declared.calls.MadeCall.{MadeCall}
use Rattle.mw_disk.specs.declared.calls.DiskCall.TheVariants.{Write}
use Rattle.mw_disk.specs.Laws.{unwritten_torn}
use Rattle.mw_disk.proofs.Recorded.{grew, grew_image, grew_bytes, grew_elapses, grew_held, kept_image}
use Rattle.mw_disk.proofs.memory.MemDiskDisk.write_at.Goals as goal

pub returns-in_default-clause-crash : goal.returns-in_default-clause-crash
returns-in_default-clause-crash c image now =
    let was = kept_image c.args.self.now c.self.inside.start c.self.inside.calls.items c.prepare.new.calls.items c.self.inside.failing image c.self.view_is c.prepare.ensures.calls now in
    (image, was, unwritten_torn c.args.at (length c.args.bytes.now) image)

pub invariant_of-self-2 : goal.invariant_of-self-2
invariant_of-self-2 c =
    let next = c.note.ensures ∙ ap (λ (b : List ℕ). c.prepare.new.calls.items ++ (let m : MadeCall = record { call = Write c.args.at b; answer = c.write_planned-answer.result } in m) ∷ []) c.in-Ok.ensures.bytes in
    let made : MadeCall = record { call = Write c.args.at c.args.bytes.now; answer = c.write_planned-answer.result } in
    let g = grew c.args.self.now c.self.inside.start c.self.inside.calls.items c.prepare.new.calls.items c.note.new.calls.items c.self.inside.failing made c.self.view_is c.prepare.ensures.calls next in
    grew_held c.args.self.now c.self.inside.start c.self.inside.calls.items c.note.new.calls.items c.self.inside.failing made c.self.inside.bytes.items c.write_planned-answer.new.bytes.items c.self.view_is g c.self.invariant c.write_planned-answer.ensures.bytes

pub returns-clause-written : goal.returns-clause-written
returns-clause-written c =
    let next = c.note.ensures ∙ ap (λ (b : List ℕ). c.prepare.new.calls.items ++ (let m : MadeCall = record { call = Write c.args.at b; answer = c.write_planned-answer.result } in m) ∷ []) c.in-Ok.ensures.bytes in
    let made : MadeCall = record { call = Write c.args.at c.args.bytes.now; answer = c.write_planned-answer.result } in
    let g = grew c.args.self.now c.self.inside.start c.self.inside.calls.items c.prepare.new.calls.items c.note.new.calls.items c.self.inside.failing made c.self.view_is c.prepare.ensures.calls next in
    grind (arith, common_steps, grew_bytes c.args.self.now c.self.inside.start c.note.new.calls.items made g)

pub returns-clause-crash : goal.returns-clause-crash
returns-clause-crash c image now =
    let next = c.note.ensures ∙ ap (λ (b : List ℕ). c.prepare.new.calls.items ++ (let m : MadeCall = record { call = Write c.args.at b; answer = c.write_planned-answer.result } in m) ∷ []) c.in-Ok.ensures.bytes in
    let made : MadeCall = record { call = Write c.args.at c.args.bytes.now; answer = c.write_planned-answer.result } in
    let g = grew c.args.self.now c.self.inside.start c.self.inside.calls.items c.prepare.new.calls.items c.note.new.calls.items c.self.inside.failing made c.self.view_is c.prepare.ensures.calls next in
    grew_image c.args.self.now c.self.inside.start c.note.new.calls.items made image g now

pub returns-clause-time : goal.returns-clause-time
returns-clause-time c =
    let next = c.note.ensures ∙ ap (λ (b : List ℕ). c.prepare.new.calls.items ++ (let m : MadeCall = record { call = Write c.args.at b; answer = c.write_planned-answer.result } in m) ∷ []) c.in-Ok.ensures.bytes in
    let made : MadeCall = record { call = Write c.args.at c.args.bytes.now; answer = c.write_planned-answer.result } in
    let g = grew c.args.self.now c.self.inside.start c.self.inside.calls.items c.prepare.new.calls.items c.note.new.calls.items c.self.inside.failing made c.self.view_is c.prepare.ensures.calls next in
    grew_elapses c.args.self.now c.self.inside.start c.note.new.calls.items made g
