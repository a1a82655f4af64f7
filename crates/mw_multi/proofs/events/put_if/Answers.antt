use Rattle.std.proofs.Common.{List, ◌++◌, sym, subst}
use Rattle.std.specs.Prelude.{OnOk}
use Rattle.mw_multi.specs.Placement.{Put as PlainPut}
use Rattle.mw_multi.specs.Placement.{IsPlaced}
use Rattle.mw_multi.specs.Events.{put_where}
use Rattle.mw_multi.proofs.events.put_if.Goals as goal

pub returns-then-free-clause-put : goal.returns-then-free-clause-put
returns-then-free-clause-put c =
    let a = c.args in
    subst (λ b. OnOk c.put.result ((puts : List PlainPut) → IsPlaced a.joint.now puts a.placed.now → IsPlaced a.joint.now (puts ++ put_where b a.put) c.put.new.self))
    (sym c.if-free.true) c.put.ensures.ok
